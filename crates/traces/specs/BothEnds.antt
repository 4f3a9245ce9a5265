-- Demand 2 of the program: what a trace of the bulletin end's calls wrote on the wire, read by a trace of the printer end's calls.
use Rattle.std.specs.Prelude.{◌≡◌, ℕ, take}
use mathlib.Core.List.{List, map, Memᴰ, flat_map}
use Rattle.codes.specs.declared.Code.TheVariants.{Done}
use Rattle.codes.specs.declared.Note.TheVariants.{Clear}
use Rattle.printer.specs.Refinement.{view_printer}
use Rattle.printer.specs.State as rules-printer
use Rattle.printer.specs.declared.Printer.{Printer}
use Rattle.bulletin.specs.Refinement.{view_bulletin}
use Rattle.bulletin.specs.State as rules-bulletin
use Rattle.bulletin.specs.declared.Bulletin.{Bulletin}
use Rattle.read_back.specs.Ends.{NetworkCalls}
use Rattle.read_back.specs.TextSent.{Sending, as_call, all_data}
use Rattle.read_back.specs.ReadBack.{Demanded, Agreed, IacFree}
use Rattle.traces.specs.Chains.{last_of}
use Rattle.traces.specs.Traces as P
use Rattle.traces.specs.BulletinTraces as B

-- the bytes that a call wrote, as its buffer has them
abbrev pub sent_bytes : B.AnsweredCall → List ℕ
sent_bytes m = take m.answer.wire m.wire.after

abbrev pub printed_bytes : P.AnsweredCall → List ℕ
printed_bytes n = take n.answer.paper n.paper.after

-- a call of the printer end that only prints: code 0, no note, and nothing on the wire
pub record OnlyPrints (n : P.AnsweredCall) : Type 0 where
  pub code : n.answer.code ≡ Done
  pub note : n.answer.note ≡ Clear
  pub count : n.answer.wire ≡ 0
  pub wire : n.wire.after ≡ n.wire.before

-- Text sent and read: from the states b and p calls ms of the bulletin end, which are the sendings cs, and calls ns of the printer
-- end, which read just the bytes that ms wrote
pub record Exchange (b : Bulletin) (p : Printer) (cs : List Sending) (ms : List B.AnsweredCall) (ns : List P.AnsweredCall) : Type 0 where
  pub sends : B.Trace b ms
  pub sendings : B.calls_of ms ≡ map as_call cs
  pub reads : P.Trace p ns
  pub bytes : NetworkCalls (flat_map sent_bytes ms) (P.calls_of ns)

-- the printer end printed exactly this data, and the premise holds of the states behind the calls
pub record Delivered (Premise : rules-bulletin.BulletinState → rules-printer.PrinterState → Type 0) (b : Bulletin) (p : Printer) (bytes : List ℕ)
    (ms : List B.AnsweredCall) (ns : List P.AnsweredCall) : Type 0 where
  pub each : (n : P.AnsweredCall) → Memᴰ n ns → OnlyPrints n
  pub paper : flat_map printed_bytes ns ≡ bytes
  pub again : Premise (view_bulletin (last_of B.after b ms)) (view_printer (last_of P.after p ns))

-- Demand 2 of the program. Assumed: two states of the code that agree, 255 free; calls of the bulletin end that are
-- items and uses; calls of the printer end that read just the bytes found in their wire buffers. Promised: each of
-- the latter has code 0 and no note and writes nothing on the wire; the paper buffers have the data of what is
-- allowed, in order; the ends agree again. Ruled out: calls that follow the rules at first and then only answer 0;
-- other bytes in a buffer than were counted.
abbrev pub ProgramReadBack : Type 0
ProgramReadBack =
    (b : Bulletin) (p : Printer) → IacFree (view_bulletin b) → Agreed (view_bulletin b) (view_printer p)
    → (cs : List Sending) (ms : List B.AnsweredCall) (ns : List P.AnsweredCall) → Exchange b p cs ms ns
    → Delivered Agreed b p (all_data (view_bulletin b) cs) ms ns

-- Demand 2 of the program, as it is worded. Assumed: a trace of the bulletin end from a fresh one, and any state of the
-- printer end that meets the demand's premise with the state that it reached. Promised: the same, and that premise
-- again. Ruled out: a program whose ends no longer fit each other after some item; one that reads back only what
-- follows a fresh start.
abbrev pub ProgramTextReadBack : Type 0
ProgramTextReadBack =
    (before : List B.AnsweredCall) (f : B.TraceFromFresh before) (p : Printer)
    → Demanded (view_bulletin (last_of B.after f.start before)) (view_printer p)
    → (cs : List Sending) (ms : List B.AnsweredCall) (ns : List P.AnsweredCall) → Exchange (last_of B.after f.start before) p cs ms ns
    → Delivered Demanded (last_of B.after f.start before) p (all_data (view_bulletin (last_of B.after f.start before)) cs) ms ns
