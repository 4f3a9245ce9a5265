-- A standing text of the program is used only in the issue that it was defined for. The history is that of the calls as they were made: their
-- arguments, the codes that they answered, and the bytes found in their wire buffers.
use Rattle.std.specs.Prelude.{◌≡◌, ℕ}
use mathlib.Core.List.{List, map, flat_map, Memᴰ}
use Rattle.codes.specs.declared.Code.TheVariants.{Done}
use Rattle.printer.specs.Refinement.{view_printer}
use Rattle.printer.specs.declared.Printer.{Printer}
use Rattle.bulletin.specs.Refinement.{view_bulletin}
use Rattle.bulletin.specs.declared.Bulletin.{Bulletin}
use Rattle.read_back.specs.Ends.{NetworkCalls}
use Rattle.read_back.specs.ReadBack.{Demanded}
use Rattle.read_back.specs.History.{Made, events, DefinedInIssue}
use Rattle.traces.specs.Chains.{last_of}
use Rattle.traces.specs.Traces as P
use Rattle.traces.specs.BulletinTraces as B
use Rattle.traces.specs.BothEnds.{sent_bytes, printed_bytes, OnlyPrints}

abbrev pub made_of : B.AnsweredCall → Made
made_of m = record { call = B.call_of m; code = m.answer.code; wire = sent_bytes m }

-- a use of X in this state that was not refused
pub record UseDone (b : Bulletin) (x : ℕ) (m : B.AnsweredCall) : Type 0 where
  pub args : m.args ≡ B.Args.use_macro x
  pub meets : B.MeetsContract b m
  pub code : m.answer.code ≡ Done

-- calls of the printer end that printed the text of X's last DEFINE, accepted, and made in the issue that is in force behind these calls
pub record PrintedInIssue (before : List B.AnsweredCall) (x : ℕ) (ns : List P.AnsweredCall) : Type 0 where
  pub text : List ℕ
  pub in_issue : DefinedInIssue x text (events (map made_of before))
  pub each : (n : P.AnsweredCall) → Memᴰ n ns → OnlyPrints n
  pub paper : flat_map printed_bytes ns ≡ text

-- Assumed: a trace of the bulletin end from a fresh one, and behind it a use of X that is not refused; a state of the printer end that meets
-- the premise of demand 2 then, and calls that read just the bytes found in the use's wire buffer. Promised: the paper buffers have
-- the text of X's last DEFINE, which was answered by ACCEPT, and made in the issue in force at the use. Ruled out: a program whose
-- answers tell another history than its table; an expired paragraph in a paper buffer.
abbrev pub ProgramInIssue : Type 0
ProgramInIssue =
    (before : List B.AnsweredCall) (f : B.TraceFromFresh before) (x : ℕ) (m : B.AnsweredCall) → UseDone (last_of B.after f.start before) x m
    → (p : Printer) → Demanded (view_bulletin (last_of B.after f.start before)) (view_printer p)
    → (ns : List P.AnsweredCall) → P.Trace p ns → NetworkCalls (sent_bytes m) (P.calls_of ns)
    → PrintedInIssue before x ns
