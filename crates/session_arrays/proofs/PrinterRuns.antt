-- A run of network bytes on the printer end's arrays: how its code meets the rule.
use mathlib.Core.Path.{◌≡◌, refl, sym, ap, subst, ◌∙◌}
use mathlib.Core.Bool.{true, false}
use mathlib.Core.List.{List, [], ◌∷◌}
use Prim.Native.Nat.{ℕ, ◌-◌}
use native.Mathlib.Omega.{arith}
use lib.ListN.{length, get_or, set}
use Rattle.lists.specs.Buffers.{Lent, lent_as, untouched}
use Rattle.lists.proofs.Starts.{wrote_none, wrote_start}
use Rattle.codes.specs.Answers.{no_room, note_number}
use Rattle.codes.specs.declared.Code.TheVariants.{Done, NoRoom}
use Rattle.codes.specs.declared.Note.TheVariants.{Clear}
use Rattle.codes.proofs.Rooms.{both_lent}
use Rattle.reader.specs.NetworkRun.{RunEffect, cannot_begin, ran_from}
use Rattle.reader.proofs.NetworkRun.{run_refused, run_begun, ran_plain, ran_none, further_stays}
use Rattle.reader.specs.NetworkEnd.{PlainAt, Stepped, Finished}
use Rattle.reader.specs.declared.network_runs.ByteOutcome.{ByteOutcome}
use Rattle.reader.specs.declared.network_runs.Ran.{Ran}
use Rattle.printer.specs.State.{PrinterState, Effect, printing}
use Rattle.printer.specs.Network.{network_read}
use Rattle.printer.specs.Calls.{network_call}
use Rattle.printer.specs.NetworkRun.{printer_byte, network_run}
use Rattle.printer.specs.InPlace.{InPlaceEffect}
use Rattle.printer.specs.Refinement.{view_printer, CleanPrinter, RefinesAnswer}
use Rattle.printer.specs.declared.Printer.{Printer}
use Rattle.printer.specs.declared.Answer.{Answer}
use Rattle.printer.proofs.PlainBytes.{byte_plain}
use Rattle.printer.specs.NetworkEnd.{lawful, call_done}
use Rattle.session_arrays.specs.declared.printer_arrays.LentPrinterArrays.{LentPrinterArrays}
use Rattle.session_arrays.specs.Numbers.{run_outcome}
use Rattle.session_arrays.specs.PrinterArrays.{PrinterArrays, decoded_printer, encoded_printer, LentPrinter, arrays_in, lent_between, SameArrays}
use Rattle.session_arrays.specs.PrinterRuns.{view_lent, Keeps, RefinesByteOnPrinterArrays, RefinesRunOutcomeOnPrinterArrays, RefinesRunOnPrinterArrays, is_plain_in}
use Rattle.session_arrays.proofs.PrinterArrays.{printer_found_again}

-- the state that arrays stand for, as the rules see it
abbrev pub view_arrays : PrinterArrays → PrinterState
view_arrays a = view_printer (decoded_printer a)

abbrev pub lent_arrays : PrinterArrays → PrinterArrays → LentPrinter
lent_arrays before after = record { before = before; after = after }

-- a byte that was read by value, its state stored
pub byte_by_value : (b : ℕ) {before after : PrinterArrays} {paper wire : Lent} {s : Printer} {a : Answer}
    → no_room (length paper.before) (length wire.before) ≡ false
    → s ≡ decoded_printer before → RefinesAnswer (network_call (view_printer s) b) s paper wire a → after ≡ encoded_printer a.state
    → RefinesByteOnPrinterArrays (network_read (view_arrays before) b) (lent_arrays before after) paper wire (record { note = a.note; first = a.paper; wire = a.wire })
byte_by_value b {before} {after} {paper} {wire} {s} {a} room found refines stored =
    let read = (call_done (view_printer s) b (length paper.before) (length wire.before) room).1 in
    let is : decoded_printer after ≡ a.state = ap decoded_printer stored ∙ printer_found_again a.state in
    let same : (network_call (view_printer s) b (length paper.before) (length wire.before)).effect ≡ network_read (view_arrays before) b = read ∙ ap (λ (t : Printer). network_read (view_printer t) b) found in
    rw (← same) (record {
      note = refines.note;
      wrote = refines.wrote;
      view = ap view_printer is ∙ refines.view;
      sound = λ k. record { clean = subst CleanPrinter (sym is) (refines.clean (subst CleanPrinter (sym found) k.clean)); encoded = ap encoded_printer is ∙ sym stored };
    })

-- a step on arrays, and a run's outcome, as the laws at either end have them
pub stepped : {d : Effect} {before after : LentPrinterArrays} {paper wire : Lent} {r : ByteOutcome}
    → RefinesByteOnPrinterArrays d (lent_between before after) paper wire r → SameArrays before after
    → Stepped lawful view_lent Keeps d before after r.note paper wire r.first r.wire
stepped m same = record { note = m.note; on_first = m.wrote.paper; on_wire = m.wrote.wire; sees = m.view; kept = record { sound = m.sound; same_arrays = same } }

-- .. where it was not read in place: everything is still as it was
pub stepped_then : (b : ℕ) (before : LentPrinterArrays) (e : InPlaceEffect) {at : PrinterArrays} {after : LentPrinterArrays} {paper wire paper_after wire_after : List ℕ} {paper_at wire_at : List ℕ} {r : ByteOutcome}
    → (e.handled ≡ false) × (at ≡ arrays_in before) × (paper_at ≡ paper) × (wire_at ≡ wire) → SameArrays before after
    → RefinesByteOnPrinterArrays (network_read (view_arrays at) b) (lent_arrays at (arrays_in after)) (lent_as paper_at paper_after) (lent_as wire_at wire_after) r
    → Stepped lawful view_lent Keeps (network_read (view_lent before) b) before after r.note (lent_as paper paper_after) (lent_as wire wire_after) r.first r.wire
stepped_then b before e still same m = stepped (rw (still.1, still.2, still.3) at m) same

pub refines_run : {x : RunEffect Effect} {before after : LentPrinterArrays} {paper wire : Lent} {r : Ran}
    → Finished lawful view_lent Keeps x before after paper wire r
    → RefinesRunOutcomeOnPrinterArrays (record { code = Done; ran = x }) (lent_between before after) paper wire (run_outcome Done r.note r.taken r.first r.wire)
refines_run f = record {
  code = refl;
  note = ap note_number f.step.note;
  taken = f.taken;
  wrote = record { paper = f.step.on_first; wire = f.step.on_wire };
  view = f.step.sees;
  sound = f.step.kept.sound;
  same = λ n. absurd (n refl);
}

pub refines_refused : (arrays : PrinterArrays) (bytes paper wire : List ℕ) → cannot_begin (length bytes) (length paper) (length wire) ≡ true
    → RefinesRunOnPrinterArrays (network_run (view_arrays arrays) bytes) (lent_arrays arrays arrays) (untouched paper) (untouched wire) (run_outcome NoRoom Clear 0 0 0)
refines_refused arrays bytes paper wire h = rw (run_refused lawful (view_arrays arrays) bytes (length paper) (length wire) h) (record {
  code = refl;
  note = refl;
  taken = refl;
  wrote = record { paper = wrote_none paper; wire = wrote_none wire };
  view = refl;
  sound = λ k. k;
  same = λ _. refl;
})

-- a run of one plain byte: it is printed, and the arrays stay as they were
module _ (arrays : PrinterArrays) (b : ℕ) (paper wire : List ℕ) (room : cannot_begin 1 (length paper) (length wire) ≡ false)
    (plain : is_plain_in arrays.small arrays.marks b ≡ true) where
  one_ran : ran_from printer_byte (view_arrays arrays) (b ∷ []) (length paper) (length wire) ≡ record { taken = 1; effect = printing (b ∷ []) (view_arrays arrays) }
  one_ran =
      let s = view_arrays arrays in
      let lent = both_lent (length paper) (length wire) room in
      let each : PlainAt lawful s (b ∷ []) = λ j lt. let first : j ≡ 0 = omega (arith, lt) in rw first (byte_plain (decoded_printer arrays) b plain) in
      ran_plain lawful s (b ∷ []) [] (length paper) (length wire) each (omega (arith, lent.0)) lent.1
      ∙ (rw (ran_none lawful s (length paper - 1) (length wire)) (further_stays lawful 1 (printing (b ∷ []) s)))

  one_refines : RefinesRunOnPrinterArrays (network_run (view_arrays arrays) (b ∷ [])) (lent_arrays arrays arrays) (lent_as paper (set paper 0 b)) (untouched wire) (run_outcome Done Clear 1 1 0)
  one_refines =
      let lent = both_lent (length paper) (length wire) room in
      rw (run_begun lawful (view_arrays arrays) (b ∷ []) (length paper) (length wire) room, one_ran) (record {
        code = refl;
        note = refl;
        taken = refl;
        wrote = record { paper = wrote_start (b ∷ []) paper (omega (arith, lent.0)); wire = wrote_none wire };
        view = refl;
        sound = λ k. k;
        same = λ n. absurd (n refl);
      })

pub refines_one : (arrays : PrinterArrays) (bytes paper wire : List ℕ) → length bytes ≡ 1 → cannot_begin (length bytes) (length paper) (length wire) ≡ false
    → is_plain_in arrays.small arrays.marks (get_or bytes 0 0) ≡ true
    → RefinesRunOnPrinterArrays (network_run (view_arrays arrays) bytes) (lent_arrays arrays arrays) (lent_as paper (set paper 0 (get_or bytes 0 0))) (untouched wire) (run_outcome Done Clear 1 1 0)
refines_one arrays [] paper wire one room plain = absurd (omega (arith, one))
refines_one arrays (b ∷ []) paper wire one room plain = one_refines arrays b paper wire room plain
refines_one arrays (b ∷ c ∷ bs) paper wire one room plain = absurd (omega (arith, one))
