-- A stored printer end is found again, and a call by value with its state stored is the call on arrays.
use mathlib.Core.Path.{◌≡◌, subst}
use Prim.Native.Nat.{ℕ}
use Rattle.lists.specs.Buffers.{Lent}
use Rattle.printer.specs.State.{PrinterState, CallEffect}
use Rattle.printer.specs.Refinement.{view_printer, RefinesAnswer}
use Rattle.printer.specs.declared.Printer.{Printer}
use Rattle.printer.specs.declared.Answer.{Answer}
use Rattle.session_arrays.specs.declared.Outcome.{Outcome}
use Rattle.session_arrays.specs.PrinterArrays.{decoded_printer, PrinterFoundAgain, LentPrinter, KeepsPrinter, RefinesOnPrinterArrays}
use Rattle.session_arrays.proofs.Decoding.{option_state_found, phase_found, flag_found}

pub printer_found_again : PrinterFoundAgain
printer_found_again p = simp (option_state_found, phase_found, flag_found)

pub on_arrays : (rule : PrinterState → ℕ → ℕ → CallEffect) {arrays : LentPrinter} {paper wire : Lent} {s : Printer} {a : Answer} {r : Outcome}
    → s ≡ decoded_printer arrays.before → RefinesAnswer (rule (view_printer s)) s paper wire a → KeepsPrinter a arrays r → RefinesOnPrinterArrays rule arrays paper wire r
on_arrays rule {arrays} {paper} {wire} {s} {a} {r} found refines keeps = record {
  answer = a;
  refines = subst (λ (t : Printer). RefinesAnswer (rule (view_printer t)) t paper wire a) found refines;
  keeps = keeps;
}
