-- How a step of the code meets the rule's, put together.
use mathlib.Core.Path.{◌≡◌, refl}
use mathlib.Core.List.{List}
use Prim.Native.Nat.{ℕ}
use Rattle.lists.specs.Buffers.{untouched}
use Rattle.lists.proofs.Starts.{wrote_none}
use Rattle.codes.specs.declared.Note.{Note}
use Rattle.printer.specs.declared.Printer.{Printer}
use Rattle.printer.specs.declared.Step.{Step}
use Rattle.printer.specs.State.{PrinterState, notes}
use Rattle.codes.specs.declared.Note.TheVariants.{Clear}
use Rattle.printer.specs.Refinement.{view_printer, CleanPrinter, RefinesStep, RefinesState, RefinesStepUnwritten}
use Rattle.printer.specs.State.{nothing}

abbrev pub quiet_step : Note → Printer → Step
quiet_step n p = record { note = n; paper = 0; wire = 0; state = p }

-- a step that writes nothing, of a rule that does not either
pub met_unwritten : (n : Note) (p t : Printer) (s : PrinterState) → view_printer t ≡ s → (CleanPrinter p → CleanPrinter t)
    → RefinesStepUnwritten (notes n s) p (quiet_step n t)
met_unwritten n p t s v k = record {
  met = λ paper wire. record {
    note = refl;
    wrote = record { paper = wrote_none paper; wire = wrote_none wire };
    view = v;
    clean = k;
  };
}

-- a step that only changes the state
pub met_still : (p t : Printer) (s : PrinterState) → RefinesState (nothing s) p t → (paper wire : List ℕ) → RefinesStep (nothing s) p (untouched paper) (untouched wire) (quiet_step Clear t)
met_still p t s m paper wire = record {
  note = refl;
  wrote = record { paper = wrote_none paper; wire = wrote_none wire };
  view = m.view;
  clean = m.clean;
}
