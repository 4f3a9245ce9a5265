-- How a run's answer of the code meets the rule's.
use Rattle.std.specs.Prelude.{◌≡◌, List, ℕ, length}
use Rattle.lists.specs.Buffers.{Lent, WroteBothAtStart}
use Rattle.codes.specs.declared.Code.{Code}
use Rattle.codes.specs.declared.Code.TheVariants.{Done}
use Rattle.codes.specs.declared.Note.{Note}
use Rattle.codes.specs.declared.Note.TheVariants.{Clear}
use Rattle.reader.specs.NetworkRun.{RunCallEffect, ran_from}
use Rattle.printer.specs.declared.Printer.{Printer}
use Rattle.printer.specs.declared.RunAnswer.{RunAnswer}
use Rattle.printer.specs.State.{PrinterState, Effect}
use Rattle.printer.specs.NetworkRun.{printer_byte}
use Rattle.printer.specs.Refinement.{view_printer, CleanPrinter, WholePrinter}

-- as `Refinement.RefinesOutcome`, with the number of bytes that were taken
pub record RefinesRunOutcome (a : RunCallEffect Effect) (p : Printer) (paper wire : Lent) (r : RunAnswer) : Type 0 where
  pub code : r.code ≡ a.code
  pub note : r.note ≡ a.ran.effect.note
  pub taken : r.taken ≡ a.ran.taken
  pub wrote : WroteBothAtStart a.ran.effect.paper a.ran.effect.wire paper wire r.paper r.wire
  pub view : view_printer r.state ≡ a.ran.effect.state
  pub clean : CleanPrinter p → CleanPrinter r.state
  pub whole : WholePrinter p → WholePrinter r.state
  pub same : (a.code ≡ Done → ⊥) → r.state ≡ p

-- what a run owes to its rule, which goes by the sizes of the two buffers
abbrev pub RefinesRun : (ℕ → ℕ → RunCallEffect Effect) → Printer → Lent → Lent → RunAnswer → Type 0
RefinesRun rule p paper wire r = RefinesRunOutcome (rule (length paper.before) (length wire.before)) p paper wire r

-- the rule of a run that is not refused
abbrev pub begun_run : PrinterState → List ℕ → (paper wire : ℕ) → RunCallEffect Effect
begun_run s bs paper wire = record { code = Done; ran = ran_from printer_byte s bs paper wire }

-- the code's answers: a run that is refused, and one that took so many bytes
abbrev pub refused_run : Printer → Code → RunAnswer
refused_run p c = record { code = c; note = Clear; taken = 0; paper = 0; wire = 0; state = p }

abbrev pub ran_answer : Printer → Note → (taken paper wire : ℕ) → RunAnswer
ran_answer p n taken paper wire = record { code = Done; note = n; taken = taken; paper = paper; wire = wire; state = p }
