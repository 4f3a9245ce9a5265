-- How an answer of the code meets the rule's.
use mathlib.Core.Path.{refl}
use mathlib.Core.List.{List}
use Prim.Native.Nat.{ℕ}
use Rattle.lists.specs.Buffers.{Lent, untouched}
use Rattle.lists.proofs.Starts.{wrote_none}
use Rattle.codes.specs.declared.Code.{Code}
use Rattle.printer.specs.declared.Printer.{Printer}
use Rattle.printer.specs.declared.Step.{Step}
use Rattle.printer.specs.State.{Effect, done, refused}
use Rattle.printer.specs.Refinement.{view_printer, WholePrinter, RefinesStep, RefinesOutcome, refusal, answered}

-- a refusal, whatever its code
pub met_refused : {p : Printer} {c : Code} {paper wire : List ℕ} → RefinesOutcome (refused (view_printer p) c) p (untouched paper) (untouched wire) (refusal p c)
met_refused {p} {c} {paper} {wire} = record {
  code = refl;
  note = refl;
  wrote = record { paper = wrote_none paper; wire = wrote_none wire };
  view = refl;
  clean = λ k. k;
  whole = λ k. k;
  same = λ _. refl;
}

-- a step that was done
pub met_done : {d : Effect} {p : Printer} {paper wire : Lent} {r : Step} → RefinesStep d p paper wire r → WholePrinter r.state → RefinesOutcome (done d) p paper wire (answered r)
met_done m w = record {
  code = refl;
  note = m.note;
  wrote = m.wrote;
  view = m.view;
  clean = m.clean;
  whole = λ _. w;
  same = λ n. absurd (n refl);
}
