-- No call of the printer end leaves a text in its table while BM is not in force.
use mathlib.Core.Path.{refl, sym, ap, ◌∙◌}
use mathlib.Core.Bool.{Bool, true, false, true≢false}
use Rattle.negotiation.specs.declared.OptionState.{OptionState}
use Rattle.negotiation.specs.declared.Side.{Side}
use Rattle.negotiation.specs.declared.Side.TheVariants.{Echo, BulletinSga, Rcte, Macro, PrinterSga, Disposes, Uncarried}
use Rattle.negotiation.specs.Table.{is_yes, is_yes_or_ending}
use Rattle.negotiation.specs.Carried.{moved}
use Rattle.printer.specs.State.{PrinterState, fresh, with_sides, rcte_in_force}
use Rattle.printer.specs.Network.{rcte_moved, side_moved}
use Rattle.printer.specs.EmptyTable.{EmptyWhileOff, TableEmptied}
use Rattle.printer.proofs.Invariant.{Steps, answers_kept}

rcte_empty : (was is : Bool) (s : PrinterState) → EmptyWhileOff s → EmptyWhileOff (rcte_moved was is s).state
rcte_empty true true s h = h
rcte_empty true false s h = h
rcte_empty false true s h = h
rcte_empty false false s h = h

side_empty : (s : PrinterState) (side : Side) (q : OptionState) → EmptyWhileOff s → EmptyWhileOff (side_moved s side q).state
unfolding side_moved
side_empty s Macro q h = λ off. rw off
side_empty s Rcte q h = rcte_empty (rcte_in_force s) (is_yes q) (with_sides s (moved s.sides Rcte q)) h
side_empty s (Disposes d) q h = h
side_empty s Echo q h = h
side_empty s BulletinSga q h = h
side_empty s PrinterSga q h = h
side_empty s Uncarried q h = h

empty_steps : Steps EmptyWhileOff
empty_steps = record {
  others = λ e f h off. sym f ∙ h (ap (λ x. is_yes_or_ending x.bm) e ∙ off);
  moves = λ s side q reached h. side_empty s side q h;
  defines = λ s x rest on h off. absurd (true≢false (sym on ∙ off));
}

pub table_emptied : TableEmptied
table_emptied cs a m = answers_kept EmptyWhileOff empty_steps fresh cs (λ off. refl) a m
