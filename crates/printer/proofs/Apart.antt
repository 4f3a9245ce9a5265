-- The printer end's sides change by negotiation alone, which keeps ECHO and RCTE apart.
use mathlib.Core.Path.{◌≡◌, refl, subst}
use mathlib.Core.Bool.{Bool, true, false}
use Rattle.negotiation.specs.declared.End.{End}
use Rattle.negotiation.specs.declared.OptionState.{OptionState}
use Rattle.negotiation.specs.declared.Side.{Side}
use Rattle.negotiation.specs.declared.Side.TheVariants.{Echo, BulletinSga, Rcte, Macro, PrinterSga, Disposes, Uncarried}
use Rattle.negotiation.specs.Table.{is_yes}
use Rattle.negotiation.specs.Carried.{moved}
use Rattle.negotiation.specs.Apart.{Reached}
use Rattle.negotiation.specs.Apart.Reached.{first}
use Rattle.printer.specs.State.{PrinterState, fresh, with_sides, rcte_in_force}
use Rattle.printer.specs.Network.{rcte_moved, side_moved}
use Rattle.printer.specs.Apart.{StayApart}
use Rattle.negotiation.proofs.Apart as N
use Rattle.printer.proofs.Invariant.{Steps, answers_kept}

abbrev ReachedIn : PrinterState → Type 0
ReachedIn s = Reached End.Printer s.sides

rcte_as : (was is : Bool) (s : PrinterState) → s.sides ≡ (rcte_moved was is s).state.sides
rcte_as true true s = refl
rcte_as true false s = refl
rcte_as false true s = refl
rcte_as false false s = refl

moved_as : (s : PrinterState) (side : Side) (q : OptionState) → moved s.sides side q ≡ (side_moved s side q).state.sides
unfolding side_moved
moved_as s Macro q = refl
moved_as s Rcte q = rcte_as (rcte_in_force s) (is_yes q) (with_sides s (moved s.sides Rcte q))
moved_as s (Disposes d) q = refl
moved_as s Echo q = refl
moved_as s BulletinSga q = refl
moved_as s PrinterSga q = refl
moved_as s Uncarried q = refl

reached_steps : Steps ReachedIn
reached_steps = record {
  others = λ e f r. subst (Reached End.Printer) e r;
  moves = λ s side q goes r. subst (Reached End.Printer) (moved_as s side q) (goes r);
  defines = λ s x rest on r. r;
}

pub stay_apart : StayApart
stay_apart cs a m = N.stay_apart End.Printer a.effect.state.sides (answers_kept ReachedIn reached_steps fresh cs first a m)
