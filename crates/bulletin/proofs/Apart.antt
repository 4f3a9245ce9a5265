-- The bulletin end's sides change by negotiation alone, which keeps ECHO and RCTE apart.
use mathlib.Core.Path.{◌≡◌, refl, subst}
use mathlib.Core.List.{List}
use Prim.Native.Nat.{ℕ}
use Rattle.negotiation.specs.declared.End.{End}
use Rattle.negotiation.specs.declared.OptionState.{OptionState}
use Rattle.negotiation.specs.declared.Side.{Side}
use Rattle.negotiation.specs.declared.Side.TheVariants.{Echo, BulletinSga, Rcte, Macro, PrinterSga, Disposes, Uncarried}
use Rattle.negotiation.specs.Carried.{moved}
use Rattle.negotiation.specs.Apart.{Reached}
use Rattle.negotiation.specs.Apart.Reached.{first}
use Rattle.bulletin.specs.State.{BulletinState, fresh}
use Rattle.bulletin.specs.Network.{side_moved}
use Rattle.bulletin.specs.Apart.{StayApart}
use Rattle.negotiation.proofs.Apart as N
use Rattle.bulletin.proofs.Invariant.{Steps, answers_kept}

abbrev ReachedIn : BulletinState → Type 0
ReachedIn s = Reached End.Bulletin s.sides

moved_as : (s : BulletinState) (side : Side) (q : OptionState) (reply : List ℕ) → moved s.sides side q ≡ (side_moved s side q reply).state.sides
unfolding side_moved
moved_as s Macro q reply = refl
moved_as s (Disposes d) q reply = refl
moved_as s Rcte q reply = refl
moved_as s Echo q reply = refl
moved_as s BulletinSga q reply = refl
moved_as s PrinterSga q reply = refl
moved_as s Uncarried q reply = refl

reached_steps : Steps ReachedIn
reached_steps = record {
  others = λ e f g r. subst (Reached End.Bulletin) e r;
  moves = λ s side q reply goes r. subst (Reached End.Bulletin) (moved_as s side q reply) (goes r);
  replies = λ s r h. h;
  defines = λ s x t w n r. r;
  issues = λ s n r. r;
}

pub stay_apart : StayApart
stay_apart cs a m = N.stay_apart End.Bulletin a.effect.state.sides (answers_kept ReachedIn reached_steps fresh cs first a m)
