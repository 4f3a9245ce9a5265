-- No call of the bulletin end leaves a text in its table while BM is not in force.
use mathlib.Core.Path.{◌≡◌, refl, sym, ap, ◌∙◌}
use mathlib.Core.Bool.{false≢true}
use mathlib.Core.List.{List}
use Prim.Native.Nat.{ℕ}
use lib.ListN.{set}
use lib.Seq.{set-get_or}
use borrow.Author.Tests.{not-false}
use Rattle.lists.proofs.Uniform.{get_d_uniform}
use Rattle.negotiation.specs.declared.OptionState.{OptionState}
use Rattle.negotiation.specs.declared.Side.{Side}
use Rattle.negotiation.specs.declared.Side.TheVariants.{Echo, BulletinSga, Rcte, Macro, PrinterSga, Disposes, Uncarried}
use Rattle.negotiation.specs.Table.{is_yes}
use Rattle.bodies.specs.declared.MacroReply.{MacroReply}
use Rattle.bodies.specs.declared.MacroReply.TheVariants.{Accept, Refuse, PleaseCancel}
use Rattle.sent_macros.specs.Sending.{Sent, free, no_definitions}
use Rattle.bulletin.specs.State.{BulletinState, fresh, bm_in_force}
use Rattle.bulletin.specs.Network.{side_moved, macro_replied}
use Rattle.bulletin.specs.EmptyTable.{EmptyWhileOff, TableEmptied}
use Rattle.bulletin.proofs.Invariant.{Steps, answers_kept}

side_empty : (s : BulletinState) (side : Side) (q : OptionState) (reply : List ℕ) → EmptyWhileOff s → EmptyWhileOff (side_moved s side q reply).state
unfolding side_moved
side_empty s Macro q reply h = λ off. rw off
side_empty s (Disposes d) q reply h = h
side_empty s Rcte q reply h = h
side_empty s Echo q reply h = h
side_empty s BulletinSga q reply h = h
side_empty s PrinterSga q reply h = h
side_empty s Uncarried q reply h = h

-- a free byte's entry written again as it was
same_entry : (x : ℕ) (v : Sent) → v ≡ free → set no_definitions x v ≡ no_definitions
same_entry x v e = rw (e ∙ sym (get_d_uniform 256 x free)) (set-get_or no_definitions x free)

-- in an empty table no byte is pending or accepted, so that an answer about one changes nothing
replies_empty : (s : BulletinState) (r : MacroReply) → EmptyWhileOff s → EmptyWhileOff (macro_replied s r).state
replies_empty s (Accept x) h = λ off. rw (h off) (same_entry x _ (rw (get_d_uniform 256 x free)))
replies_empty s (Refuse x) h = λ off. rw (h off) (same_entry x _ (rw (get_d_uniform 256 x free)))
replies_empty s (PleaseCancel x) h = λ off. rw (h off, get_d_uniform 256 x free)

pub empty_steps : Steps EmptyWhileOff
empty_steps = record {
  others = λ e f g h off. sym f ∙ h (ap (λ x. is_yes x.bm) e ∙ off);
  moves = λ s side q reply reached h. side_empty s side q reply h;
  replies = replies_empty;
  defines = λ s x t w n h off. absurd (false≢true (sym off ∙ not-false (bm_in_force s) n.1.0));
  issues = λ s n h. h;
}

pub table_emptied : TableEmptied
table_emptied cs a m = answers_kept EmptyWhileOff empty_steps fresh cs (λ off. refl) a m
