-- Tails that are lent afresh in time are enough for every call, and lending once more changes nothing.
use mathlib.Core.Path.{◌≡◌, refl}
use mathlib.Core.Bool.{Bool, true, false, cond}
use mathlib.Core.List.{List, [], ◌∷◌}
use Prim.Native.Nat.{ℕ, ◌≤◌}
use borrow.Author.Tests.{ltb-false}
use lib.Dec.{ltb}
use Rattle.lists.proofs.Lengths.{chosen}
use Rattle.codes.specs.Answers.{paper_room, wire_room}
use Rattle.printer.specs.State.{PrinterState}
use Rattle.printer.specs.Session.{Call}
use Rattle.printer.specs.UnusedTails.{Tails, lent_afresh, lent_from, tails_after, LentIsEnough}

pub lent_is_enough : LentIsEnough
unfolding lent_afresh
lent_is_enough whole t e = record {
  paper = chosen (λ (n : ℕ). paper_room ≤ n) (ltb t.paper paper_room) (λ _. e.paper) (λ f. ltb-false t.paper paper_room f);
  wire = chosen (λ (n : ℕ). wire_room ≤ n) (ltb t.wire wire_room) (λ _. e.wire) (λ f. ltb-false t.wire wire_room f);
}

again : (whole unused room : ℕ) → (let n = cond (ltb unused room) whole unused in cond (ltb n room) whole n ≡ n)
again whole unused room = go (ltb unused room) refl
  where
    same : (b : Bool) → cond b whole whole ≡ whole
    same true = refl
    same false = refl

    go : (b : Bool) → ltb unused room ≡ b → (let n = cond b whole unused in cond (ltb n room) whole n ≡ n)
    go true e = same (ltb whole room)
    go false e = rw e

module _ (whole : Tails) where
  pub lent_again : (t : Tails) → lent_afresh whole (lent_afresh whole t) ≡ lent_afresh whole t
  unfolding lent_afresh
  lent_again t = λ i. record { paper = again whole.paper t.paper paper_room i; wire = again whole.wire t.wire wire_room i }

  -- a session is the same from tails that are lent already, and so are the tails that the next call is lent behind it
  pub from_lent : (s : PrinterState) (t : Tails) (cs : List Call) → lent_from whole s (lent_afresh whole t) cs ≡ lent_from whole s t cs
  unfolding lent_from
  from_lent s t [] = refl
  from_lent s t (c ∷ cs) = rw (lent_again t)

  pub after_lent : (s : PrinterState) (t : Tails) (cs : List Call) → lent_afresh whole (tails_after whole s (lent_afresh whole t) cs) ≡ lent_afresh whole (tails_after whole s t cs)
  unfolding tails_after
  after_lent s t [] = lent_again t
  after_lent s t (c ∷ cs) = rw (lent_again t)
