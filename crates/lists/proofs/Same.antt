-- The test whether two lists are equal.
use mathlib.Core.Path.{◌≡◌, refl}
use mathlib.Core.Bool.{true, false≢true}
use mathlib.Core.List.{List, [], ◌∷◌}
use Prim.Native.Nat.{ℕ}
use borrow.Author.Tests.{eq-eqb, eqb-true}
use lib.Dec.{eqb}
use Rattle.lists.specs.Choice.{is_same}
use Rattle.lists.proofs.Tables.{both_left, both_right}

pub same_itself : (l : List ℕ) → is_same l l ≡ true
unfolding is_same
same_itself [] = refl
same_itself (n ∷ l) = rw (eq-eqb n n refl, same_itself l)

pub same_equal : (l m : List ℕ) → is_same l m ≡ true → l ≡ m
unfolding is_same
same_equal [] [] e = refl
same_equal [] (n ∷ m) e = absurd (false≢true e)
same_equal (k ∷ l) [] e = absurd (false≢true e)
same_equal (k ∷ l) (n ∷ m) e =
    rw (eqb-true k n (both_left (eqb k n) (is_same l m) e), same_equal l m (both_right (eqb k n) (is_same l m) e))
