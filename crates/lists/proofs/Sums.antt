-- Sums over a list: of a part, and after a change at one place.
use mathlib.Core.Path.{◌≡◌, refl}
use mathlib.Core.List.{List, [], ◌∷◌, ◌++◌, map}
use Prim.Native.Nat.{ℕ, zero, suc, ◌+◌, ◌≤◌, ◌<◌}
use native.Mathlib.Numerals.{add-one}
use native.Mathlib.Omega.{arith}
use lib.ListN.{length, get_or, take, drop, set, replicate, take-append-drop}
use lib.Seq.{take-suc, drop-cons}
use Rattle.lists.specs.Lists.{sum}

module _ {X : Type 0} (f : X → ℕ) where
  pub sum-append : (l m : List X) → sum (map f (l ++ m)) ≡ sum (map f l) + sum (map f m)
  unfolding sum
  sum-append [] m = omega arith
  sum-append (x ∷ l) m = omega (arith, sum-append l m)

  pub sum_parts : (i : ℕ) (l : List X) → sum (map f l) ≡ sum (map f (take i l)) + sum (map f (drop i l))
  sum_parts i l = rw (← sum-append (take i l) (drop i l), take-append-drop i l)

  pub sum_around : (l : List X) (i : ℕ) (d : X) → i < length l
      → sum (map f l) ≡ sum (map f (take i l)) + f (get_or l i d) + sum (map f (drop (suc i) l))
  unfolding sum
  sum_around l i d h =
      let cut : drop i l ≡ get_or l i d ∷ drop (suc i) l = drop-cons l i d h in
      omega (arith, rw cut at (sum_parts i l))

  pub sum_one_more : (l : List X) (i : ℕ) (d : X) → i < length l → sum (map f (take (i + 1) l)) ≡ sum (map f (take i l)) + f (get_or l i d)
  unfolding sum
  sum_one_more l i d h = rw (add-one i, take-suc l i d h, sum-append (take i l) (get_or l i d ∷ [])) (omega arith)

  pub sum-set : (l : List X) (i : ℕ) (x d : X) → i < length l → sum (map f (set l i x)) + f (get_or l i d) ≡ sum (map f l) + f x
  unfolding sum
  sum-set [] i x d h = absurd (omega arith)
  sum-set (y ∷ l) zero x d h = omega arith
  sum-set (y ∷ l) (suc i) x d h = omega (arith, sum-set l i x d (omega arith))

  pub sum_zeros : (n : ℕ) (x : X) → f x ≡ 0 → sum (map f (replicate n x)) ≡ 0
  unfolding sum
  sum_zeros zero x e = refl
  sum_zeros (suc n) x e = omega (arith, sum_zeros n x e)

-- term by term at most
pub sum_within : {X : Type 0} (f g : X → ℕ) → ((x : X) → f x ≤ g x) → (l : List X) → sum (map f l) ≤ sum (map g l)
unfolding sum
sum_within f g h [] = omega arith
sum_within f g h (x ∷ l) = omega (arith, h x, sum_within f g h l)
