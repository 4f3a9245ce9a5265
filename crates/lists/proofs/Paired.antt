-- Two lists taken together, element by element.
use mathlib.Core.Path.{◌≡◌, refl, sym, ap}
use mathlib.Core.Bool.{Bool, true, false}
use mathlib.Core.List.{List, [], ◌∷◌}
use Prim.Native.Nat.{ℕ, zero, suc, ◌<◌}
use native.Mathlib.Omega.{arith}
use borrow.Author.Tests.{eqb-true, eqb-false}
use lib.Dec.{eqb}
use lib.ListN.{length, get_or, set, replicate}
use lib.Seq.{get_or-set_same, get_or-set_other}
use Rattle.lists.specs.Lists.{paired}

module _ {X Y Z : Type 0} (f : X → Y → Z) (d : Y) where
  pub paired_length : (xs : List X) (ys : List Y) → length (paired f d xs ys) ≡ length xs
  unfolding paired
  paired_length [] ys = refl
  paired_length (x ∷ xs) [] = ap suc (paired_length xs [])
  paired_length (x ∷ xs) (y ∷ ys) = ap suc (paired_length xs ys)

  -- f of both elements, past the end of the first list too where f does not look at the second one's there
  pub paired_at : (c : X) (z : Z) → ((y : Y) → f c y ≡ z) → (xs : List X) (ys : List Y) (i : ℕ)
      → get_or (paired f d xs ys) i z ≡ f (get_or xs i c) (get_or ys i d)
  unfolding paired
  paired_at c z h [] ys i = sym (h (get_or ys i d))
  paired_at c z h (x ∷ xs) [] zero = refl
  paired_at c z h (x ∷ xs) [] (suc i) = paired_at c z h xs [] i
  paired_at c z h (x ∷ xs) (y ∷ ys) zero = refl
  paired_at c z h (x ∷ xs) (y ∷ ys) (suc i) = paired_at c z h xs ys i

  pub paired_uniform : (x : X) (z : Z) → ((y : Y) → f x y ≡ z) → (n : ℕ) (ys : List Y) → paired f d (replicate n x) ys ≡ replicate n z
  unfolding paired
  paired_uniform x z h zero ys = refl
  paired_uniform x z h (suc n) [] = rw (h d, paired_uniform x z h n [])
  paired_uniform x z h (suc n) (y ∷ ys) = rw (h y, paired_uniform x z h n ys)

  -- one place changed in both
  pub paired_set : (xs : List X) (ys : List Y) (i : ℕ) (x : X) (y : Y) → i < length ys
      → paired f d (set xs i x) (set ys i y) ≡ set (paired f d xs ys) i (f x y)
  unfolding paired
  paired_set [] ys i x y h = refl
  paired_set (a ∷ xs) [] i x y h = absurd (omega arith)
  paired_set (a ∷ xs) (b ∷ ys) zero x y h = refl
  paired_set (a ∷ xs) (b ∷ ys) (suc i) x y h = ap (λ (l : List Z). f a b ∷ l) (paired_set xs ys i x y (omega arith))

-- what holds at every place of two lists holds after both were changed at one place, if it holds there
module _ {X Y : Type 0} (P : X → Y → Type 0) (c : X) (d : Y) (l : List X) (m : List Y) (i : ℕ) (x : X) (y : Y) (hl : i < length l) (hm : i < length m) where
  pub every_set_both : P x y → ((j : ℕ) → P (get_or l j c) (get_or m j d)) → (j : ℕ) → P (get_or (set l i x) j c) (get_or (set m i y) j d)
  every_set_both p h j = go (eqb j i) refl
    where
      go : (b : Bool) → eqb j i ≡ b → P (get_or (set l i x) j c) (get_or (set m i y) j d)
      go true e = rw (eqb-true j i e, get_or-set_same l i x c hl, get_or-set_same m i y d hm) p
      go false e =
          let ne = eqb-false j i e in
          rw (get_or-set_other l i j x c ne, get_or-set_other m i j y d ne) (h j)
