-- How long lists become, and laws of every element of a list.
use mathlib.Core.Path.{◌≡◌, refl}
use mathlib.Core.Bool.{Bool, true, false, cond}
use mathlib.Core.List.{List, [], ◌∷◌, ◌++◌, flat_map}
use Prim.Native.Nat.{ℕ, zero, suc, ◌+◌, ◌*◌, ◌≤◌}
use native.Mathlib.Nat.{mul-suc}
use native.Mathlib.Omega.{arith}
use lib.ListN.{length, get_or, set, take, drop, replicate, length-append}
use lib.Seq.{get_or-drop}

-- what holds of both choices, each under its test, holds of the choice
pub chosen : {X : Type 0} (P : X → Type 0) (b : Bool) {x y : X} → (b ≡ true → P x) → (b ≡ false → P y) → P (cond b x y)
chosen P true f g = f refl
chosen P false f g = g refl

pub either : {X : Type 0} (P : X → Type 0) (b : Bool) {x y : X} → P x → P y → P (cond b x y)
either P b p q = chosen P b (λ e. p) (λ e. q)

-- two choices by one test
pub either_both : {X Y : Type 0} (R : X → Y → Type 0) (b : Bool) {x y : X} {z w : Y} → R x z → R y w → R (cond b x y) (cond b z w)
either_both R true p q = p
either_both R false p q = q

-- a run of at most k elements for each
pub flat_map_within : {X Y : Type 0} (f : X → List Y) (k : ℕ) → ((x : X) → length (f x) ≤ k) → (xs : List X) → length (flat_map f xs) ≤ k * length xs
unfolding flat_map
flat_map_within f k h [] = omega arith
flat_map_within f k h (x ∷ xs) = rw mul-suc (simp length-append (omega (arith, h x, flat_map_within f k h xs)))

module _ {X : Type 0} (P : X → Type 0) (d : X) where
  pub every_set : (l : List X) (i : ℕ) (v : X) → P v → ((j : ℕ) → P (get_or l j d)) → (j : ℕ) → P (get_or (set l i v) j d)
  every_set [] i v p h j = h j
  every_set (x ∷ l) zero v p h zero = p
  every_set (x ∷ l) zero v p h (suc j) = h (suc j)
  every_set (x ∷ l) (suc i) v p h zero = h zero
  every_set (x ∷ l) (suc i) v p h (suc j) = every_set l i v p (λ n. h (suc n)) j

  pub every_take : P d → (n : ℕ) (l : List X) → ((j : ℕ) → P (get_or l j d)) → (j : ℕ) → P (get_or (take n l) j d)
  every_take p zero l h j = p
  every_take p (suc n) [] h j = p
  every_take p (suc n) (x ∷ l) h zero = h zero
  every_take p (suc n) (x ∷ l) h (suc j) = every_take p n l (λ i. h (suc i)) j

  pub every_drop : (n : ℕ) (l : List X) → ((j : ℕ) → P (get_or l j d)) → (j : ℕ) → P (get_or (drop n l) j d)
  every_drop n l h j = rw (get_or-drop n l j d) (h (n + j))

  pub every_append : (l m : List X) → ((j : ℕ) → P (get_or l j d)) → ((j : ℕ) → P (get_or m j d)) → (j : ℕ) → P (get_or (l ++ m) j d)
  every_append [] m h g j = g j
  every_append (x ∷ l) m h g zero = h zero
  every_append (x ∷ l) m h g (suc j) = every_append l m (λ n. h (suc n)) g j

  pub every_replicate : (n : ℕ) (v : X) → P v → P d → (j : ℕ) → P (get_or (replicate n v) j d)
  every_replicate zero v p q j = q
  every_replicate (suc n) v p q zero = p
  every_replicate (suc n) v p q (suc j) = every_replicate n v p q j
