-- A place of a list by itself, and the other places.
use mathlib.Core.Path.{◌≡◌, refl}
use mathlib.Core.Bool.{Bool, true, false}
use mathlib.Core.List.{List, [], ◌∷◌}
use Prim.Native.Nat.{ℕ, zero, suc}
use native.Mathlib.Omega.{arith}
use lib.ListN.{length, set, get_or}
use lib.Dec.{eqb}
use borrow.Author.Tests.{eqb-true, eqb-false}

-- what holds at x, and elsewhere
pub by_place : (P : ℕ → Type 0) (x : ℕ) → P x → ((y : ℕ) → (y ≡ x → ⊥) → P y) → (y : ℕ) → P y
by_place P x here there y = go (eqb y x) refl
  where
    go : (t : Bool) → eqb y x ≡ t → P y
    go true e = rw (eqb-true y x e) here
    go false e = there y (eqb-false y x e)

-- two lists of one length set at a place: both have the new value there, or neither has the place
pub set_both : {X Y : Type 0} (P : X → Y → Type 0) {d v : X} {e w : Y} (l : List X) (m : List Y) (x : ℕ) → length l ≡ length m → P d e → P v w
    → P (get_or (set l x v) x d) (get_or (set m x w) x e)
set_both P [] [] x q none new = none
set_both P [] (b ∷ m) x q none new = absurd (omega arith)
set_both P (a ∷ l) [] x q none new = absurd (omega arith)
set_both P (a ∷ l) (b ∷ m) zero q none new = new
set_both P (a ∷ l) (b ∷ m) (suc x) q none new = set_both P l m x (omega arith) none new
