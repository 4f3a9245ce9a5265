-- A body that is neither marred nor empty goes by its option.
use mathlib.Core.Path.{◌≡◌, refl}
use mathlib.Core.Bool.{false}
use mathlib.Core.List.{List, [], ◌∷◌}
use Prim.Native.Nat.{ℕ, ◌≤◌}
use native.Mathlib.Omega.{arith}
use lib.ListN.{length, get_or}
use Rattle.reader.specs.Reading.{by_option}

pub by_first : {D : Type 0} (body : List ℕ) (u : D) (h : ℕ → D) → 1 ≤ length body → by_option false body u h ≡ h (get_or body 0 0)
unfolding by_option
by_first [] u h le = absurd (omega arith)
by_first (o ∷ rest) u h le = refl
