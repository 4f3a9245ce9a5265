-- A list of equal elements reads the same everywhere, past its end too where the default is that element.
use mathlib.Core.Path.{◌≡◌, refl}
use Prim.Native.Nat.{ℕ, zero, suc}
use lib.ListN.{get_or, replicate}

pub get_d_uniform : {X : Type 0} (n i : ℕ) (x : X) → get_or (replicate n x) i x ≡ x
get_d_uniform zero i x = refl
get_d_uniform (suc n) zero x = refl
get_d_uniform (suc n) (suc i) x = get_d_uniform n i x
