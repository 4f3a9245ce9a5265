-- A part of a list, mapped or cut.
use mathlib.Core.Path.{◌≡◌, refl}
use mathlib.Core.List.{List, [], ◌∷◌, map}
use Prim.Native.Nat.{ℕ, zero, suc, min}
use native.Mathlib.Omega.{arith}
use lib.ListN.{length, drop}

pub map-drop : {X Y : Type 0} (f : X → Y) (n : ℕ) (xs : List X) → map f (drop n xs) ≡ drop n (map f xs)
map-drop f zero xs = refl
map-drop f (suc n) [] = refl
map-drop f (suc n) (x ∷ xs) = map-drop f n xs

-- past the end nothing more is dropped
pub drop_capped : {X : Type 0} (m n : ℕ) (xs : List X) → m ≡ min n (length xs) → drop m xs ≡ drop n xs
drop_capped zero zero xs e = refl
drop_capped zero (suc n) [] e = refl
drop_capped zero (suc n) (x ∷ xs) e = absurd (omega arith)
drop_capped (suc m) zero xs e = absurd (omega arith)
drop_capped (suc m) (suc n) [] e = refl
drop_capped (suc m) (suc n) (x ∷ xs) e = drop_capped m n xs (omega arith)
