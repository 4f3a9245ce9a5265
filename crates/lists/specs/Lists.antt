-- Sums and runs of lists.
use Rattle.std.specs.Prelude.{List, [], ◌∷◌, ℕ, ◌+◌}

unfoldable pub sum : List ℕ → ℕ
sum [] = 0
sum (n ∷ ns) = n + sum ns

-- f of each element and of the one at its place in the second list; d where that list has ended
unfoldable pub paired : {X Y Z : Type 0} → (X → Y → Z) → Y → List X → List Y → List Z
paired f d [] ys = []
paired f d (x ∷ xs) [] = f x d ∷ paired f d xs []
paired f d (x ∷ xs) (y ∷ ys) = f x y ∷ paired f d xs ys
