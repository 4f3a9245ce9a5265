-- Choice by a test, and the tests on bytes that the rules are written with.
use Rattle.std.specs.Prelude.{Bool, true, false, ◌&&◌, ◌||◌, List, [], ◌∷◌, ℕ, leb, eqb}

abbrev pub between : ℕ → ℕ → ℕ → Bool
between low high n = leb low n && leb n high

unfoldable pub one_of : List ℕ → ℕ → Bool
one_of [] n = false
one_of (m ∷ ms) n = eqb n m || one_of ms n

-- two lists are equal
unfoldable pub is_same : List ℕ → List ℕ → Bool
is_same [] [] = true
is_same [] (n ∷ ns) = false
is_same (m ∷ ms) [] = false
is_same (m ∷ ms) (n ∷ ns) = eqb m n && is_same ms ns
