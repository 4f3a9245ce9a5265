-- How many elements at the front of a list pass a test.
use Rattle.std.specs.Prelude.{◌≡◌, Bool, true, cond, List, [], ◌∷◌, ℕ, suc, ◌≤◌, ◌<◌, length, get_or}

unfoldable pub front : (ℕ → Bool) → List ℕ → ℕ
front f [] = 0
front f (x ∷ xs) = cond (f x) (suc (front f xs)) 0

-- what is given of a number is what a test says of it
abbrev pub Computes : (ℕ → Bool → Type 0) → (ℕ → Bool) → Type 0
Computes gives test = (x : ℕ) (r : Bool) → gives x r → r ≡ test x

-- the elements from one place up to another pass
pub record Pass (f : ℕ → Bool) (xs : List ℕ) (from end : ℕ) : Type 0 where
  pub each : (k : ℕ) → from ≤ k → k < end → f (get_or xs k 0) ≡ true

-- a scan has come to a place: all before it pass
pub record Scanned (f : ℕ → Bool) (xs : List ℕ) (n : ℕ) : Type 0 where
  pub within : n ≤ length xs
  pub passed : Pass f xs 0 n
