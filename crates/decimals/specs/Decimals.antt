-- A number under 100,000 in decimal, in ASCII.
use Rattle.std.specs.Prelude.{cond, ◌≡◌, List, [], ◌∷◌, ◌++◌, ℕ, zero, suc, ◌+◌, ◌*◌, ◌-◌, ◌/◌, ◌%◌, ◌<◌, ltb}

-- at most n digits of a number
unfoldable pub digits : ℕ → ℕ → List ℕ
digits zero m = []
digits (suc n) m = cond (ltb m 10) ((48 + m) ∷ []) (digits n (m / 10) ++ (48 + m % 10) ∷ [])

-- numbers that are printed have at most five digits
abbrev pub decimal : ℕ → List ℕ
decimal m = digits 5 m

-- a number, and the byte that parts it from what follows
unfoldable pub number_then : ℕ → ℕ → List ℕ
number_then n then = decimal n ++ then ∷ []

-- the number that digits stand for, behind those of a number read before
unfoldable pub read_on : ℕ → List ℕ → ℕ
read_on n [] = n
read_on n (d ∷ ds) = read_on (10 * n + (d - 48)) ds

-- the digits are those of the number
abbrev pub Reads : ℕ → Type 0
Reads n = read_on 0 (decimal n) ≡ n

-- Assumed: a number under 100,000. Promised: its digits, read as a number, are it. Ruled out: a digit that is lost;
-- digits in the wrong order.
abbrev pub DecimalReads : Type 0
DecimalReads = (n : ℕ) → n < 100000 → Reads n
