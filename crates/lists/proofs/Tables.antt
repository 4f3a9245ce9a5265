-- A test computed at every number below a bound holds of each of them.
use mathlib.Core.Path.{◌≡◌, refl}
use mathlib.Core.Bool.{Bool, true, false, ◌&&◌, false≢true}
use Prim.Native.Nat.{ℕ, zero, suc, ◌<◌}
use native.Mathlib.Omega.{arith}
use native.Mathlib.Decide.{dec_lt}

unfoldable pub holds_below : (ℕ → Bool) → ℕ → Bool
holds_below f zero = true
holds_below f (suc n) = f n && holds_below f n

pub both_left : (a b : Bool) → (a && b) ≡ true → a ≡ true
both_left true b e = refl
both_left false b e = e

pub both_right : (a b : Bool) → (a && b) ≡ true → b ≡ true
both_right true b e = e
both_right false b e = absurd (false≢true e)

last_or_below : (f : ℕ → Bool) (n k : ℕ) → k < suc n → f n ≡ true → ((k < n) → f k ≡ true) → Dec (k < n) → f k ≡ true
last_or_below f n k h e below (yes lt) = below lt
last_or_below f n k h e below (no ge) =
    let same : k ≡ n = omega (arith, ge) in
    rw same e

pub at_each : (f : ℕ → Bool) (n : ℕ) → holds_below f n ≡ true → (k : ℕ) → k < n → f k ≡ true
unfolding holds_below
at_each f zero e k h = absurd (omega arith)
at_each f (suc n) e k h =
    last_or_below f n k h (both_left (f n) (holds_below f n) e) (λ lt. at_each f n (both_right (f n) (holds_below f n) e) k lt) (dec_lt k n)
