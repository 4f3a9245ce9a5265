-- The digits of a number, one by one.
use mathlib.Core.Path.{◌≡◌, refl}
use mathlib.Core.List.{List, [], ◌∷◌, ◌++◌}
use Prim.Native.Nat.{ℕ, zero, suc, ◌+◌, ◌-◌, ◌*◌, ◌/◌, ◌%◌, ◌^◌, ◌≤◌, ◌<◌}
use native.Mathlib.Nat.{pow-succ'}
use native.Mathlib.Omega.{arith}
use borrow.Author.Tests.{lt-ltb, le-ltb}
use lib.Dec.{ltb}
use lib.ListN.{length, length-append}
use Rattle.lists.proofs.Lengths.{chosen, either}
use Rattle.decimals.specs.Decimals.{digits, number_then, read_on, DecimalReads}

pub no_digits : (most m : ℕ) → most ≡ 0 → digits most m ≡ []
unfolding digits
no_digits most m e = rw e

pub one_digit : (most m : ℕ) → (most ≡ 0 → ⊥) → m < 10 → digits most m ≡ (48 + m % 10) ∷ []
unfolding digits
one_digit zero m some h = absurd (some refl)
one_digit (suc n) m some h =
    let same : m % 10 ≡ m = omega arith in
    rw (lt-ltb m 10 h, same)

pub more_digits : (most m : ℕ) → (most ≡ 0 → ⊥) → 10 ≤ m → digits most m ≡ digits (most - 1) (m / 10) ++ (48 + m % 10) ∷ []
unfolding digits
more_digits zero m some h = absurd (some refl)
more_digits (suc n) m some h =
    let fewer : suc n - 1 ≡ n = omega arith in
    rw (le-ltb m 10 h, fewer)

at_most : (most m : ℕ) → length (digits most m) ≤ most
unfolding digits
at_most zero m = omega arith
at_most (suc n) m = either (λ (l : List ℕ). length l ≤ suc n) (ltb m 10) (omega arith) (simp length-append (omega (arith, at_most n (m / 10))))

pub number_length : (n then : ℕ) → length (number_then n then) ≤ 6
unfolding number_then
number_length n then = simp length-append (omega (arith, at_most 5 n))

read_last : (n : ℕ) (ds : List ℕ) (d : ℕ) → read_on n (ds ++ d ∷ []) ≡ 10 * read_on n ds + (d - 48)
unfolding read_on
read_last n [] d = refl
read_last n (e ∷ ds) d = read_last (10 * n + (e - 48)) ds d

-- a number of that many digits at most
reads_back : (most m : ℕ) → m < 10 ^ most → read_on 0 (digits most m) ≡ m
unfolding digits read_on
reads_back zero m h = omega arith
reads_back (suc n) m h =
    let bound : m < 10 * 10 ^ n = rw (← pow-succ' 10 n) h in
    let first = reads_back n (m / 10) (omega arith) in
    chosen (λ (l : List ℕ). read_on 0 l ≡ m) (ltb m 10) (λ e. omega arith)
    (λ e. omega (arith, read_last 0 (digits n (m / 10)) (48 + m % 10)))

pub decimal_reads : DecimalReads
decimal_reads n h = reads_back 5 n h
