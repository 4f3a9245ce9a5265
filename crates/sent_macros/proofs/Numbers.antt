-- The numbers of the statuses.
use mathlib.Core.Path.{◌≡◌, refl}
use mathlib.Core.Bool.{false}
use mathlib.Core.List.{[]}
use Prim.Native.Nat.{ℕ, zero, suc, ◌≤◌}
use native.Mathlib.Omega.{arith}
use borrow.Author.Tests.{ne_eqb}
use Rattle.sent_macros.specs.declared.Status.{Status}
use Rattle.sent_macros.specs.declared.Status.TheVariants.{Free, Pending, PendingFree, Accepted, Refused}
use Rattle.sent_macros.specs.Sending.{status_number, is_pending, is_free, is_accepted}
use Rattle.sent_macros.specs.Refinement.{status_from, sent_as}

pub from_number : (s : Status) → status_from (status_number s) ≡ s
unfolding status_from
from_number Free = refl
from_number Pending = refl
from_number PendingFree = refl
from_number Accepted = refl
from_number Refused = refl

pub number_from : (n : ℕ) → n ≤ 4 → status_number (status_from n) ≡ n
unfolding status_from
number_from zero h = refl
number_from (suc zero) h = refl
number_from (suc (suc zero)) h = refl
number_from (suc (suc (suc zero))) h = refl
number_from (suc (suc (suc (suc n)))) h =
    let four : suc (suc (suc (suc n))) ≡ 4 = omega arith in
    rw four

pub number_most : (s : Status) → status_number s ≤ 4
number_most Free = omega arith
number_most Pending = omega arith
number_most PendingFree = omega arith
number_most Accepted = omega arith
number_most Refused = omega arith

-- a number of none of the others
module _ (n : ℕ) (one : n ≡ 1 → ⊥) (three : n ≡ 3 → ⊥) where
  pub from_other : (n ≡ 0 → ⊥) → (n ≡ 2 → ⊥) → status_from n ≡ Refused
  unfolding status_from
  from_other z two = rw (ne_eqb n 0 z, ne_eqb n 1 one, ne_eqb n 2 two, ne_eqb n 3 three)

-- the tests on a status without its text
pub not_free : (s : Status) → (s ≡ Free → ⊥) → is_free (sent_as s []) ≡ false
not_free Free n = absurd (n refl)
not_free Pending n = refl
not_free PendingFree n = refl
not_free Accepted n = refl
not_free Refused n = refl

pub not_accepted : (s : Status) → (s ≡ Accepted → ⊥) → is_accepted (sent_as s []) ≡ false
not_accepted Free n = refl
not_accepted Pending n = refl
not_accepted PendingFree n = refl
not_accepted Accepted n = absurd (n refl)
not_accepted Refused n = refl

pub not_pending : (s : Status) → (s ≡ Pending → ⊥) → (s ≡ PendingFree → ⊥) → is_pending (sent_as s []) ≡ false
not_pending Free n m = refl
not_pending Pending n m = absurd (n refl)
not_pending PendingFree n m = absurd (m refl)
not_pending Accepted n m = refl
not_pending Refused n m = refl
