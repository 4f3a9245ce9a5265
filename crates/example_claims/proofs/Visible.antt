-- Visible characters, by a test that is computed over the whole range of them.
use mathlib.Core.Path.{◌≡◌, refl, subst}
use mathlib.Core.Bool.{Bool, true, false, ◌&&◌, beq, cond, false≢true}
use mathlib.Core.List.{[], ◌∷◌}
use Prim.Native.Nat.{ℕ, zero, suc, ◌+◌, ◌-◌, ◌≤◌}
use native.Mathlib.Omega.{arith}
use lib.Dec.{eqb}
use Rattle.lists.specs.Choice.{between}
use Rattle.lists.proofs.Tables.{holds_below, at_each, both_left, both_right}
use Rattle.keys.specs.Keys.{class_of}
use Rattle.example_claims.specs.Opened.{printer_rules}
use Rattle.example_claims.specs.Showing.{same_bytes}
use Rattle.example_claims.specs.Bytes.{types, paper_of, wire_behind}
use Rattle.example_claims.specs.Visible.{breaks_at, ClassedAndPrinted, EachClassedAndPrinted}
use Rattle.example_claims.proofs.Examples.{same_bytes_lem}

-- the parts of the claim as tests; classes are counted from 0 here
is_classed : ℕ → Bool
is_classed b = between 1 9 (class_of b) && beq (eqb (class_of b) 9) (eqb b 32)

is_printed : ℕ → Bool
is_printed b = same_bytes (paper_of (types (b ∷ []))) (b ∷ [])

is_caught : ℕ → ℕ → Bool
is_caught b m = same_bytes (wire_behind (breaks_at (suc m)) (types (b ∷ []))) (cond (eqb (suc m) (class_of b)) (b ∷ []) [])

is_right : ℕ → Bool
is_right b = is_classed b && (is_printed b && holds_below (is_caught b) 9)

-- .. of the bytes from 32 on
from_space : ℕ → Bool
from_space n = is_right (32 + n)

all_right : holds_below from_space 95 ≡ true
unfolding printer_rules same_bytes holds_below is_classed is_printed is_caught is_right from_space
all_right = refl

alike : (s t : Bool) → beq s t ≡ true → s ≡ t
alike true true e = refl
alike true false e = absurd (false≢true e)
alike false true e = absurd (false≢true e)
alike false false e = refl

caught : (b k : ℕ) → holds_below (is_caught b) 9 ≡ true → 1 ≤ k → k ≤ 9 → wire_behind (breaks_at k) (types (b ∷ [])) ≡ cond (eqb k (class_of b)) (b ∷ []) []
unfolding is_caught
caught b zero e low high = absurd (omega arith)
caught b (suc m) e low high = same_bytes_lem _ _ (at_each (is_caught b) 9 e m (omega arith))

classed_and_printed : (b : ℕ) → is_right b ≡ true → ClassedAndPrinted b
unfolding is_right is_classed is_printed
classed_and_printed b e = record {
  classed = both_left one ninth class;
  space = alike (eqb (class_of b) 9) (eqb b 32) (both_right one ninth class);
  caught = λ k. caught b k (both_right (is_printed b) breaks rest);
  printed = same_bytes_lem _ _ (both_left (is_printed b) breaks rest);
}
  where
    one : Bool
    one = between 1 9 (class_of b)

    ninth : Bool
    ninth = beq (eqb (class_of b) 9) (eqb b 32)

    breaks : Bool
    breaks = holds_below (is_caught b) 9

    class : is_classed b ≡ true
    class = both_left (is_classed b) (is_printed b && breaks) e

    rest : (is_printed b && breaks) ≡ true
    rest = both_right (is_classed b) (is_printed b && breaks) e

pub each_classed_and_printed : EachClassedAndPrinted
unfolding from_space
each_classed_and_printed b low high =
    let same : 32 + (b - 32) ≡ b = omega arith in
    classed_and_printed b (subst (λ n. is_right n ≡ true) same (at_each from_space 95 all_right (b - 32) (omega arith)))
