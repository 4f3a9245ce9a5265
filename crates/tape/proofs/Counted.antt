-- Every field takes up bytes, so that a tape's length bounds how many there are.
use mathlib.Core.Path.{◌≡◌, refl, sym, ap, ◌∙◌}
use mathlib.Core.List.{List, ◌∷◌}
use Prim.Native.Nat.{ℕ, zero, suc, ◌+◌, ◌≤◌, ◌<◌}
use native.Mathlib.Nat.{suc-add}
use native.Mathlib.Numerals.{add-one}
use native.Mathlib.Omega.{arith}
use lib.ListN.{length}
use Rattle.std.specs.Prelude.{Some, None, Ok, Err}
use Rattle.tape.specs.Fields.{Found, found_at, part_of, Scanned, field_then, fields_from, fields_at}
use Rattle.tape.specs.Whole.{NoFieldLeftOut}
use Rattle.tape.proofs.Heads.{at_end, found_is}

-- a field that is found ends past the place where it stands
abbrev Past : ℕ → Found → Type 0
Past at (Ok None) = Unit {0}
Past at (Err e) = Unit {0}
Past at (Ok (Some f)) = at < f.next.at

goes_on : (tape : List ℕ) (at : ℕ) → Past at (found_at tape at)
goes_on tape at = found_is tape at (Past at) tt (λ _. tt) (λ tag _. omega arith)

same_behind : (tape : List ℕ) (at : ℕ) (f : Found) (next other : ℕ → List Scanned) → Past at f
    → ((place : ℕ) → at < place → next place ≡ other place) → field_then tape f next ≡ field_then tape f other
same_behind tape at (Ok None) next other p same = refl
same_behind tape at (Err e) next other p same = refl
same_behind tape at (Ok (Some f)) next other p same =
    ap (λ (ss : List Scanned). record { found = Ok (Some f); body = part_of tape f.start f.size } ∷ ss) (same f.next.at p)

enough : (n more : ℕ) (tape : List ℕ) (at : ℕ) → length tape ≤ at + n → fields_from (suc n + more) tape at ≡ fields_from (suc n) tape at
unfolding fields_from
enough zero more tape at h = rw (suc-add zero more, at_end tape at (omega arith))
enough (suc n) more tape at h =
    rw (suc-add (suc n) more) (same_behind tape at (found_at tape at) _ _ (goes_on tape at) (λ place lt. enough n more tape place (omega arith)))

pub no_field_left_out : NoFieldLeftOut
no_field_left_out tape more = enough (length tape) more tape 0 (omega arith)

-- so that the count is the same for every field
pub field_first : (tape : List ℕ) (at : ℕ) → fields_at tape at ≡ field_then tape (found_at tape at) (λ next. fields_at tape next)
unfolding fields_from
field_first tape at = sym (enough (length tape) 1 tape at (omega arith)) ∙ (rw (add-one (suc (length tape))))
