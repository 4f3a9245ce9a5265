-- Entries by the option: what is stored for one is found for it, and leaves the others.
use mathlib.Core.Path.{◌≡◌, refl, ap, sym, ◌∙◌}
use mathlib.Core.Bool.{Bool, true, false}
use mathlib.Core.Logic.{◌⊎◌, inl, inr}
use borrow.Author.Tests.{eqb-true, eqb-false}
use lib.Dec.{eqb}
use Rattle.codes.specs.declared.Disposition.{Disposition}
use Rattle.codes.specs.declared.Disposition.TheVariants.{Naocrd, Naolfd, Naoffd, Naohtd}
use Rattle.std.specs.Prelude.{Option, Some, None}
use Rattle.codes.specs.declared.Each.{Each}
use Rattle.codes.specs.Dispositions.{option_number, entry_of, with_entry, for_each, disposition_numbered, of_disposition}

module _ {A : Type 0} (r : Each A) (x : A) where
  pub entry_same : (d : Disposition) → entry_of (with_entry r d x) d ≡ x
  entry_same Naocrd = refl
  entry_same Naolfd = refl
  entry_same Naoffd = refl
  entry_same Naohtd = refl

  pub entry_other : (d e : Disposition) → (d ≡ e → ⊥) → entry_of (with_entry r d x) e ≡ entry_of r e
  entry_other Naocrd Naocrd n = absurd (n refl)
  entry_other Naocrd Naolfd n = refl
  entry_other Naocrd Naoffd n = refl
  entry_other Naocrd Naohtd n = refl
  entry_other Naolfd Naocrd n = refl
  entry_other Naolfd Naolfd n = absurd (n refl)
  entry_other Naolfd Naoffd n = refl
  entry_other Naolfd Naohtd n = refl
  entry_other Naoffd Naocrd n = refl
  entry_other Naoffd Naolfd n = refl
  entry_other Naoffd Naoffd n = absurd (n refl)
  entry_other Naoffd Naohtd n = refl
  entry_other Naohtd Naocrd n = refl
  entry_other Naohtd Naolfd n = refl
  entry_other Naohtd Naoffd n = refl
  entry_other Naohtd Naohtd n = absurd (n refl)

pub entry_for_each : {A : Type 0} (f : Disposition → A) (d : Disposition) → entry_of (for_each f) d ≡ f d
entry_for_each f Naocrd = refl
entry_for_each f Naolfd = refl
entry_for_each f Naoffd = refl
entry_for_each f Naohtd = refl

-- each option has a number of its own
pub numbered_again : (d : Disposition) → disposition_numbered (option_number d) ≡ Some d
unfolding disposition_numbered
numbered_again Naocrd = refl
numbered_again Naolfd = refl
numbered_again Naoffd = refl
numbered_again Naohtd = refl

-- .. by which two are told apart
pub same_or_other : (d e : Disposition) → (d ≡ e) ⊎ (d ≡ e → ⊥)
same_or_other d e = go (eqb (option_number d) (option_number e)) refl
  where
    go : (b : Bool) → eqb (option_number d) (option_number e) ≡ b → (d ≡ e) ⊎ (d ≡ e → ⊥)
    go true h =
        let one : Some d ≡ Some e = sym (numbered_again d) ∙ ap disposition_numbered (eqb-true _ _ h) ∙ numbered_again e in
        inl (ap (λ (m : Option Disposition). of_disposition d (λ x. x) m) one)
    go false h = inr (λ p. eqb-false _ _ h (ap option_number p))

-- what holds where an option was found, whichever it is, and where none was
pub found_cases : {A : Type 0} (P : A → Type 0) {none : A} {some : Disposition → A} → P none → ((d : Disposition) → P (some d))
    → (found : Option Disposition) → P (of_disposition none some found)
found_cases P n s None = n
found_cases P n s (Some d) = s d
