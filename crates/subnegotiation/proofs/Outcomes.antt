-- The checks on a body by cases: what holds of a note, and of each option where it is in force, holds of the outcome.
use mathlib.Core.Path.{◌≡◌}
use mathlib.Core.Bool.{Bool, true, false, ◌&&◌}
use mathlib.Core.List.{List, [], ◌∷◌}
use Prim.Native.Nat.{ℕ}
use lib.Dec.{eqb}
use Rattle.lists.proofs.Lengths.{chosen, either}
use Rattle.codes.specs.Telnet.{RCTE, BM}
use Rattle.codes.specs.Dispositions.{disposition_numbered}
use Rattle.codes.specs.declared.Disposition.{Disposition}
use Rattle.codes.proofs.Entries.{found_cases}
use Rattle.codes.specs.declared.Note.{Note}
use Rattle.codes.specs.declared.Note.TheVariants.{Unreadable, Inactive, OtherOption}
use Rattle.negotiation.specs.declared.End.{End}
use Rattle.negotiation.specs.declared.Sides.{Sides}
use Rattle.negotiation.specs.Table.{is_yes}
use Rattle.negotiation.specs.Carried.{macros_in_force, disposition_in_force}
use Rattle.reader.specs.Reading.{by_option}
use Rattle.std.specs.Prelude.{Ok, Err}
use Rattle.subnegotiation.specs.declared.Subject.{Subject}
use Rattle.subnegotiation.specs.declared.Subject.TheVariants.{Rcte, Disposes, Macro}
use Rattle.subnegotiation.specs.Checks.{Checked, reads_rcte, in_force, option_checked, checked}

module _ (P : Checked → Type 0) (end : End) (s : Sides) (noted : (n : Note) → P (Err n)) (rcte : is_yes s.rcte ≡ true → P (Ok Rcte))
    (disposes : (d : Disposition) → disposition_in_force s d ≡ true → P (Ok (Disposes d))) (macro : macros_in_force end s ≡ true → P (Ok Macro)) where
  while_on : (on : Bool) {x : Subject} → (on ≡ true → P (Ok x)) → P (in_force on x)
  while_on on f = chosen P on f (λ e. noted Inactive)

  pub checked_cases : (marred : Bool) (body : List ℕ) → P (checked end s marred body)
  unfolding checked by_option option_checked
  checked_cases true body = noted Unreadable
  checked_cases false [] = noted Unreadable
  checked_cases false (option ∷ rest) =
      either P (eqb option RCTE && reads_rcte end) (while_on (is_yes s.rcte) rcte)
      (either P (eqb option BM) (while_on (macros_in_force end s) macro)
      (found_cases P (noted OtherOption) (λ d. while_on (disposition_in_force s d) (disposes d)) (disposition_numbered option)))
