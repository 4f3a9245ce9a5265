-- The checks on a body in any states of the options, beside those with every option in force.
use mathlib.Core.Path.{◌≡◌, refl}
use mathlib.Core.Bool.{Bool, true, false, ◌&&◌, cond}
use mathlib.Core.List.{List, [], ◌∷◌}
use Prim.Native.Nat.{ℕ}
use lib.Dec.{eqb}
use Rattle.lists.proofs.Lengths.{either}
use Rattle.codes.specs.Telnet.{RCTE, BM}
use Rattle.codes.specs.Dispositions.{disposition_numbered, of_disposition}
use Rattle.codes.specs.declared.Disposition.{Disposition}
use Rattle.codes.specs.declared.Disposition.TheVariants.{Naocrd, Naolfd, Naoffd, Naohtd}
use Rattle.std.specs.Prelude.{Option, Some, None, Ok, Err}
use Rattle.codes.specs.declared.Note.TheVariants.{Inactive, OtherOption}
use Rattle.negotiation.specs.declared.End.{End}
use Rattle.negotiation.specs.declared.Sides.{Sides}
use Rattle.negotiation.specs.Table.{is_yes}
use Rattle.negotiation.specs.Carried.{macros_in_force, disposition_in_force}
use Rattle.reader.specs.Reading.{by_option}
use Rattle.subnegotiation.specs.Checks.{Checked, in_force, option_checked, checked}
use Rattle.subnegotiation.specs.declared.Subject.TheVariants.{Rcte, Disposes, Macro}
use Rattle.mending.specs.Judging.{all_in_force}

all_dispose : (d : Disposition) → disposition_in_force all_in_force d ≡ true
all_dispose Naocrd = refl
all_dispose Naolfd = refl
all_dispose Naoffd = refl
all_dispose Naohtd = refl

-- the check on a body's option, from what it was found to be
abbrev by_found : Sides → (rcte bm : Bool) → Option Disposition → Checked
by_found s rcte bm found =
    cond rcte (in_force (is_yes s.rcte) Rcte)
    (cond bm (in_force (macros_in_force End.Printer s) Macro)
    (of_disposition (Err OtherOption) (λ d. in_force (disposition_in_force s d) (Disposes d)) found))

-- a body is checked as with every option in force, or its option is not in force
module _ (P : Checked → Type 0) (sides : Sides) (inactive : P (Err Inactive)) where
  option_either : (rcte bm : Bool) (found : Option Disposition) → P (by_found all_in_force rcte bm found) → P (by_found sides rcte bm found)
  option_either true bm found p = either P (is_yes sides.rcte) p inactive
  option_either false true found p = either P (macros_in_force End.Printer sides) p inactive
  option_either false false None p = p
  option_either false false (Some d) p = either P (disposition_in_force sides d) (rw (all_dispose d) at p) inactive

  pub checked_either : (marred : Bool) (body : List ℕ) → P (checked End.Printer all_in_force marred body) → P (checked End.Printer sides marred body)
  unfolding checked by_option option_checked
  checked_either true body p = p
  checked_either false [] p = p
  checked_either false (option ∷ rest) p = option_either (eqb option RCTE && true) (eqb option BM) (disposition_numbered option) p
