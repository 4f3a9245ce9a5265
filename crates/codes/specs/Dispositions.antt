-- The four options about output disposition, their numbers, how one is found by a number of its own, and what has an entry for each.
use Rattle.std.specs.Prelude.{cond, List, [], ◌∷◌, ℕ, eqb, Option, Some, None}
use Rattle.codes.specs.declared.Disposition.{Disposition}
use Rattle.codes.specs.declared.Disposition.TheVariants.{Naocrd, Naolfd, Naoffd, Naohtd}
use Rattle.codes.specs.declared.Each.{Each}
use Rattle.codes.specs.Telnet.{NAOCRD, NAOLFD, NAOFFD, NAOHTD}

-- all of them, in the order in which they are told
abbrev pub dispositions : List Disposition
dispositions = Naocrd ∷ Naolfd ∷ Naoffd ∷ Naohtd ∷ []

abbrev pub option_number : Disposition → ℕ
option_number Naocrd = NAOCRD
option_number Naolfd = NAOLFD
option_number Naoffd = NAOFFD
option_number Naohtd = NAOHTD

-- an entry for each option, looked up and replaced by the option
abbrev pub entry_of : {A : Type 0} → Each A → Disposition → A
entry_of r Naocrd = r.naocrd
entry_of r Naolfd = r.naolfd
entry_of r Naoffd = r.naoffd
entry_of r Naohtd = r.naohtd

abbrev pub with_entry : {A : Type 0} → Each A → Disposition → A → Each A
with_entry r Naocrd x = record { naocrd = x; naolfd = r.naolfd; naoffd = r.naoffd; naohtd = r.naohtd }
with_entry r Naolfd x = record { naocrd = r.naocrd; naolfd = x; naoffd = r.naoffd; naohtd = r.naohtd }
with_entry r Naoffd x = record { naocrd = r.naocrd; naolfd = r.naolfd; naoffd = x; naohtd = r.naohtd }
with_entry r Naohtd x = record { naocrd = r.naocrd; naolfd = r.naolfd; naoffd = r.naoffd; naohtd = x }

abbrev pub for_each : {A : Type 0} → (Disposition → A) → Each A
for_each f = record { naocrd = f Naocrd; naolfd = f Naolfd; naoffd = f Naoffd; naohtd = f Naohtd }

-- the option that a number belongs to, each having one
abbrev pub found_by : (Disposition → ℕ) → ℕ → Option Disposition
found_by number n =
    cond (eqb n (number Naocrd)) (Some Naocrd)
    (cond (eqb n (number Naolfd)) (Some Naolfd)
    (cond (eqb n (number Naoffd)) (Some Naoffd)
    (cond (eqb n (number Naohtd)) (Some Naohtd) None)))

unfoldable pub disposition_numbered : ℕ → Option Disposition
disposition_numbered option = found_by option_number option

-- what is made of one that was found, and of none
abbrev pub of_disposition : {A : Type 0} → A → (Disposition → A) → Option Disposition → A
of_disposition none some None = none
of_disposition none some (Some d) = some d
