-- What an end keeps for each of the four options about output disposition: the two values, and whether output waits.
use Rattle.std.specs.Prelude.{Bool, false, ◌||◌, ℕ}
use Rattle.codes.specs.declared.Each.{Each}
use Rattle.codes.specs.Dispositions.{entry_of, with_entry, for_each}
use Rattle.codes.specs.declared.Disposition.{Disposition}
use Rattle.disposition.specs.declared.Values.{Values}
use Rattle.disposition.specs.declared.Handling.{Handling}

-- the values of each option, the waits, and the handlings
abbrev pub AllValues : Type 0
AllValues = Each Values

abbrev pub Waits : Type 0
Waits = Each Bool

abbrev pub Handlings : Type 0
Handlings = Each Handling

-- unspoken, DS counts as 255 and DR as 0
abbrev pub unspoken : Values
unspoken = record { ds = 255; dr = 0 }

abbrev pub with_ds : Values → ℕ → Values
with_ds v n = record { ds = n; dr = v.dr }

abbrev pub with_dr : Values → ℕ → Values
with_dr v n = record { ds = v.ds; dr = n }

-- the two values of one option
abbrev pub values_of : AllValues → Disposition → Values
values_of v d = entry_of v d

abbrev pub with_values_of : AllValues → Disposition → Values → AllValues
with_values_of v d x = with_entry v d x

abbrev pub all_unspoken : AllValues
all_unspoken = for_each (λ d. unspoken)

-- for which options output waits; it waits while any of them does
abbrev pub wait_of : Waits → Disposition → Bool
wait_of w d = entry_of w d

abbrev pub with_wait_of : Waits → Disposition → Bool → Waits
with_wait_of w d b = with_entry w d b

abbrev pub no_waits : Waits
no_waits = for_each (λ d. false)

unfoldable pub is_waiting : Waits → Bool
is_waiting w = w.naocrd || w.naolfd || w.naoffd || w.naohtd

abbrev pub handling_of : Handlings → Disposition → Handling
handling_of h d = entry_of h d
