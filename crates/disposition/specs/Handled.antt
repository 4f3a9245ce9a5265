-- Who handles the characters of an option about output disposition, and by which value.
use Rattle.std.specs.Prelude.{◌≡◌, Bool, false, not, cond, List, [], ◌∷◌, map, ℕ, eqb}
use Rattle.codes.specs.Answers.{Guard, refused_if}
use Rattle.codes.specs.Telnet.{DR, DS}
use Rattle.codes.specs.Dispositions.{dispositions, option_number, for_each}
use Rattle.codes.specs.declared.Code.TheVariants.{AlreadySo, NotInForce, BadValue}
use Rattle.codes.specs.declared.Disposition.{Disposition}
use Rattle.wire.specs.Frames.{frame}
use Rattle.negotiation.specs.declared.Sides.{Sides}
use Rattle.negotiation.specs.Carried.{disposition_in_force}
use Rattle.bodies.specs.ValueBodies.{is_bad_value}
use Rattle.disposition.specs.declared.Values.{Values}
use Rattle.disposition.specs.declared.Handling.{Handling}
use Rattle.disposition.specs.declared.Handling.TheVariants.{Sender, Receiver}
use Rattle.disposition.specs.ByOption.{AllValues, Handlings, values_of, handling_of}

-- with DS 0 the sender handles, as DR says; otherwise the receiver does, as DS says
unfoldable pub handling : Values → Handling
handling v = cond (eqb v.ds 0) (Sender v.dr) (Receiver v.ds)

-- while the option is not in force, the receiver handles with 255
abbrev pub handling_while : Bool → Values → Handling
handling_while on v = cond on (handling v) (Receiver 255)

-- of one option, and of all four, as an end has them
abbrev pub handling_in : Sides → AllValues → Disposition → Handling
handling_in sides v d = handling_while (disposition_in_force sides d) (values_of v d)

abbrev pub handlings_in : Sides → AllValues → Handlings
handlings_in sides v = for_each (handling_in sides v)

-- the sender handles by just this value
abbrev pub handled_by : ℕ → Handling → Bool
handled_by value (Sender n) = eqb n value
handled_by value (Receiver n) = false

-- what an end reports of an option, in numbers: who handles, 0 the receiver and 1 the sender as their values are numbered, and by
-- which value
pub record Report : Type 0 where
  pub who : ℕ
  pub value : ℕ

abbrev pub report_of : Handling → Report
report_of (Receiver n) = record { who = DR; value = n }
report_of (Sender n) = record { who = DS; value = n }

-- .. of all four
abbrev pub reports_of : Handlings → List Report
reports_of h = map (λ d. report_of (handling_of h d)) dispositions

-- Assumed: two answers of `report` with the same numbers. Promised: they are the same answer. Ruled out: sender and
-- receiver reported alike; a value that is reported as another, or for another option.
abbrev pub ReportsDiffer : Type 0
ReportsDiffer = (g h : Handlings) → reports_of g ≡ reports_of h → g ≡ h

-- a value on the wire; who is DR or DS, the end that suggests it
abbrev pub suggestion : Disposition → ℕ → ℕ → List ℕ
suggestion d who v = frame (option_number d ∷ who ∷ v ∷ [])

-- the refusals of a suggestion behind codes 1 and 4; own is the value that counts for the end that suggests
abbrev pub suggest_guards : Disposition → Bool → ℕ → ℕ → List Guard
suggest_guards d on own v = refused_if (not on) NotInForce ∷ refused_if (is_bad_value d v) BadValue ∷ refused_if (eqb v own) AlreadySo ∷ []
