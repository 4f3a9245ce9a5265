-- The bulletin end's state, and what a step of it does.
use Rattle.std.specs.Prelude.{Bool, ◌&&◌, cond, List, [], ℕ}
use Rattle.codes.specs.declared.Code.{Code}
use Rattle.codes.specs.declared.Code.TheVariants.{Done}
use Rattle.codes.specs.declared.Disposition.{Disposition}
use Rattle.codes.specs.declared.Note.{Note}
use Rattle.codes.specs.declared.Note.TheVariants.{Clear}
use Rattle.negotiation.specs.declared.Sides.{Sides}
use Rattle.negotiation.specs.Table.{is_yes}
use Rattle.negotiation.specs.Carried.{all_no}
use Rattle.reader.specs.Reading.{ReaderState, idle}
use Rattle.sent_macros.specs.Sending.{Definitions, no_definitions, defining}
use Rattle.issues.specs.declared.Issues.{Issues}
use Rattle.issues.specs.Issues.{first_issue, keeping}
use Rattle.disposition.specs.declared.Values.{Values}
use Rattle.disposition.specs.ByOption.{AllValues, Waits, Handlings, all_unspoken, with_values_of, no_waits, wait_of, with_wait_of}
use Rattle.disposition.specs.Handled.{handling, handlings_in}
use Rattle.disposition.specs.ItemData.{awaits}

-- waits: for which options output waits (254); issues: the forecast issue, and the one that each definition kept
pub record BulletinState : Type 0 where
  pub sides : Sides
  pub reader : ReaderState
  pub table : Definitions
  pub values : AllValues
  pub waits : Waits
  pub issues : Issues

abbrev pub fresh : BulletinState
fresh = record { sides = all_no; reader = idle; table = no_definitions; values = all_unspoken; waits = no_waits; issues = first_issue }

abbrev pub with_sides : BulletinState → Sides → BulletinState
with_sides s x = record { sides = x; reader = s.reader; table = s.table; values = s.values; waits = s.waits; issues = s.issues }

abbrev pub with_reader : BulletinState → ReaderState → BulletinState
with_reader s x = record { sides = s.sides; reader = x; table = s.table; values = s.values; waits = s.waits; issues = s.issues }

-- what is defined, and the issues
abbrev pub with_macros : BulletinState → Definitions → Issues → BulletinState
with_macros s x i = record { sides = s.sides; reader = s.reader; table = x; values = s.values; waits = s.waits; issues = i }

abbrev pub with_issues : BulletinState → Issues → BulletinState
with_issues s i = with_macros s s.table i

-- a definition keeps the issue in force when it is made
abbrev pub with_definition : BulletinState → ℕ → List ℕ → BulletinState
with_definition s x t = with_macros s (defining s.table x t) (keeping s.issues x)

abbrev pub with_waits : BulletinState → Waits → BulletinState
with_waits s x = record { sides = s.sides; reader = s.reader; table = s.table; values = s.values; waits = x; issues = s.issues }

-- the values of one option; its wait, and no other, lasts while its outcome stays the sender's 254
abbrev pub with_values : BulletinState → Disposition → Values → BulletinState
with_values s d x = record {
  sides = s.sides;
  reader = s.reader;
  table = s.table;
  values = with_values_of s.values d x;
  waits = with_wait_of s.waits d (wait_of s.waits d && awaits (handling x));
  issues = s.issues;
}

-- in force means YES
abbrev pub rcte_in_force : BulletinState → Bool
rcte_in_force s = is_yes s.sides.rcte

abbrev pub bm_in_force : BulletinState → Bool
bm_in_force s = is_yes s.sides.bm

abbrev pub handlings_now : BulletinState → Handlings
handlings_now s = handlings_in s.sides s.values

-- bytes that BM does not stand for are sent as they are when it is not in force
abbrev pub definitions_now : BulletinState → Definitions
definitions_now s = cond (bm_in_force s) s.table no_definitions

-- what a step does: a note, data for the host, wire bytes, and the state after it
pub record Effect : Type 0 where
  pub note : Note
  pub host : List ℕ
  pub wire : List ℕ
  pub state : BulletinState

abbrev pub sends : List ℕ → BulletinState → Effect
sends bytes s = record { note = Clear; host = []; wire = bytes; state = s }

abbrev pub nothing : BulletinState → Effect
nothing s = sends [] s

abbrev pub notes : Note → BulletinState → Effect
notes n s = record { note = n; host = []; wire = []; state = s }

pub record CallEffect : Type 0 where
  pub code : Code
  pub effect : Effect

abbrev pub done : Effect → CallEffect
done d = record { code = Done; effect = d }

abbrev pub refused : BulletinState → Code → CallEffect
refused s c = record { code = c; effect = nothing s }
