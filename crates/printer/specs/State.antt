-- The printer end's state, and what a step of it does.
use Rattle.std.specs.Prelude.{Bool, List, [], ◌++◌, ℕ}
use Rattle.codes.specs.Answers.{first_note}
use Rattle.codes.specs.declared.Code.{Code}
use Rattle.codes.specs.declared.Code.TheVariants.{Done}
use Rattle.codes.specs.declared.Note.{Note}
use Rattle.codes.specs.declared.Note.TheVariants.{Clear}
use Rattle.negotiation.specs.declared.End.{End}
use Rattle.negotiation.specs.declared.Sides.{Sides}
use Rattle.negotiation.specs.Table.{is_yes}
use Rattle.negotiation.specs.Carried.{all_no, macros_in_force}
use Rattle.reader.specs.Reading.{ReaderState, idle}
use Rattle.received_macros.specs.Texts.{Table, no_macros}
use Rattle.rcte.specs.Taking.{TakeUp}
use Rattle.rcte.specs.Control.{RcteState, RcteEffect, started}
use Rattle.disposition.specs.ByOption.{AllValues}
use Rattle.disposition.specs.ByOption.{all_unspoken}

pub record PrinterState : Type 0 where
  pub sides : Sides
  pub reader : ReaderState
  pub table : Table
  pub rcte : RcteState
  pub values : AllValues

abbrev pub fresh : PrinterState
fresh = record { sides = all_no; reader = idle; table = no_macros; rcte = started; values = all_unspoken }

abbrev pub with_sides : PrinterState → Sides → PrinterState
with_sides s x = record { sides = x; reader = s.reader; table = s.table; rcte = s.rcte; values = s.values }

abbrev pub with_reader : PrinterState → ReaderState → PrinterState
with_reader s x = record { sides = s.sides; reader = x; table = s.table; rcte = s.rcte; values = s.values }

abbrev pub with_table : PrinterState → Table → PrinterState
with_table s x = record { sides = s.sides; reader = s.reader; table = x; rcte = s.rcte; values = s.values }

abbrev pub with_rcte : PrinterState → RcteState → PrinterState
with_rcte s x = record { sides = s.sides; reader = s.reader; table = s.table; rcte = x; values = s.values }

abbrev pub with_values : PrinterState → AllValues → PrinterState
with_values s x = record { sides = s.sides; reader = s.reader; table = s.table; rcte = s.rcte; values = x }

-- in force
abbrev pub rcte_in_force : PrinterState → Bool
rcte_in_force s = is_yes s.sides.rcte

abbrev pub echo_in_force : PrinterState → Bool
echo_in_force s = is_yes s.sides.echo

abbrev pub bm_in_force : PrinterState → Bool
bm_in_force s = macros_in_force End.Printer s.sides

-- what a step does: a note, paper and wire bytes, the keys that it took up and how, and the state after it
pub record Effect : Type 0 where
  pub note : Note
  pub paper : List ℕ
  pub wire : List ℕ
  pub taken : List TakeUp
  pub state : PrinterState

abbrev pub sends : List ℕ → PrinterState → Effect
sends bytes s = record { note = Clear; paper = []; wire = bytes; taken = []; state = s }

abbrev pub nothing : PrinterState → Effect
nothing s = sends [] s

abbrev pub notes : Note → PrinterState → Effect
notes n s = record { note = n; paper = []; wire = []; taken = []; state = s }

abbrev pub printing : List ℕ → PrinterState → Effect
printing bytes s = record { note = Clear; paper = bytes; wire = []; taken = []; state = s }

-- what RCTE's control did
abbrev pub of_rcte : RcteEffect → PrinterState → Effect
of_rcte e s = record { note = Clear; paper = e.paper; wire = e.wire; taken = e.taken; state = with_rcte s e.rcte }

-- a step's bytes behind others that go first
abbrev pub sending_first : List ℕ → Effect → Effect
sending_first bytes d = record { note = d.note; paper = d.paper; wire = bytes ++ d.wire; taken = d.taken; state = d.state }

-- one step and then another: the first note counts
abbrev pub followed : Effect → Effect → Effect
followed d e = record {
  note = first_note d.note e.note;
  paper = d.paper ++ e.paper;
  wire = d.wire ++ e.wire;
  taken = d.taken ++ e.taken;
  state = e.state;
}

-- a call's answer
pub record CallEffect : Type 0 where
  pub code : Code
  pub effect : Effect

abbrev pub done : Effect → CallEffect
done d = record { code = Done; effect = d }

-- a refusal has no note, writes nothing and returns the state that it was given
abbrev pub refused : PrinterState → Code → CallEffect
refused s c = record { code = c; effect = nothing s }
