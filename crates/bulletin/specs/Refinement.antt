-- The bulletin end as the code keeps it: its view, its clean cells, and how a step and an answer of the code meet the rules.
use Rattle.std.specs.Prelude.{◌≡◌, List, ℕ, length}
use Rattle.lists.specs.Buffers.{Lent, untouched, WroteAtStart}
use Rattle.codes.specs.declared.Code.{Code}
use Rattle.codes.specs.declared.Code.TheVariants.{Done}
use Rattle.codes.specs.declared.Note.{Note}
use Rattle.codes.specs.declared.Note.TheVariants.{Clear}
use Rattle.negotiation.specs.declared.Side.{Side}
use Rattle.negotiation.specs.declared.OptionState.{OptionState}
use Rattle.negotiation.specs.Carried.{all_no, moved}
use Rattle.reader.specs.declared.Item.TheVariants.{BodyEnd}
use Rattle.reader.specs.Reading.{body_room}
use Rattle.reader.specs.Refinement.{view_reader, CleanReader, idle_cells}
use Rattle.sent_macros.specs.declared.SendingTable.{SendingTable}
use Rattle.sent_macros.specs.Refinement.{view_table, CleanTable, WholeTable, free_cells}
use Rattle.issues.specs.declared.Issues.{Issues}
use Rattle.issues.specs.Issues.{first_issue}
use Rattle.disposition.specs.ByOption.{all_unspoken, no_waits}
use Rattle.bulletin.specs.declared.Bulletin.{Bulletin}
use Rattle.bulletin.specs.declared.Step.{Step}
use Rattle.bulletin.specs.declared.Answer.{Answer}
use Rattle.bulletin.specs.State.{BulletinState, Effect, CallEffect}
use Rattle.bulletin.specs.Network.{item_read}

abbrev pub view_bulletin : Bulletin → BulletinState
view_bulletin b = record {
  sides = b.sides;
  reader = view_reader b.reader;
  table = view_table b.table;
  values = b.values;
  waits = b.waits;
  issues = b.issues;
}

pub record CleanBulletin (b : Bulletin) : Type 0 where
  pub reader : CleanReader b.reader
  pub table : CleanTable b.table

-- the arrays have the lengths of their types
pub record WholeBulletin (b : Bulletin) : Type 0 where
  pub body : length b.reader.body ≡ body_room
  pub table : WholeTable b.table
  pub kept : length b.issues.kept ≡ 256

-- a step of the code does what the rule says: its data for the host, its wire bytes, every byte of the two lent buffers, the
-- new state; and nothing is left behind in cells that are no longer used
pub record RefinesStep (d : Effect) (b : Bulletin) (host wire : Lent) (r : Step) : Type 0 where
  pub note : r.note ≡ d.note
  pub given : WroteAtStart d.host host r.host
  pub sent : WroteAtStart d.wire wire r.wire
  pub view : view_bulletin r.state ≡ d.state
  pub clean : CleanBulletin b → CleanBulletin r.state

-- an answer of the code is the rule's: code, note, counts, every lent byte and the new state; a refusal returns the very
-- state that it was given
pub record RefinesOutcome (a : CallEffect) (b : Bulletin) (host wire : Lent) (r : Answer) : Type 0 where
  pub code : r.code ≡ a.code
  pub note : r.note ≡ a.effect.note
  pub given : WroteAtStart a.effect.host host r.host
  pub sent : WroteAtStart a.effect.wire wire r.wire
  pub view : view_bulletin r.state ≡ a.effect.state
  pub clean : CleanBulletin b → CleanBulletin r.state
  pub whole : WholeBulletin b → WholeBulletin r.state
  pub same : (a.code ≡ Done → ⊥) → r.state ≡ b

-- where no buffer for data is lent, none is written
pub record RefinesStepOnWire (d : Effect) (b : Bulletin) (wire : Lent) (r : Step) : Type 0 where
  pub met : (host : List ℕ) → RefinesStep d b (untouched host) wire r

pub record RefinesOutcomeOnWire (a : CallEffect) (b : Bulletin) (wire : Lent) (r : Answer) : Type 0 where
  pub met : (host : List ℕ) → RefinesOutcome a b (untouched host) wire r

-- .. nor on the wire; or a byte for the host alone
pub record RefinesStepUnwritten (d : Effect) (b : Bulletin) (r : Step) : Type 0 where
  pub met : (wire : List ℕ) → RefinesStepOnWire d b (untouched wire) r

pub record RefinesStepOnHost (d : Effect) (b : Bulletin) (host : Lent) (r : Step) : Type 0 where
  pub met : (wire : List ℕ) → RefinesStep d b host (untouched wire) r

-- what a call owes to its rule, which goes by the sizes of the lent buffers
abbrev pub RefinesAnswer : (ℕ → ℕ → CallEffect) → Bulletin → Lent → Lent → Answer → Type 0
RefinesAnswer rule b host wire r = RefinesOutcome (rule (length host.before) (length wire.before)) b host wire r

abbrev pub RefinesAnswerOnWire : (ℕ → CallEffect) → Bulletin → Lent → Answer → Type 0
RefinesAnswerOnWire rule b wire r = RefinesOutcomeOnWire (rule (length wire.before)) b wire r

-- the code's answers: a refusal, with the state that was given and nothing written, and a step that was done
abbrev pub refusal : Bulletin → Code → Answer
refusal b c = record { code = c; note = Clear; host = 0; wire = 0; state = b }

abbrev pub answered : Step → Answer
answered r = record { code = Done; note = r.note; host = r.host; wire = r.wire; state = r.state }

-- a step that writes so many bytes on the wire, and none for the host
abbrev pub step_of : Note → ℕ → Bulletin → Step
step_of n wire b = record { note = n; host = 0; wire = wire; state = b }

-- the sides of the code's state after one of them moved
abbrev pub sides_moved : Bulletin → Side → OptionState → Bulletin
sides_moved b side q = record { sides = moved b.sides side q; reader = b.reader; table = b.table; values = b.values; waits = b.waits; issues = b.issues }

-- the state that a step leaves
pub record RefinesState (s : BulletinState) (b r : Bulletin) : Type 0 where
  pub view : view_bulletin r ≡ s
  pub clean : CleanBulletin b → CleanBulletin r

-- the end of a body: the reader's body is handled, and the reader is empty
abbrev pub body_end_read : BulletinState → Effect
body_end_read s = item_read s BodyEnd

-- the bulletin end at first, as the code makes it
abbrev pub fresh_cells : Bulletin
fresh_cells = record { sides = all_no; reader = idle_cells; table = free_cells; values = all_unspoken; waits = no_waits; issues = first_issue }
