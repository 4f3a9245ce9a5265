-- The bulletin end as arrays of numbers that a host lends.
use Rattle.std.specs.Prelude.{◌≡◌, cond, List, [], ◌∷◌, ◌++◌, ℕ, get_or, drop}
use denote.Ref.{MutBor}
use denote.Triple.Both.{Both}
use Rattle.lists.specs.Buffers.{Lent}
use Rattle.codes.specs.Answers.{code_number, note_number, is_done}
use Rattle.disposition.specs.ByOption.{Waits}
use Rattle.sent_macros.specs.Sending.{status_number}
use Rattle.bulletin.specs.declared.in_place.Parts.{Parts}
use Rattle.bulletin.specs.State.{BulletinState, CallEffect}
use Rattle.bulletin.specs.Calls.{macro_standing, dispositions_report, output_now}
use Rattle.bulletin.specs.Refinement.{view_bulletin, RefinesAnswer, RefinesAnswerOnWire}
use Rattle.bulletin.specs.declared.Bulletin.{Bulletin}
use Rattle.bulletin.specs.declared.Answer.{Answer}
use Rattle.bulletin.specs.declared.Standing.{Standing}
use Rattle.session_arrays.specs.declared.Outcome.{Outcome}
use Rattle.session_arrays.specs.declared.Reported.{Reported}
use Rattle.session_arrays.specs.declared.StandingNumbers.{StandingNumbers}
use Rattle.session_arrays.specs.declared.bulletin_arrays.LentBulletinArrays.{LentBulletinArrays}
use Rattle.session_arrays.specs.Numbers.{flag_number, flag_of, sides_in, reader_in, sides_and_phase, small_of, values_in, value_numbers, reports_in, output_number}

-- small: the states of the nine sides, the reader's phase and whether its body is marred, whether output waits for each option about
-- output disposition, DS and DR of each. counts: bytes of the body. issue: the number in force. kept: for each byte the number that its last
-- DEFINE kept.
pub record BulletinArrays : Type 0 where
  pub small : List ℕ
  pub counts : List ℕ
  pub body : List ℕ
  pub statuses : List ℕ
  pub marks : List ℕ
  pub cells : List ℕ
  pub issue : List ℕ
  pub kept : List ℕ

abbrev pub waits_in : List ℕ → Waits
waits_in small = record {
  naocrd = flag_of (get_or small 11 0);
  naolfd = flag_of (get_or small 12 0);
  naoffd = flag_of (get_or small 13 0);
  naohtd = flag_of (get_or small 14 0);
}

abbrev pub wait_numbers : Waits → List ℕ
wait_numbers w = flag_number w.naocrd ∷ flag_number w.naolfd ∷ flag_number w.naoffd ∷ flag_number w.naohtd ∷ []

-- every record of arrays is a state
abbrev pub decoded_bulletin : BulletinArrays → Bulletin
decoded_bulletin a = record {
  sides = sides_in a.small;
  reader = reader_in a.small a.counts a.body;
  table = record { statuses = a.statuses; texts = record { marks = a.marks; cells = a.cells } };
  values = values_in a.small 15;
  waits = waits_in a.small;
  issues = record { present = get_or a.issue 0 0; kept = a.kept };
}

abbrev pub small_of_bulletin : Bulletin → List ℕ
small_of_bulletin b = small_of b.sides b.reader (wait_numbers b.waits ++ value_numbers b.values)

-- the small parts with other option states, another phase and other waits, the rest as it was
abbrev pub small_in_place : List ℕ → Parts → List ℕ
small_in_place small p = sides_and_phase p.sides p.phase ++ get_or small 10 0 ∷ wait_numbers p.waits ++ drop 15 small

abbrev pub encoded_bulletin : Bulletin → BulletinArrays
encoded_bulletin b = record {
  small = small_of_bulletin b;
  counts = b.reader.len ∷ [];
  body = b.reader.body;
  statuses = b.table.statuses;
  marks = b.table.texts.marks;
  cells = b.table.texts.cells;
  issue = b.issues.present ∷ [];
  kept = b.issues.kept;
}

-- Assumed: nothing. Promised: a state that was stored is found again, every byte. Ruled out: two states with the same arrays.
abbrev pub BulletinFoundAgain : Type 0
BulletinFoundAgain = (b : Bulletin) → decoded_bulletin (encoded_bulletin b) ≡ b

-- the arrays as a call begins and as it ends
pub record LentBulletin : Type 0 where
  pub before : BulletinArrays
  pub after : BulletinArrays

-- an answer in numbers
abbrev pub bulletin_outcome : Answer → Outcome
bulletin_outcome a = record { code = code_number a.code; note = note_number a.note; first = a.host; wire = a.wire }

-- the arrays behind a call: those of its new state, or as they were if it was refused
abbrev pub bulletin_kept : BulletinArrays → Answer → BulletinArrays
bulletin_kept before a = cond (is_done a.code) (encoded_bulletin a.state) before

-- what is left of an answer once its state is stored
pub record KeepsBulletin (a : Answer) (arrays : LentBulletin) (r : Outcome) : Type 0 where
  pub numbers : r ≡ bulletin_outcome a
  pub kept : arrays.after ≡ bulletin_kept arrays.before a

-- what a call on lent arrays owes to its rule, as at the printer end
pub record RefinesOnBulletinArrays (rule : BulletinState → ℕ → ℕ → CallEffect) (arrays : LentBulletin) (host wire : Lent) (r : Outcome) : Type 0 where
  pub answer : Answer
  pub refines : RefinesAnswer (rule (view_bulletin (decoded_bulletin arrays.before))) (decoded_bulletin arrays.before) host wire answer
  pub keeps : KeepsBulletin answer arrays r

-- .. where no buffer for data is lent
pub record RefinesOnBulletinArraysWire (rule : BulletinState → ℕ → CallEffect) (arrays : LentBulletin) (wire : Lent) (r : Outcome) : Type 0 where
  pub answer : Answer
  pub refines : RefinesAnswerOnWire (rule (view_bulletin (decoded_bulletin arrays.before))) (decoded_bulletin arrays.before) wire answer
  pub keeps : KeepsBulletin answer arrays r

-- what a question owes that looks at some of the arrays: the answer of the end, whatever the others hold
pub record ReportsBulletin (small : List ℕ) (r : Reported) : Type 0 where
  pub met : (a : BulletinArrays) → a.small ≡ small → reports_in r ≡ dispositions_report (view_bulletin (decoded_bulletin a))

pub record SaysOutput (small : List ℕ) (n : ℕ) : Type 0 where
  pub met : (a : BulletinArrays) → a.small ≡ small → n ≡ output_number (output_now (view_bulletin (decoded_bulletin a)))

-- how a macro byte stands, in numbers
abbrev pub standing_numbers : Standing → StandingNumbers
standing_numbers s = record { status = status_number s.status; kept = s.kept; present = s.present }

pub record SaysStanding (x : ℕ) (small statuses issue kept : List ℕ) (r : StandingNumbers) : Type 0 where
  pub met : (a : BulletinArrays) → a.small ≡ small → a.statuses ≡ statuses → a.issue ≡ issue → a.kept ≡ kept
      → r ≡ standing_numbers (macro_standing (view_bulletin (decoded_bulletin a)) x)

-- the arrays behind the parameters of a call
abbrev pub arrays_of_bulletin : (small counts body statuses marks cells issue kept : List ℕ) → BulletinArrays
arrays_of_bulletin small counts body statuses marks cells issue kept = record {
  small = small;
  counts = counts;
  body = body;
  statuses = statuses;
  marks = marks;
  cells = cells;
  issue = issue;
  kept = kept;
}

abbrev pub lent_bulletin : (small counts body statuses marks cells issue kept : Both (MutBor (List ℕ)) (MutBor (List ℕ))) → LentBulletin
lent_bulletin small counts body statuses marks cells issue kept = record {
  before = arrays_of_bulletin small.entry.now counts.entry.now body.entry.now statuses.entry.now marks.entry.now cells.entry.now issue.entry.now kept.entry.now;
  after = arrays_of_bulletin small.exit.now counts.exit.now body.exit.now statuses.exit.now marks.exit.now cells.exit.now issue.exit.now kept.exit.now;
}

-- .. in one struct, as they stand, and as they stood before
abbrev pub arrays_in : LentBulletinArrays → BulletinArrays
arrays_in a = arrays_of_bulletin a.small.now a.counts.now a.body.now a.statuses.now a.marks.now a.cells.now a.issue.now a.kept.now

abbrev pub lent_between : LentBulletinArrays → LentBulletinArrays → LentBulletin
lent_between before after = record { before = arrays_in before; after = arrays_in after }

-- the struct still lends what it lent; each method says so, for a caller behind `&mut` could be handed other references
pub record SameArrays (before after : LentBulletinArrays) : Type 0 where
  pub small : after.small.ghost_name ≡ before.small.ghost_name
  pub counts : after.counts.ghost_name ≡ before.counts.ghost_name
  pub body : after.body.ghost_name ≡ before.body.ghost_name
  pub statuses : after.statuses.ghost_name ≡ before.statuses.ghost_name
  pub marks : after.marks.ghost_name ≡ before.marks.ghost_name
  pub cells : after.cells.ghost_name ≡ before.cells.ghost_name
  pub issue : after.issue.ghost_name ≡ before.issue.ghost_name
  pub kept : after.kept.ghost_name ≡ before.kept.ghost_name
