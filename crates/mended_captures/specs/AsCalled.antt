-- The same of the call `mending::mend`, as a program makes it: of the bytes in its buffers.
use Rattle.std.specs.Prelude.{◌≡◌, true, List, [], ℕ, ◌≤◌, ◌<◌, length, take}
use Rattle.lists.specs.Buffers.{Lent}
use Rattle.reader.specs.Reading.{is_between}
use Rattle.printer.specs.State.{PrinterState}
use Rattle.printer.specs.Network.{bytes_read}
use Rattle.mending.specs.declared.Answer.{Answer}
use Rattle.mending.specs.declared.Outcome.TheVariants.{Mended, TooLong}
use Rattle.mending.specs.Mending.{capture_room, list_room, drops, lines_of, too_long, mend_call}
use Rattle.mending.specs.Dropping.{without}
use Rattle.mending.specs.Refinement.{RefinesAnswer}
use Rattle.mended_captures.specs.Notes.{at_rest, notes_read, AllFaultless}
use Rattle.mended_captures.specs.SameReading.{SameReading}

-- a call as it was made, of which is known what its contract says
pub record MendCalled : Type 0 where
  pub capture : List ℕ
  pub out : Lent
  pub list : Lent
  pub answer : Answer
  pub meets : RefinesAnswer (mend_call capture (length out.before) (length list.before)) out list answer

-- what it wrote to each buffer
abbrev pub out_of : MendCalled → List ℕ
out_of c = take c.answer.written c.out.after

abbrev pub list_of : MendCalled → List ℕ
list_of c = take c.answer.listed c.list.after

abbrev pub IsMended : MendCalled → Type 0
IsMended c = c.answer.outcome ≡ Mended

-- buffers of at least the sizes that the call asks for
pub record Roomy (c : MendCalled) : Type 0 where
  pub out : capture_room ≤ length c.out.before
  pub list : list_room ≤ length c.list.before

-- Assumed: a call with buffers of those sizes. Promised: a capture is mended unless it is longer than 65,536 bytes; of such a one
-- nothing is written but `too long`, to the list. Ruled out: a call that refuses what it could mend; one that mends the
-- beginning of a capture that is too long.
abbrev pub MendedOrTooLong : Type 0
MendedOrTooLong = (c : MendCalled) → Roomy c
    → (length c.capture ≤ capture_room → IsMended c)
    × (capture_room < length c.capture → (c.answer.outcome ≡ TooLong) × (out_of c ≡ []) × (list_of c ≡ too_long))

-- what a printer end that reads the output, and one that reads the capture, do
pub record ReadsWell (c : MendCalled) (s : PrinterState) : Type 0 where
  pub notes : AllFaultless (notes_read (at_rest s) (out_of c))
  pub ends : is_between (bytes_read (at_rest s) (out_of c)).state.reader.phase ≡ true
  pub same : SameReading (bytes_read (at_rest s) (out_of c)) (bytes_read (at_rest s) c.capture)

-- Assumed: a call that mended its capture. Promised: the output is the capture without the drops that the list tells, and a
-- printer end reads it without note 1 or 4 as it would have read the capture. Ruled out: a list that tells of other bytes
-- than those left out; an output that was cut.
abbrev pub OutputReadsWell : Type 0
OutputReadsWell = (c : MendCalled) → IsMended c
    → (list_of c ≡ lines_of (drops c.capture)) × (out_of c ≡ without 0 (drops c.capture) c.capture) × ((s : PrinterState) → ReadsWell c s)

-- Assumed: two calls that mended, the second what the first wrote. Promised: the second writes the same, and its list is empty.
-- Ruled out: a call whose output is not a capture it would leave as it is; one that tells of drops that it did not make.
abbrev pub OutputMendedAgain : Type 0
OutputMendedAgain = (first second : MendCalled) → IsMended first → IsMended second → second.capture ≡ out_of first
    → (out_of second ≡ out_of first) × (list_of second ≡ [])
