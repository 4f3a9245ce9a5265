-- The numbers of a run's lines: no more fields and items than the tape has bytes, so that each number is printed whole.
use Rattle.std.specs.Prelude.{List, ℕ, ◌+◌, ◌≤◌, length}
use Rattle.tape.specs.declared.Place.{Place}
use Rattle.decimals.specs.Decimals.{Reads}
use Rattle.tape.specs.Running.{tape_room}
use Rattle.tape.specs.Refinement.Steps.{At, stepped, start}

-- a place within a tape
pub record Within (tape : List ℕ) (p : Place) : Type 0 where
  pub fields : p.field ≤ p.next
  pub next : p.next ≤ length tape
  pub items : p.item ≤ p.at
  pub at : p.at ≤ length tape

-- Assumed: any tape. Promised: the start of a run is a place within it. Ruled out: a start past the end; numbers that
-- start too high.
abbrev pub StartWithin : Type 0
StartWithin = (tape : List ℕ) → Within tape start.place

-- Assumed: a place within its tape. Promised: so is the one after a step. Ruled out: more fields than bytes; a step
-- past the end.
abbrev pub StepWithin : Type 0
StepWithin = (tape : List ℕ) (a : At) → Within tape a.place → Within tape (stepped tape a).at.place

-- what a step may print: the numbers of its item, or that of a bad field behind it
pub record Numbered (p : Place) : Type 0 where
  pub field : Reads p.field
  pub item : Reads p.item
  pub bad : Reads (p.field + 1)

-- Assumed: a place within a tape that is not too long. Promised: the numbers that a step prints there are printed
-- whole. Ruled out: five digits that are too few; a bad field's number that is one too large to print.
abbrev pub NumbersRead : Type 0
NumbersRead = (tape : List ℕ) (p : Place) → length tape ≤ tape_room → Within tape p → Numbered p
