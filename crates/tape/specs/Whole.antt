-- Claims about the tape's rules: a line has a bound, a run never meets code 1, and no field is left out.
use Rattle.std.specs.Prelude.{◌≡◌, List, ℕ, suc, ◌+◌, ◌*◌, ◌≤◌, length}
use Rattle.codes.specs.Answers.{paper_room, wire_room}
use Rattle.codes.specs.declared.Code.TheVariants.{NoRoom}
use Rattle.tape.specs.declared.Item.{Item}
use Rattle.tape.specs.Fields.{fields_from, fields_at}
use Rattle.tape.specs.Lines.{line_of, shown, bad_tape}
use Rattle.tape.specs.Running.{TapeRun, with_room, item_answer}

-- three numbers of five digits, two bytes of hex for each byte, and a byte behind each of the five
abbrev pub line_room : ℕ
line_room = 3 * (5 + 1) + (2 * paper_room + 1) + (2 * wire_room + 1)

-- Assumed: paper and wire bytes within the sizes of code 1. Promised: a line has at most `line_room` bytes. Ruled out:
-- numbers without a bound; bytes of more than two digits.
abbrev pub LineFits : Type 0
LineFits = (field item code : ℕ) (paper wire : List ℕ) → length paper ≤ paper_room → length wire ≤ wire_room
    → length (line_of field item code paper wire) ≤ line_room

-- The same of what an item shows: its line, or none.
abbrev pub ShownFits : Type 0
ShownFits = (field item code : ℕ) (paper wire : List ℕ) → length paper ≤ paper_room → length wire ≤ wire_room
    → length (shown field item code paper wire) ≤ line_room

-- The same of `bad tape N`, whatever the number.
abbrev pub BadFits : Type 0
BadFits = (n : ℕ) → length (bad_tape n) ≤ line_room

-- Assumed: any place of a run, any item. Promised: its code is not 1. Ruled out: a tape that fails by its length; an
-- item refused for what others wrote.
abbrev pub NeverNoRoom : Type 0
NeverNoRoom = (r : TapeRun) (i : Item) → (item_answer (with_room r) i).code ≡ NoRoom → ⊥

-- Assumed: any tape. Promised: the count that bounds its fields leaves none out, as a larger one gives the same.
-- Ruled out: a run that stops at some number of fields; one that passes over empty fields.
abbrev pub NoFieldLeftOut : Type 0
NoFieldLeftOut = (tape : List ℕ) (more : ℕ) → fields_from (suc (length tape) + more) tape 0 ≡ fields_at tape 0
