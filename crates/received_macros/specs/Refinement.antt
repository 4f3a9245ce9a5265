-- The receiving table as the code keeps it: a mark for each byte, and the texts without gaps, that of a lower byte first.
use Rattle.std.specs.Prelude.{◌≡◌, Result, Ok, Err, Bool, true, false, ◌&&◌, cond, List, [], ◌∷◌, ◌++◌, map, ℕ, ◌+◌, ◌-◌, ◌≤◌, min, length, get_or, take, drop, replicate, ltb, eqb}
use Rattle.lists.specs.Lists.{sum}
use Rattle.lists.specs.Buffers.{Clean}
use Rattle.codes.specs.Telnet.{not_iac}
use Rattle.received_macros.specs.declared.Texts.{Texts}
use Rattle.received_macros.specs.declared.Reason.{Reason}
use Rattle.received_macros.specs.Texts.{Entry, plain, text, Table, no_macros, entry_of, text_room, is_itself, defined, Verdict}

-- the length of the text that a mark stands for: one less, at most 255; 0 marks a byte that is not defined
abbrev pub length_of : ℕ → ℕ
length_of mark = min (mark - 1) 255

abbrev pub lengths : List ℕ → ℕ
lengths marks = sum (map length_of marks)

-- the entry of a byte whose text is at the start of the cells
abbrev pub entry_at : ℕ → List ℕ → Entry
entry_at mark cells = cond (eqb mark 0) plain (text (take (length_of mark) cells))

unfoldable pub entries : List ℕ → List ℕ → Table
entries [] cells = []
entries (mark ∷ marks) cells = entry_at mark cells ∷ entries marks (drop (length_of mark) cells)

-- the table that a struct stands for; texts that pass the room are no macros
unfoldable pub view_texts : Texts → Table
view_texts t = cond (ltb text_room (lengths t.marks)) no_macros (entries t.marks t.cells)

-- .. by its parts
abbrev pub view_parts : (marks cells : List ℕ) → Table
view_parts marks cells = view_texts (record { marks = marks; cells = cells })

-- the table without macros, as the code makes it
abbrev pub empty_cells : Texts
empty_cells = record { marks = replicate 256 0; cells = replicate text_room 0 }

abbrev pub is_unmarked : List ℕ → ℕ → Bool
is_unmarked marks x = eqb (get_or marks x 0) 0

-- .. and begins no command
abbrev pub is_unmarked_text : List ℕ → ℕ → Bool
is_unmarked_text marks x = not_iac x && is_unmarked marks x

-- no mark is over 256, and the cells past the texts are 0
pub record CleanTexts (t : Texts) : Type 0 where
  pub marks : (x : ℕ) → get_or t.marks x 0 ≤ 256
  pub cells : Clean t.cells (lengths t.marks)

-- Assumed: two clean structs, their arrays of the lengths of their types, that stand for one table. Promised: they
-- are equal, in every cell. Ruled out: a replaced text left in a cell past the texts; texts in another order than
-- their bytes.
abbrev pub CleanDetermined : Type 0
CleanDetermined =
    (t r : Texts) → length t.cells ≡ text_room → length r.cells ≡ text_room → CleanTexts t → CleanTexts r → view_texts t ≡ view_texts r → t ≡ r

-- the same table, its texts within the cells
pub record Settled (t r : Texts) : Type 0 where
  pub room : lengths r.marks ≤ text_room
  pub table : view_texts t ≡ entries r.marks r.cells
  pub clean : CleanTexts t → CleanTexts r

-- Assumed: any struct. Promised: a byte without a mark stands for itself, so that one look is enough for an ordinary
-- byte. Ruled out: a text that is found without its mark; a table that gives each byte a text where its lengths pass
-- the room.
abbrev pub UnmarkedPlain : Type 0
UnmarkedPlain = (t : Texts) (x : ℕ) → is_unmarked t.marks x ≡ true → entry_of (view_texts t) x ≡ plain

abbrev pub is_text : Entry → Bool
is_text plain = false
is_text (text s) = true

-- a byte's text; none of a byte that is not defined
abbrev pub text_of : Entry → List ℕ
text_of plain = []
text_of (text s) = s

-- the mark that a text gives to X
unfoldable pub mark_for : ℕ → List ℕ → ℕ
mark_for x s = cond (is_itself x s) 0 (length s + 1)

-- the cells with the part from start to end replaced; the texts end at last
unfoldable pub cells_with : List ℕ → ℕ → ℕ → ℕ → List ℕ → List ℕ
cells_with cells start end last s =
    take start cells ++ s ++ take (last - end) (drop end cells)
    ++ replicate (text_room - (start + length s + (last - end))) 0

-- another table in the place of one, its texts within the cells
pub record Changed (table : Table) (t r : Texts) : Type 0 where
  pub room : lengths r.marks ≤ text_room
  pub view : view_texts r ≡ table
  pub clean : CleanTexts t → CleanTexts r

-- what a DEFINE of X as s answers where it is judged so: the table after it, or the reason of its refusal, and then the old table stands
abbrev pub RefinesDefined : Verdict → Texts → ℕ → List ℕ → Result Texts Reason → Type 0
RefinesDefined v t x s (Ok r) = (v ≡ Ok tt) × Changed (defined (view_texts t) x s) t r
RefinesDefined v t x s (Err reason) = v ≡ Err reason
