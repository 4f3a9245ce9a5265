-- Where a run stands, and one step of it: it looks up the next field, or does one item.
use Rattle.std.specs.Prelude.{◌≡◌, Bool, true, false, ◌&&◌, ◌||◌, cond, List, [], ◌++◌, ℕ, ◌+◌, ◌-◌, ◌<◌, length, get_or, ltb, eqb, Option, Some, None, Ok, Err}
use Rattle.tape.specs.declared.Tag.{Tag}
use Rattle.tape.specs.declared.Tag.TheVariants.{Network, Keys, Asks}
use Rattle.tape.specs.declared.Field.{Field}
use Rattle.tape.specs.declared.Item.{Item}
use Rattle.tape.specs.declared.Place.{Place}
use Rattle.tape.specs.Fields.{Found, found_at, part_of, fields_at, tag_number, kind_of, item_of, items_of}
use Rattle.tape.specs.Lines.{answer_line, bad_tape}
use Rattle.tape.specs.Running.{TapeRun, begun, with_room, item_answer, after_item, ran_then, items_run, fields_run, tape_room, tape_output}

-- how many bytes an item takes up
abbrev pub width : Tag → ℕ
width Network = 1
width Keys = 2
width Asks = 2

-- the item that a body begins with, if one is left of it
abbrev pub next_item : Tag → List ℕ → Option Item
next_item tag body = cond (ltb (length body) (width tag)) None (Some (item_of tag (get_or body 0 0) (get_or body 1 0)))

-- a run, and where it stands
pub record At : Type 0 where
  pub run : TapeRun
  pub place : Place

-- a place whose numbers are larger than the bytes before it is none that a run comes to; nothing is left there
unfoldable pub is_over : Place → Bool
is_over p = p.over || (ltb p.next p.field || ltb p.at p.item)

abbrev pub rest_at : List ℕ → Place → List ℕ
rest_at tape p = part_of tape p.at p.left

-- all that is still to be printed: the lines of what is left of the field, and of the fields behind it
abbrev pub lines_left : List ℕ → At → List ℕ
lines_left tape a =
    let p = a.place in
    (ran_then (items_run p.field p.item a.run (items_of (kind_of p.tag) (rest_at tape p))) (λ r. fields_run (p.field + 1) r (fields_at tape p.next))).lines

-- a tape that is too long is bad as a whole, which is told in front of its first field
unfoldable pub is_too_long : List ℕ → Place → Bool
is_too_long tape p = eqb p.field 0 && ltb tape_room (length tape)

unfoldable pub remaining : List ℕ → At → List ℕ
remaining tape a = cond (is_over a.place) [] (cond (is_too_long tape a.place) (bad_tape 0) (lines_left tape a))

-- what a step prints, and where the run stands after it
pub record Progress : Type 0 where
  pub lines : List ℕ
  pub at : At

abbrev pub goes : List ℕ → TapeRun → Place → Progress
goes lines r p = record { lines = lines; at = record { run = r; place = p } }

abbrev pub at_tape_end : Place → Place
at_tape_end p = record p { over = true }

abbrev pub past_item : Place → Place
past_item p = record p { item = p.item + 1; at = p.at + width (kind_of p.tag); left = p.left - width (kind_of p.tag); over = false }

-- one item, and the place behind it
abbrev pub item_step : At → Place → Item → Progress
item_step a after i =
    let lent = with_room a.run in
    let answer = item_answer lent i in
    goes (answer_line a.place.field a.place.item answer) (after_item lent answer) after

-- in front of a field's first item
abbrev pub first_item : ℕ → Field → Place
first_item number f = record { field = number; item = 1; tag = tag_number f.tag; at = f.start; left = f.size; next = f.next.at; over = false }

abbrev pub field_step : At → Found → Progress
field_step a (Ok None) = goes [] a.run (at_tape_end a.place)
field_step a (Err e) = goes (bad_tape (a.place.field + 1)) a.run (at_tape_end a.place)
field_step a (Ok (Some f)) = goes [] a.run (first_item (a.place.field + 1) f)

-- the next item of the field, or the next field
unfoldable pub next_step : List ℕ → At → Progress
next_step tape a =
    let p = a.place in
    let rest = rest_at tape p in
    cond (ltb (length rest) (width (kind_of p.tag))) (field_step a (found_at tape p.next))
    (item_step a (past_item p) (item_of (kind_of p.tag) (get_or rest 0 0) (get_or rest 1 0)))

unfoldable pub stepped : List ℕ → At → Progress
stepped tape a =
    cond (is_over a.place) (goes [] a.run a.place)
    (cond (is_too_long tape a.place) (goes (bad_tape 0) a.run (at_tape_end a.place)) (next_step tape a))

-- a run starts in front of the first field
abbrev pub start : At
start = record { run = begun; place = record { field = 0; item = 0; tag = 1; at = 0; left = 0; next = 0; over = false } }

-- Assumed: any tape. Promised: what remains at the start is all that the rule gives. Ruled out: a run that starts
-- past the first field; a too long tape that is run.
abbrev pub StartPrints : Type 0
StartPrints = (tape : List ℕ) → tape_output tape ≡ remaining tape start

-- Assumed: any tape, any place of a run. Promised: the lines of a step, then what remains, are what remained. Ruled
-- out: an item left out or done twice; a wrong number on a line.
abbrev pub StepPrints : Type 0
StepPrints = (tape : List ℕ) (a : At) → remaining tape a ≡ (stepped tape a).lines ++ remaining tape (stepped tape a).at

-- what is ahead of a run, in bytes; it falls with each step until the run is over
unfoldable pub ahead : List ℕ → Place → ℕ
ahead tape p = cond (is_over p) 0 (1 + (length tape - p.next) + p.left)

-- Assumed: a run that is not over. Promised: less is ahead after a step. Ruled out: a run that stays at a field; one
-- that goes back.
abbrev pub StepFalls : Type 0
StepFalls = (tape : List ℕ) (a : At) → is_over a.place ≡ false → ahead tape (stepped tape a).at.place < ahead tape a.place
