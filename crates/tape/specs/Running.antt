-- Running a tape on a fresh printer end: what it prints.
use Rattle.std.specs.Prelude.{cond, List, [], ◌∷◌, ◌++◌, ℕ, ◌+◌, length, ltb, Option, Some, None, Ok, Err}
use Rattle.std.specs.Result.{result_ok}
use Rattle.codes.specs.declared.Code.TheVariants.{BadCommand}
use Rattle.keys.specs.declared.Key.{Key}
use Rattle.keys.specs.Keys.{key_of_pair}
use Rattle.printer.specs.State.{PrinterState, fresh, CallEffect, refused}
use Rattle.printer.specs.Calls.{network_call, key_call, ask_call}
use Rattle.printer.specs.UnusedTails as T
use Rattle.printer.specs.UnusedTails.{Tails, unused_after}
use Rattle.tape.specs.declared.Item.{Item}
use Rattle.tape.specs.declared.Item.TheVariants.{NetworkByte, KeyPair, AskPair}
use Rattle.tape.specs.Fields.{Found, Scanned, fields_at, items_of}
use Rattle.tape.specs.Lines.{answer_line, bad_tape}

-- the printer end, and how much of each lent buffer is unused
pub record TapeRun : Type 0 where
  pub printer : PrinterState
  pub tails : Tails

-- the sizes of the buffers that a program lends
abbrev pub lent_paper : ℕ
lent_paper = 4096

abbrev pub lent_wire : ℕ
lent_wire = 16384

abbrev pub programs : Tails
programs = record { paper = lent_paper; wire = lent_wire }

abbrev pub begun : TapeRun
begun = record { printer = fresh; tails = programs }

-- a buffer of which less is left than code 1 asks for is lent anew
abbrev pub with_room : TapeRun → TapeRun
with_room r = record { printer = r.printer; tails = T.lent_afresh programs r.tails }

-- the key that a pair stands for (keys/Keys.key_of_pair); another stands for none
unfoldable pub pair_of : ℕ → ℕ → Option Key
pair_of kind v = result_ok (key_of_pair kind v)

-- .. and is code 3
abbrev pub typed_call : PrinterState → Option Key → ℕ → ℕ → CallEffect
typed_call s (Some k) paper wire = key_call s k paper wire
typed_call s None paper wire = refused s BadCommand

abbrev pub item_call : PrinterState → Item → ℕ → ℕ → CallEffect
item_call s (NetworkByte b) paper wire = network_call s b paper wire
item_call s (KeyPair kind v) paper wire = typed_call s (pair_of kind v) paper wire
item_call s (AskPair option way) paper wire = ask_call s option way paper wire

-- an item's answer, in the unused tails
unfoldable pub item_answer : TapeRun → Item → CallEffect
item_answer r i = item_call r.printer i r.tails.paper r.tails.wire

-- .. and what is unused after it
abbrev pub after_item : TapeRun → CallEffect → TapeRun
after_item r a = record { printer = a.effect.state; tails = unused_after r.tails a }

-- the lines of a part of a tape, and the run after it
pub record Ran : Type 0 where
  pub lines : List ℕ
  pub run : TapeRun

abbrev pub silent : TapeRun → Ran
silent r = record { lines = []; run = r }

abbrev pub before : List ℕ → Ran → Ran
before l ran = record { lines = l ++ ran.lines; run = ran.run }

abbrev pub ran_then : Ran → (TapeRun → Ran) → Ran
ran_then ran next = before ran.lines (next ran.run)

-- the items of a field, from an item's number on
unfoldable pub items_run : ℕ → ℕ → TapeRun → List Item → Ran
items_run field item r [] = silent r
items_run field item r (i ∷ is) =
    let lent = with_room r in
    let a = item_answer lent i in
    before (answer_line field item a) (items_run field (item + 1) (after_item lent a) is)

-- a field and what comes behind it; nothing comes behind a bad one
abbrev pub field_run : ℕ → TapeRun → Found → List ℕ → (TapeRun → Ran) → Ran
field_run field r (Ok None) body next = silent r
field_run field r (Err e) body next = before (bad_tape field) (silent r)
field_run field r (Ok (Some f)) body next = ran_then (items_run field 1 r (items_of f.tag body)) next

-- fields, from a field's number on
unfoldable pub fields_run : ℕ → TapeRun → List Scanned → Ran
fields_run field r [] = silent r
fields_run field r (s ∷ ss) = field_run field r s.found s.body (λ r'. fields_run (field + 1) r' ss)

abbrev pub tape_run : List ℕ → Ran
tape_run tape = fields_run 1 begun (fields_at tape 0)

abbrev pub tape_room : ℕ
tape_room = 65536

-- what is printed for a tape
unfoldable pub tape_output : List ℕ → List ℕ
tape_output tape = cond (ltb tape_room (length tape)) (bad_tape 0) (tape_run tape).lines
