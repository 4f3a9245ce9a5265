use mathlib.Core.List.{List, [], ◌∷◌, ◌++◌, append_assoc}
use Prim.Native.Nat.{ℕ}
use Rattle.lists.specs.Buffers.{RoomFor}
use Rattle.lists.proofs.Behind.{room_front, rest_room, wrote_both}
use Rattle.codes.specs.Telnet.{SPACE, LF}
use Rattle.decimals.specs.Decimals.{number_then}
use Rattle.mending.specs.Mending.{Drop, reason_mark, drop_line}
use Rattle.mending.proofs.lines.put_line.Goals as goal

abbrev numbers : Drop → List ℕ
numbers d = number_then d.offset SPACE ++ number_then d.size SPACE

abbrev ending : Drop → List ℕ
ending d = reason_mark d.reason ∷ LF ∷ []

-- room for the line is room for its numbers with its end behind them
module _ (d : Drop) (list : List ℕ) (room : RoomFor (drop_line d) list) where
  whole_room : RoomFor (numbers d ++ ending d) list
  unfolding drop_line
  whole_room = rw append_assoc room

  numbers_room : RoomFor (numbers d) list
  numbers_room = room_front (numbers d) (ending d) list whole_room

pub put_number-a-requires : goal.put_number-a-requires
put_number-a-requires c =
    let a = c.args in
    room_front (number_then a.offset SPACE) (number_then a.size SPACE) a.list.now (numbers_room _ a.list.now c.requires)

pub put_number-requires : goal.put_number-requires
put_number-requires c =
    let a = c.args in
    rest_room c.put_number-a.ensures (number_then a.size SPACE) (numbers_room _ a.list.now c.requires)

pub put_reason-requires : goal.put_reason-requires
put_reason-requires c =
    let a = c.args in
    let two = wrote_both c.put_number-a.ensures (number_then a.size SPACE) (numbers_room _ a.list.now c.requires) c.put_number.ensures in
    rest_room two (reason_mark a.reason ∷ LF ∷ []) (whole_room _ a.list.now c.requires)

pub returns : goal.returns
unfolding drop_line
returns c =
    let a = c.args in
    let two = wrote_both c.put_number-a.ensures (number_then a.size SPACE) (numbers_room _ a.list.now c.requires) c.put_number.ensures in
    let three = wrote_both two (reason_mark a.reason ∷ LF ∷ []) (whole_room _ a.list.now c.requires) c.put_reason.ensures in
    rw append_assoc at three
