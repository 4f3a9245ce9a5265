use mathlib.Core.List.{◌++◌}
use Rattle.lists.specs.Buffers.{RoomFor}
use Rattle.codes.specs.Answers.{code_number}
use Rattle.lists.proofs.Behind.{room_front, wrote_both}
use Rattle.decimals.specs.Decimals.{number_then}
use Rattle.tape.proofs.lines.Line.put_numbers.Goals as goal

pub returns : goal.returns
returns c =
    let line = c.args.self in
    let first = number_then line.field 46 ++ number_then line.item 32 in
    let room : RoomFor first c.args.out.now = room_front first (number_then (code_number line.code) 32) c.args.out.now c.requires in
    let two = wrote_both c.put_number-a.ensures (number_then line.item 32) room c.put_number.ensures in
    wrote_both two (number_then (code_number line.code) 32) c.requires (rw c.from.ensures at c.put_number-2.ensures)
