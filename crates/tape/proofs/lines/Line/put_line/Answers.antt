use Rattle.codes.specs.Answers.{code_number}
use Rattle.lists.proofs.Behind.{room_front, rest_room, wrote_both}
use Rattle.tape.specs.Refinement.Parts.{numbers_of, bytes_of}
use Rattle.tape.proofs.LineParts.{line_parts}
use Rattle.tape.proofs.lines.Line.put_line.Goals as goal

pub put_numbers-a-requires : goal.put_numbers-a-requires
put_numbers-a-requires c =
    let line = c.args.self in
    let room = rw (line_parts line.field line.item (code_number line.code) line.paper.now line.wire.now) at c.requires in
    room_front (numbers_of line.field line.item (code_number line.code)) (bytes_of line.paper.now line.wire.now) c.args.out.now room

pub put_both-requires : goal.put_both-requires
put_both-requires c =
    let line = c.args.self in
    let room = rw (line_parts line.field line.item (code_number line.code) line.paper.now line.wire.now) at c.requires in
    rest_room c.put_numbers-a.ensures (bytes_of line.paper.now line.wire.now) room

pub returns : goal.returns
returns c =
    let line = c.args.self in
    let parts = line_parts line.field line.item (code_number line.code) line.paper.now line.wire.now in
    let room = rw parts at c.requires in
    rw parts (wrote_both c.put_numbers-a.ensures (bytes_of line.paper.now line.wire.now) room c.put_both.ensures)
