use Rattle.printer.proofs.InPlaceRuns.{in_place_room, byte_in_place}
use Rattle.printer.proofs.Printer.read_in_place.Goals as goal

pub read-requires : goal.read-requires
read-requires c =
    let both = in_place_room c.args.self.now c.args.b c.args.paper.now c.args.wire.now c.requires in
    rw c.parts.ensures (record { room_for = both.0; room_for_2 = both.1 })

pub returns : goal.returns
returns c = byte_in_place c.args.self.now c.args.b (rw c.parts.ensures at c.in_ok-read.ensures)
