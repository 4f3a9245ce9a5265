use Rattle.std.proofs.Common.{arith}
use lib.ListN.{length}
use Rattle.codes.proofs.Rooms.{both_lent}
use Rattle.printer.proofs.Runs.{byte_fits}
use Rattle.printer.proofs.Printer.read_by_value.Goals as goal

pub network_read-step-requires : goal.network_read-step-requires
network_read-step-requires c =
    let a = c.args in
    let fits = byte_fits a.self.now a.b in
    let room = both_lent (length a.paper.now) (length a.wire.now) c.requires in
    record { room_for = omega (arith, fits.0, room.0); room_for_2 = omega (arith, fits.1, room.1) }
