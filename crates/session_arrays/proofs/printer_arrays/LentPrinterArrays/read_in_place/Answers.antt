use mathlib.Core.Path.{◌≡◌, refl}
use Rattle.std.specs.Prelude.{None}
use borrow.Author.Rules.{rules}
use Rattle.printer.proofs.InPlaceRuns.{in_place_room, byte_stays}
use Rattle.session_arrays.specs.PrinterArrays.{arrays_in, decoded_printer}
use Rattle.session_arrays.proofs.PrinterInPlace.{byte_in_place}
use Rattle.session_arrays.proofs.printer_arrays.LentPrinterArrays.read_in_place.Goals as goal

pub read-requires : goal.read-requires
read-requires c =
    let both = in_place_room (decoded_printer (arrays_in c.args.self.now)) c.args.b c.args.paper.now c.args.wire.now c.requires in
    rw c.parts_in.ensures (record { room_for = both.0; room_for_2 = both.1 })

pub returns-clause-reads : goal.returns-clause-reads
returns-clause-reads c =
    byte_in_place (arrays_in c.args.self.now) c.args.b (rw c.parts_in.ensures at c.in_ok-read.ensures) c.put_in_place.ensures

pub returns-in_err-read-clause-reads : goal.returns-in_err-read-clause-reads
returns-in_err-read-clause-reads c =
    let none : c.from_residual.result ≡ None = search rules in
    let stays = byte_stays (decoded_printer (arrays_in c.args.self.now)) c.args.b (rw c.parts_in.ensures at c.in_err-read.ensures) in
    rw none (stays.0, refl, stays.1, stays.2)
