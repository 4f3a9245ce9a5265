use mathlib.Core.Path.{refl}
use Rattle.session_arrays.specs.BulletinArrays.{arrays_in}
use Rattle.session_arrays.proofs.BulletinRuns.{room_in_arrays, byte_in_place, byte_stays}
use Rattle.session_arrays.proofs.bulletin_arrays.LentBulletinArrays.read_in_place.Goals as goal

pub read-requires : goal.read-requires
read-requires c =
    rw c.parts_in.ensures
    (room_in_arrays (arrays_in c.args.self.now).small c.args.b c.args.host.now c.args.wire.now c.requires)

pub returns-in_err-read-clause-reads : goal.returns-in_err-read-clause-reads
returns-in_err-read-clause-reads c =
    let stays = byte_stays (arrays_in c.args.self.now) c.args.b _ _ (rw c.parts_in.ensures at c.in_err-read.ensures) in
    rw c.from_residual.ensures (stays.0, refl, stays.1, stays.2)

pub returns-clause-reads : goal.returns-clause-reads
returns-clause-reads c =
    byte_in_place c.args.b (arrays_in c.args.self.now) c.in_ok-read.read (rw c.parts_in.ensures at c.in_ok-read.ensures)
    c.put_in_place.ensures
