-- What a call writes fits the buffers that it takes.
use mathlib.Core.Path.{◌≡◌}
use mathlib.Core.Bool.{false}
use mathlib.Core.List.{List}
use Prim.Native.Nat.{ℕ}
use native.Mathlib.Omega.{arith}
use lib.ListN.{length}
use Rattle.lists.specs.Buffers.{RoomFor}
use Rattle.codes.specs.Answers.{no_room, no_wire}
use Rattle.codes.proofs.Rooms.{wire_lent, both_lent}
use Rattle.bulletin.specs.State.{Effect}
use Rattle.bulletin.specs.Limits.{FitsWire, Fits}

pub room_on_wire : (bytes wire : List ℕ) → no_wire (length wire) ≡ false → FitsWire bytes → RoomFor bytes wire
room_on_wire bytes wire e f = omega (arith, wire_lent (length wire) e)

pub room_for : (d : Effect) (host wire : List ℕ) → no_room (length host) (length wire) ≡ false → Fits d → RoomFor d.host host × RoomFor d.wire wire
room_for d host wire e f =
    let l = both_lent (length host) (length wire) e in
    (omega (arith, l.0, f.host), omega (arith, l.1, f.wire))
