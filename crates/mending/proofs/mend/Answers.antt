use mathlib.Core.Path.{sym, ◌∙◌}
use Prim.Native.Nat.{◌≤◌}
use native.Mathlib.Omega.{arith}
use borrow.Author.Tests.{ltb-false}
use lib.Dec.{ltb}
use lib.ListN.{length}
use Rattle.lists.proofs.Fronts.{neither_right}
use Rattle.mending.specs.Mending.{capture_room, list_room}
use Rattle.mending.proofs.Fits.{mending_fits}
use Rattle.mending.proofs.mend.Goals as goal

pub mend_parts-requires-clause-room_for_2 : goal.mend_parts-requires-clause-room_for_2
mend_parts-requires-clause-room_for_2 c =
    let list = length c.args.list.now in
    let small = ltb (length c.args.out.now) capture_room in
    let room : list_room ≤ list = ltb-false list list_room (neither_right small (ltb list list_room) (sym c.lacks_room.ensures ∙ c.if-lacks_room.false)) in
    omega (arith, room, (mending_fits c.args.capture.now (omega arith)).1)
