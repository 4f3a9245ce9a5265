use Prim.Native.Nat.{◌<◌}
use mathlib.Core.Path.{◌≡◌}
use native.Mathlib.Omega.{arith}
use lib.ListN.{length, length-take}
use Rattle.std.proofs.lemmas.Grind.{common_steps}
use Rattle.printer.proofs.TextRest.{rest_begun, rest_within, rest_room, rest_printed, paper_first, wire_first, rest_turn, rest_ended}
use Rattle.printer.proofs.network.text_read.Goals as goal

pub loop-rest-init : goal.loop-rest-init
loop-rest-init c = rw c.notes-done.ensures (rest_begun c.args.s c.args.bytes.now c.args.paper.now c.args.wire.now)

pub slice_bounds-put_bytes-end : goal.slice_bounds-put_bytes-end
slice_bounds-put_bytes-end c =
    let plain = rw c.parts.ensures at c.text_stretch-n.ensures in
    simp length-take (omega (arith, rest_within c.loop-rest.invariant c.requires.room_for c.requires.room_for_2 c.text_stretch-n.result plain))

pub put_bytes-requires : goal.put_bytes-requires
put_bytes-requires c = rest_room c.loop-rest.invariant c.requires.room_for c.requires.room_for_2 c.text_stretch-n.result (rw c.parts.ensures at c.text_stretch-n.ensures)

pub slice_bounds-rest-count : goal.slice_bounds-rest-count
slice_bounds-rest-count c = rest_within c.loop-rest.invariant c.requires.room_for c.requires.room_for_2 c.text_stretch-n.result (rw c.parts.ensures at c.text_stretch-n.ensures)

pub slice_bounds-rest-start : goal.slice_bounds-rest-start
slice_bounds-rest-start c = rest_within c.loop-rest.invariant c.requires.room_for c.requires.room_for_2 c.text_stretch-n.result (rw c.parts.ensures at c.text_stretch-n.ensures)

pub loop-rest-preserved-then-n-gt0 : goal.loop-rest-preserved-then-n-gt0
loop-rest-preserved-then-n-gt0 c =
    rest_printed c.loop-rest.invariant c.requires.room_for c.requires.room_for_2 c.text_stretch-n.result (rw c.parts.ensures at c.text_stretch-n.ensures) c.put_bytes.ensures

pub byte_read-step-requires : goal.byte_read-step-requires
byte_read-step-requires c =
    let some : 0 < length c.loop-rest.rest.now = grind (arith, common_steps, c.is_empty.ensures, c.loop-rest-test.true) in
    record {
      room_for = paper_first c.loop-rest.invariant c.requires.room_for c.requires.room_for_2 some;
      room_for_2 = wire_first c.loop-rest.invariant c.requires.room_for c.requires.room_for_2 some;
    }

pub loop-rest-preserved : goal.loop-rest-preserved
loop-rest-preserved c =
    let some : 0 < length c.loop-rest.rest.now = grind (arith, common_steps, c.is_empty.ensures, c.loop-rest-test.true) in
    rw c.first_note.ensures (rest_turn c.loop-rest.invariant c.requires.room_for c.requires.room_for_2 some c.byte_read-step.ensures)

pub returns : goal.returns
returns c =
    let none : length c.loop-rest.rest.now ≡ 0 = grind (arith, common_steps, c.is_empty.ensures, c.loop-rest-test.false) in
    rest_ended c.loop-rest.invariant c.requires.room_for c.requires.room_for_2 none
