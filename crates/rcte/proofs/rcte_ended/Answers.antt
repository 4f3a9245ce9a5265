use mathlib.Core.List.{◌++◌, flat_map}
use Prim.Native.Nat.{◌+◌}
use native.Mathlib.Omega.{arith}
use lib.ListN.{length-append}
use Rattle.lists.specs.Buffers.{lent_as, WroteAtStart, RoomFor}
use Rattle.lists.proofs.Parts.{with_rest, part_room, wrote_then}
use Rattle.keys.specs.Keys.{key_wire}
use Rattle.rcte.specs.Control.{rcte_ended}
use Rattle.rcte.specs.Refinement.{waiting_in, gathered_in}
use Rattle.rcte.proofs.StartedEcho.{started_view, started_clean}
use Rattle.rcte.proofs.rcte_ended.Goals as goal

pub flush-n-requires : goal.flush-n-requires
unfolding rcte_ended
flush-n-requires c =
    let both-room : RoomFor (gathered_in c.args.e ++ flat_map key_wire (waiting_in c.args.e)) c.args.wire.now = c.requires.room_for_2 in
    let first_room : RoomFor (gathered_in c.args.e) c.args.wire.now = omega (arith, simp length-append at (both-room)) in
    rw c.gathered_bytes.ensures (first_room)

pub slice_bounds-send_waiting-count : goal.slice_bounds-send_waiting-count
unfolding rcte_ended
slice_bounds-send_waiting-count c =
    let both-room : RoomFor (gathered_in c.args.e ++ flat_map key_wire (waiting_in c.args.e)) c.args.wire.now = c.requires.room_for_2 in
    let first_room : RoomFor (gathered_in c.args.e) c.args.wire.now = omega (arith, simp length-append at (both-room)) in
    let first : WroteAtStart (gathered_in c.args.e) (lent_as c.args.wire.now c.flush-n.new.wire) c.flush-n.result = rw c.gathered_bytes.ensures at c.flush-n.ensures.wire in
    omega (arith, first.count, first_room, c.flush-n.auto.wire)

pub slice_bounds-send_waiting-start : goal.slice_bounds-send_waiting-start
slice_bounds-send_waiting-start c = slice_bounds-send_waiting-count c

pub send_waiting-rest-requires : goal.send_waiting-rest-requires
unfolding rcte_ended
send_waiting-rest-requires c =
    let both-room : RoomFor (gathered_in c.args.e ++ flat_map key_wire (waiting_in c.args.e)) c.args.wire.now = c.requires.room_for_2 in
    let first_room : RoomFor (gathered_in c.args.e) c.args.wire.now = omega (arith, simp length-append at (both-room)) in
    let first : WroteAtStart (gathered_in c.args.e) (lent_as c.args.wire.now c.flush-n.new.wire) c.flush-n.result = rw c.gathered_bytes.ensures at c.flush-n.ensures.wire in
    record { room_for = c.requires.room_for; room_for_2 = part_room first first_room (flat_map key_wire (waiting_in c.args.e)) (both-room) }

pub overflow_add-result : goal.overflow_add-result
unfolding rcte_ended
overflow_add-result c =
    let both-room : RoomFor (gathered_in c.args.e ++ flat_map key_wire (waiting_in c.args.e)) c.args.wire.now = c.requires.room_for_2 in
    let first_room : RoomFor (gathered_in c.args.e) c.args.wire.now = omega (arith, simp length-append at (both-room)) in
    let first : WroteAtStart (gathered_in c.args.e) (lent_as c.args.wire.now c.flush-n.new.wire) c.flush-n.result = rw c.gathered_bytes.ensures at c.flush-n.ensures.wire in
    let both : let rest = c.send_waiting-rest in let n = c.flush-n.result in WroteAtStart (gathered_in c.args.e ++ flat_map key_wire (waiting_in c.args.e)) (with_rest (lent_as c.args.wire.now c.flush-n.new.wire) n rest.new.wire) (n + rest.result.wire) = let rest = c.send_waiting-rest in wrote_then first first_room (flat_map key_wire (waiting_in c.args.e)) rest.new.wire rest.result.wire rest.ensures.wire in
    omega (arith, both.count, both-room, c.well_formed)

pub returns : goal.returns
unfolding rcte_ended
returns c =
    let both-room : RoomFor (gathered_in c.args.e ++ flat_map key_wire (waiting_in c.args.e)) c.args.wire.now = c.requires.room_for_2 in
    let first_room : RoomFor (gathered_in c.args.e) c.args.wire.now = omega (arith, simp length-append at (both-room)) in
    let first : WroteAtStart (gathered_in c.args.e) (lent_as c.args.wire.now c.flush-n.new.wire) c.flush-n.result = rw c.gathered_bytes.ensures at c.flush-n.ensures.wire in
    let both : let rest = c.send_waiting-rest in let n = c.flush-n.result in WroteAtStart (gathered_in c.args.e ++ flat_map key_wire (waiting_in c.args.e)) (with_rest (lent_as c.args.wire.now c.flush-n.new.wire) n rest.new.wire) (n + rest.result.wire) = let rest = c.send_waiting-rest in wrote_then first first_room (flat_map key_wire (waiting_in c.args.e)) rest.new.wire rest.result.wire rest.ensures.wire in
    record {
      wrote = record { paper = c.send_waiting-rest.ensures.paper; wire = both };
      rcte = rw c.started.ensures started_view;
      clean = λ h. rw c.started.ensures started_clean;
    }
