use mathlib.Core.List.{map}
use Prim.Native.Nat.{◌≤◌}
use native.Mathlib.Omega.{arith}
use lib.ListN.{length, length-map}
use Rattle.keys.specs.Refinement.{key_of_number}
use Rattle.rcte.specs.Refinement.{waiting_in}
use Rattle.rcte.proofs.Cells.{next_key}
use Rattle.rcte.proofs.Sending.{begun, paper_room, wire_room, paper_sum, wire_sum, turn, all_sent}
use Rattle.rcte.proofs.waiting.send_waiting.Goals as goal

pub loop-number-init : goal.loop-number-init
loop-number-init c = rw c.waiting_numbers-number-items.ensures (begun c.args.echoed (waiting_in c.args.e) c.args.paper.now c.args.wire.now c.requires.room_for c.requires.room_for_2)

pub send_key-sent-requires : goal.send_key-sent-requires
send_key-sent-requires c =
    let next = next_key c.waiting_numbers-number-items.result.now c.loop-number.number-index c.loop-number-test.true in
    rw c.from-k.ensures
    (record { room_for = paper_room c.loop-number.invariant _ next; room_for_2 = wire_room c.loop-number.invariant _ next })

pub overflow_add-p : goal.overflow_add-p
overflow_add-p c =
    let next = next_key c.waiting_numbers-number-items.result.now c.loop-number.number-index c.loop-number-test.true in
    omega (arith, paper_sum c.loop-number.invariant _ next (rw c.from-k.ensures at c.send_key-sent.ensures), c.well_formed)

pub overflow_add-w : goal.overflow_add-w
overflow_add-w c =
    let next = next_key c.waiting_numbers-number-items.result.now c.loop-number.number-index c.loop-number-test.true in
    omega (arith, wire_sum c.loop-number.invariant _ next (rw c.from-k.ensures at c.send_key-sent.ensures), c.well_formed)

pub loop-number-preserved : goal.loop-number-preserved
loop-number-preserved c =
    let next = next_key c.waiting_numbers-number-items.result.now c.loop-number.number-index c.loop-number-test.true in
    turn c.loop-number.invariant _ next (rw c.from-k.ensures at c.send_key-sent.ensures)

pub returns : goal.returns
returns c =
    let passed : length (map key_of_number c.waiting_numbers-number-items.result.now) ≤ c.loop-number.number-index = simp length-map c.loop-number-test.false in
    rw c.waiting_numbers-number-items.ensures at (all_sent c.loop-number.invariant passed)
