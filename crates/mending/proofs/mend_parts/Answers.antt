use native.Mathlib.Omega.{arith}
use lib.ListN.{length-take, length-drop}
use Rattle.mending.proofs.ByParts.{scan_some}
use Rattle.mending.proofs.Scans.{behind}
use Rattle.mending.proofs.Going.{scan_rooms, scan_far, goes_on, all_done}
use Rattle.mending.proofs.mend_parts.Goals as goal

pub scan_text-requires-clause-room_for : goal.scan_text-requires-clause-room_for
scan_text-requires-clause-room_for c = (scan_rooms c.loop-done.invariant c.requires.room_for c.requires.room_for_2 256).0

pub scan_text-requires-clause-room_for_2 : goal.scan_text-requires-clause-room_for_2
scan_text-requires-clause-room_for_2 c = (scan_rooms c.loop-done.invariant c.requires.room_for c.requires.room_for_2 256).1

pub then-done-requires-clause-taken_fits : goal.then-done-requires-clause-taken_fits
then-done-requires-clause-taken_fits c =
    let going = c.loop-done.invariant in
    omega (arith, c.requires.capture_len_bound, scan_far going c.requires.room_for c.requires.room_for_2 256 c.scan_text.ensures)

pub loop-done-smaller : goal.loop-done-smaller
loop-done-smaller c =
    let going = c.loop-done.invariant in
    let capture = c.args.capture.now in
    let test = c.loop-done-test.true in
    let some = scan_some c.loop-done.done.taken 256 (behind c.loop-done.done.taken capture) (simp (length-take, length-drop) (omega (arith, test))) (omega arith) in
    rw c.then-done.ensures (omega (arith, test, some, c.scan_text.ensures.taken))

pub loop-done-preserved : goal.loop-done-preserved
loop-done-preserved c =
    let going = c.loop-done.invariant in
    rw c.then-done.ensures (goes_on going c.requires.room_for c.requires.room_for_2 256 c.scan_text.ensures)

pub returns : goal.returns
returns c =
    all_done c.loop-done.invariant c.requires.room_for c.requires.room_for_2 (omega (arith, c.loop-done-test.false))
