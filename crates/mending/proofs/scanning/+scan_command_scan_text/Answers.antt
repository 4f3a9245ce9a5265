use mathlib.Core.Path.{◌≡◌, refl}
use Prim.Native.Nat.{◌+◌, ◌-◌, min}
use native.Mathlib.Omega.{arith}
use lib.ListN.{length, length-take, length-drop}
use Rattle.lists.proofs.Starts.{wrote_none}
use Rattle.mending.proofs.FirstFound.{found_size}
use Rattle.mending.proofs.Scans.{behind, piece_over, text_over, run_within}
use Rattle.mending.proofs.HandOver.{scan_within, piece_rooms, piece_next_room, piece_both, run_room, text_next_room, text_next_lines, text_both}
use Rattle.mending.proofs.scanning.+scan_command_scan_text.Goals as goal
use Rattle.mending.proofs.scanning.+scan_command_scan_text.Goals.{scan_text-then-n-part-via-then-n-part, scan_text-then-n-part-via-else-n-part+then-n-rest}

pub scan_command-put_piece-p-requires-clause-room_for : goal.scan_command-put_piece-p-requires-clause-room_for
scan_command-put_piece-p-requires-clause-room_for t c =
    (piece_rooms c.args.at c.args.part c.args.rest.now c.requires.rest_nonzero c.requires.part_nonzero c.args.out.now c.args.list.now c.requires.room_for c.requires.room_for_2).0

pub scan_command-put_piece-p-requires-clause-room_for_2 : goal.scan_command-put_piece-p-requires-clause-room_for_2
scan_command-put_piece-p-requires-clause-room_for_2 t c =
    (piece_rooms c.args.at c.args.part c.args.rest.now c.requires.rest_nonzero c.requires.part_nonzero c.args.out.now c.args.list.now c.requires.room_for c.requires.room_for_2).1

pub scan_command-returns-then-part-p : goal.scan_command-returns-then-part-p
scan_command-returns-then-part-p t c =
    let w = c.put_piece-p.ensures in
    rw (piece_over c.args.at c.args.part c.args.rest.now c.requires.rest_nonzero c.requires.part_nonzero (rw (← w.taken) c.if-part-p.true)) w

pub scan_command-slice_bounds-scan_text-count : goal.scan_command-slice_bounds-scan_text-count
scan_command-slice_bounds-scan_text-count t c =
    rw c.put_piece-p.ensures.taken (found_size c.args.rest.now c.requires.rest_nonzero).0

pub scan_command-slice_bounds-scan_text-start : goal.scan_command-slice_bounds-scan_text-start
scan_command-slice_bounds-scan_text-start t c = scan_command-slice_bounds-scan_text-count t c

pub scan_command-overflow_add-at : goal.scan_command-overflow_add-at
scan_command-overflow_add-at t c =
    omega (arith, c.requires.rest_bound, c.put_piece-p.ensures.taken, (found_size c.args.rest.now c.requires.rest_nonzero).0)

pub scan_command-scan_text-requires : goal.scan_command-scan_text-requires
scan_command-scan_text-requires t c =
    let size = found_size c.args.rest.now c.requires.rest_nonzero in
    let w = c.put_piece-p.ensures in
    let rooms = piece_next_room c.args.at c.args.part c.args.rest.now c.requires.rest_nonzero c.requires.part_nonzero w c.requires.room_for c.requires.room_for_2 in (
      simp (length-take, length-drop) (omega (arith, c.decreases, w.taken, size.0, size.1)),
      (simp (length-take, length-drop) (omega (arith, c.requires.rest_bound, w.taken, size.0)), rooms),
    )

pub scan_command-then-requires-clause-taken_fits : goal.scan_command-then-requires-clause-taken_fits
scan_command-then-requires-clause-taken_fits t c =
    let taken = c.put_piece-p.result.taken in
    let size = (found_size c.args.rest.now c.requires.rest_nonzero).0 in
    let rest = scan_within (c.args.at + taken) (c.args.part - taken) (behind taken c.args.rest.now) in
    omega (arith, c.requires.rest_bound, c.put_piece-p.ensures.taken, size, c.scan_text.ensures.taken, rest, simp (length-take, length-drop) at rest)

pub scan_command-returns : goal.scan_command-returns
scan_command-returns t c =
    rw c.then.ensures
    (piece_both c.args.at c.args.part c.args.rest.now c.requires.rest_nonzero c.requires.part_nonzero c.put_piece-p.ensures c.requires.room_for c.requires.room_for_2 c.scan_text.ensures)

pub scan_text-put_run-n-requires : goal.scan_text-put_run-n-requires
scan_text-put_run-n-requires t c = run_room c.args.at c.args.part c.args.rest.now c.args.out.now c.requires.room_for

pub scan_text-returns-then-n-part : goal.scan_text-returns-then-n-part
scan_text-returns-then-n-part t c =
    let n = c.put_run-n.result in
    let w = c.put_run-n.ensures in
    let over : min (c.args.part - n) (length c.args.rest.now - n) ≡ 0 =
    elim c.then-n-part.branch [ scan_text-then-n-part-via-then-n-part v ↦ omega (arith, v.if-n-part.true) | scan_text-then-n-part-via-else-n-part+then-n-rest v ↦ omega (arith, v.if-n-rest.true) ] in
    rw (text_over c.args.at c.args.part c.args.rest.now n w.count over) (record { taken = refl; bytes = w; lines = wrote_none c.args.list.now })

pub scan_text-overflow_sub-part : goal.scan_text-overflow_sub-part
scan_text-overflow_sub-part t c =
    (run_within c.args.at c.args.part c.args.rest.now c.put_run-n.result c.put_run-n.ensures.count).0

pub scan_text-scan_command-requires : goal.scan_text-scan_command-requires
scan_text-scan_command-requires t c =
    let n = c.put_run-n.result in
    let w = c.put_run-n.ensures in
    let far = run_within c.args.at c.args.part c.args.rest.now n w.count in (
      simp (length-take, length-drop) (omega (arith, c.decreases)),
      (
        simp (length-take, length-drop) (omega (arith, far.1, c.if-n-rest.false)),
        (
          omega (arith, far.0, c.if-n-part.false),
          (simp (length-take, length-drop) (omega (arith, c.requires.rest_bound, far.1)), (text_next_room c.args.at c.args.part c.args.rest.now w c.requires.room_for, text_next_lines c.args.at c.args.part c.args.rest.now w c.requires.room_for c.args.list.now c.requires.room_for_2)),
        ),
      ),
    )

pub scan_text-then-requires-clause-taken_fits : goal.scan_text-then-requires-clause-taken_fits
scan_text-then-requires-clause-taken_fits t c =
    let n = c.put_run-n.result in
    let rest = scan_within (c.args.at + n) (c.args.part - n) (behind n c.args.rest.now) in
    omega (arith, c.requires.rest_bound, (run_within c.args.at c.args.part c.args.rest.now n c.put_run-n.ensures.count).1, c.scan_command.ensures.taken, simp (length-take, length-drop) at rest)

pub scan_text-returns : goal.scan_text-returns
scan_text-returns t c =
    rw c.then.ensures (text_both c.args.at c.args.part c.args.rest.now c.put_run-n.ensures c.requires.room_for c.scan_command.ensures)
