use native.Mathlib.Omega.{arith}
use lib.ListN.{length-take}
use Rattle.mending.proofs.FirstFound.{found_size}
use Rattle.mending.proofs.scanning.put_piece.Goals as goal

pub slice_bounds-put_copied-end : goal.slice_bounds-put_copied-end
slice_bounds-put_copied-end c =
    simp length-take (rw c.first_found-size.ensures (omega (arith, (found_size c.args.rest.now c.requires.rest_nonzero).0)))
