use native.Mathlib.Omega.{arith}
use mathlib.Core.Path.{refl}
use lib.ListN.{take, length-take}
use Rattle.lists.specs.Lists.{sum}
use Rattle.lists.proofs.Sums.{sum_one_more}
use Rattle.received_macros.specs.Refinement.{length_of}
use Rattle.received_macros.proofs.start_of.Goals as goal

pub loop-mark-init : goal.loop-mark-init
unfolding sum
loop-mark-init c = (omega arith, refl)

pub loop-mark-preserved : goal.loop-mark-preserved
loop-mark-preserved c =
    let more = sum_one_more length_of (take c.args.x c.args.marks.now) c.loop-mark.mark-index 0 (simp length-take (omega arith)) in
    (omega (arith, c.length_of-start.ensures), omega (arith, more, c.length_of-start.ensures))
