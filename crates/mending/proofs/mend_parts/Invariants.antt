use Prim.Native.Nat.{◌-◌}
use lib.ListN.{length}
use Rattle.lists.specs.Buffers.{lent_as}
use Rattle.mending.proofs.Going.{Going}
use Rattle.mending.proofs.mend_parts.Given as goal

abbrev pub invariant-loop-done : goal.invariant-loop-done
invariant-loop-done l = Going l.capture (lent_as l.initial.out l.out) (lent_as l.initial.list l.list) l.done.taken l.done.written l.done.listed

abbrev pub decreases-loop-done : goal.decreases-loop-done
decreases-loop-done l = length l.capture - l.done.taken
