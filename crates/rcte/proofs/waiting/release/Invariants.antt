use mathlib.Core.List.{map}
use lib.ListN.{length}
use Prim.Native.Nat.{◌-◌}
use Rattle.lists.specs.Buffers.{lent_as}
use Rattle.keys.specs.Refinement.{key_of_number}
use Rattle.rcte.specs.Refinement.{view_orders}
use Rattle.rcte.proofs.Releasing.{ReleaseLoop}
use Rattle.rcte.proofs.waiting.release.Given as goal

abbrev pub invariant-loop-number : goal.invariant-loop-number
invariant-loop-number l =
    ReleaseLoop (view_orders l.o) (map key_of_number l.numbers) l.initial.g l.g (lent_as l.initial.paper l.paper) (lent_as l.initial.wire l.wire) l.i l.p l.w

abbrev pub decreases-loop-number : goal.decreases-loop-number
decreases-loop-number l = length l.numbers - l.i
