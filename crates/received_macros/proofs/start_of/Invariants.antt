use Rattle.std.proofs.Common.{◌≡◌, ◌≤◌, ◌*◌, take}
use Rattle.received_macros.specs.Refinement.{lengths}
use Rattle.received_macros.proofs.start_of.Given as goal

abbrev pub invariant-loop-mark : goal.invariant-loop-mark
invariant-loop-mark l = (l.start ≤ 255 * l.mark-index) × (l.start ≡ lengths (take l.mark-index l.mark-items))
