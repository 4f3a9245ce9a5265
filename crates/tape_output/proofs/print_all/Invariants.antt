use Rattle.std.proofs.Common.{◌≡◌, length}
use Rattle.tape.specs.Refinement.Steps.{ahead}
use Rattle.tape_output.proofs.print_all.Given as goal

abbrev pub invariant-loop-machine : goal.invariant-loop-machine
invariant-loop-machine g l = length l.out ≡ 16384

abbrev pub decreases-loop-machine : goal.decreases-loop-machine
decreases-loop-machine g l = ahead l.tape l.machine.place
