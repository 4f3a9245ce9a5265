use Rattle.lists.specs.Buffers.{lent_as}
use Rattle.tape.specs.Refinement.Steps.{ahead}
use Rattle.tape.proofs.Runs.{Runs}
use Rattle.tape.proofs.running.run.Given as goal

abbrev pub invariant-loop-buffers : goal.invariant-loop-buffers
invariant-loop-buffers l = Runs l.tape l.initial.machine (lent_as l.initial.out l.out) l.machine l.written

abbrev pub decreases-loop-buffers : goal.decreases-loop-buffers
decreases-loop-buffers l = ahead l.tape l.machine.place
