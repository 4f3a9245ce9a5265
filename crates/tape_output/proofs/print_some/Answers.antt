use native.Mathlib.Omega.{arith}
use Rattle.std.proofs.Common.{ap, length}
use Rattle.tape.proofs.ManySteps.{ran_falls}
use Rattle.tape.specs.Refinement.Machine.{view_machine}
use Rattle.tape.specs.Refinement.Steps.{At}
use Rattle.tape_output.proofs.print_some.Goals as goal

pub returns : goal.returns
returns g c =
    let place = ap (λ (a : At). a.place) c.run-step.ensures.view in
    λ going. rw place (ran_falls c.args.tape.now (view_machine c.args.m) (length c.args.out.now) going (omega (arith, c.well_formed)))
