use lib.ListN.{length}
use Prim.Native.Nat.{◌-◌}
use Rattle.tape.specs.Refinement.Machine.{view_machine}
use Rattle.tape.proofs.Runs.{falls, one_more, short_stops, run_met}
use Rattle.tape.proofs.ManySteps.{over_stays}
use borrow.Author.Tests.{lt-leb}
use mathlib.Core.Path.{sym, ◌∙◌}
use Rattle.tape.proofs.running.run.Goals as goal

pub loop-buffers-smaller : goal.loop-buffers-smaller
loop-buffers-smaller c =
    falls c.loop-buffers.invariant c.if-out-written-ge-LINE.true c.step-s.ensures (sym c.is_over.ensures ∙ c.loop-buffers-test.true)

pub loop-buffers-preserved : goal.loop-buffers-preserved
loop-buffers-preserved c =
    one_more c.loop-buffers.invariant c.if-out-written-ge-LINE.true c.step-s.ensures (sym c.is_over.ensures ∙ c.loop-buffers-test.true)

pub returns-else-out-written-ge-LINE : goal.returns-else-out-written-ge-LINE
returns-else-out-written-ge-LINE c =
    let l = c.loop-buffers in
    run_met l.invariant (short_stops l.invariant (lt-leb _ _ c.if-out-written-ge-LINE.false))

pub returns-after-loop-buffers : goal.returns-after-loop-buffers
returns-after-loop-buffers c =
    let l = c.loop-buffers in
    run_met l.invariant
    (over_stays (view_machine l.machine) (length c.args.out.now - l.written) (sym c.is_over.ensures ∙ c.loop-buffers-test.false))
