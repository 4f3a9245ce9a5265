use lib.ListN.{length}
use Rattle.lists.specs.Buffers.{lent_as}
use Rattle.reader.proofs.RunLoop.{RunInvariant}
use Rattle.reader.proofs.network_runs.read_bytes.Given as goal

abbrev pub invariant-loop-ran : goal.invariant-loop-ran
invariant-loop-ran g l =
    let end = g.E.ReadsNetwork in
    RunInvariant end.laws end.view end.Kept l.initial.end l.bytes (lent_as l.initial.first l.first) (lent_as l.initial.wire l.wire) l.end l.rest l.ran

abbrev pub decreases-loop-ran : goal.decreases-loop-ran
decreases-loop-ran g l = length l.rest
