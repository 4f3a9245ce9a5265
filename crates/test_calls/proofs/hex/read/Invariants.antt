use Rattle.std.proofs.Common.{length}
use Rattle.test_calls.proofs.hex.read.Given as goal

abbrev pub decreases-loop-first : goal.decreases-loop-first
decreases-loop-first l = length l.rest
