use Rattle.wire.specs.Frames.{doubled}
use Rattle.lists.specs.Buffers.{lent_as, WroteAtStart}
use lib.ListN.{take}
use Rattle.wire.proofs.put_doubled.Given as goal

abbrev pub invariant-loop-b : goal.invariant-loop-b
invariant-loop-b l = WroteAtStart (doubled (take l.b-index l.body)) (lent_as l.initial.out l.out) l.n
