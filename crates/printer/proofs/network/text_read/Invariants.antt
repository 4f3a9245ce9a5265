use lib.ListN.{length}
use Rattle.lists.specs.Buffers.{lent_as}
use Rattle.printer.proofs.TextRest.{RestLoop}
use Rattle.printer.proofs.network.text_read.Given as goal

abbrev pub invariant-loop-rest : goal.invariant-loop-rest
invariant-loop-rest l = RestLoop l.fn.s l.bytes (lent_as l.initial.paper l.paper) (lent_as l.initial.wire l.wire) l.done l.rest

abbrev pub decreases-loop-rest : goal.decreases-loop-rest
decreases-loop-rest l = length l.rest
