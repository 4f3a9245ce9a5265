use mathlib.Core.List.{map}
use Rattle.lists.specs.Buffers.{lent_as}
use Rattle.keys.specs.Refinement.{key_of_number}
use Rattle.rcte.proofs.Sending.{SendLoop}
use Rattle.rcte.proofs.waiting.send_waiting.Given as goal

-- of the waiting keys, so many are printed and sent
abbrev pub invariant-loop-number : goal.invariant-loop-number
invariant-loop-number l = SendLoop l.echoed (map key_of_number l.number-items) l.number-index (lent_as l.initial.paper l.paper) (lent_as l.initial.wire l.wire) l.p l.w
