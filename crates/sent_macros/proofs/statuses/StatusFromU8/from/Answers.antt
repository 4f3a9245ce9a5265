use native.Mathlib.Omega.{arith}
use Rattle.sent_macros.specs.Refinement.{status_from}
use Rattle.sent_macros.proofs.Numbers.{from_other}
use Rattle.sent_macros.proofs.statuses.StatusFromU8.from.Goals as goal

pub returns-in-0 : goal.returns-in-0
unfolding status_from
returns-in-0 c = rw c.in-0.is

pub returns-in-1 : goal.returns-in-1
unfolding status_from
returns-in-1 c = rw c.in-1.is

pub returns-in-2 : goal.returns-in-2
unfolding status_from
returns-in-2 c = rw c.in-2.is

pub returns-in-3 : goal.returns-in-3
unfolding status_from
returns-in-3 c = rw c.in-3.is

pub returns-in_default : goal.returns-in_default
returns-in_default c = grind (arith, from_other)
