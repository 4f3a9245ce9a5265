use Prim.Native.Nat.{◌≤◌}
use Rattle.lists.proofs.Starts.{wrote_none, wrote_start}
use Rattle.keys.specs.Keys.{key_paper}
use lib.ListN.{length, length-set}
use native.Mathlib.Omega.{arith}
use mathlib.Core.Path.{sym, ◌∙◌}
use Rattle.keys.proofs.put_paper.Goals as goal

-- the room that the contract asks, by the key
room-then : (c : goal.Then-prints) → 1 ≤ length c.args.out.now
unfolding key_paper
room-then c = rw (c.in-Char.is, sym c.prints.ensures ∙ c.if-prints.true) at c.requires

room-line : (c : goal.In-Line) → 2 ≤ length c.args.out.now
unfolding key_paper
room-line c = rw c.in-Line.is at c.requires

pub bounds-out-0 : goal.bounds-out-0
bounds-out-0 c = room-then c

pub returns-in-Char : goal.returns-in-Char
unfolding key_paper
returns-in-Char c = rw (c.in-Char.is, sym c.prints.ensures ∙ c.if-prints.true) (wrote_start _ _ (room-then c))

pub bounds-out-0-in-Line : goal.bounds-out-0-in-Line
bounds-out-0-in-Line c = omega (arith, room-line c)

pub bounds-out-1 : goal.bounds-out-1
bounds-out-1 c = simp length-set (omega (arith, room-line c))

pub returns-in-Line : goal.returns-in-Line
unfolding key_paper
returns-in-Line c = rw c.in-Line.is (wrote_start _ _ (room-line c))

pub returns-in-Char-2 : goal.returns-in-Char-2
unfolding key_paper
returns-in-Char-2 c = rw (c.in-Char.is, sym c.prints.ensures ∙ c.if-prints.false) (wrote_none _)

pub returns-in-Command : goal.returns-in-Command
unfolding key_paper
returns-in-Command c = rw c.in-Command.is (wrote_none _)
