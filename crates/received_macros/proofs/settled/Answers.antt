use mathlib.Core.Path.{◌≡◌}
use native.Mathlib.Omega.{arith}
use lib.ListN.{length}
use Rattle.received_macros.proofs.View.{lengths_all, settled_over, settled_within}
use borrow.Author.Rules.{rules}
use Rattle.received_macros.proofs.settled.Goals as goal

pub returns-then-start_of-gt-ROOM : goal.returns-then-start_of-gt-ROOM
returns-then-start_of-gt-ROOM c =
    let t = c.args.t in
    let l : length t.marks ≡ 256 = search rules in
    rw c.empty.ensures (settled_over t (omega (arith, c.start_of.ensures, lengths_all t.marks l)))

pub returns : goal.returns
returns c =
    let t = c.args.t in
    let l : length t.marks ≡ 256 = search rules in
    settled_within t (omega (arith, c.start_of.ensures, lengths_all t.marks l))
