use mathlib.Core.Path.{◌≡◌}
use lib.ListN.{length}
use borrow.Author.Rules.{rules}
use Rattle.rcte.specs.Control.{is_full}
use Rattle.rcte.proofs.Cells.{full}
use Rattle.rcte.proofs.waiting.is_full.Goals as goal

pub returns-then-e : goal.returns-then-e
unfolding is_full
returns-then-e c =
    let e = c.args.e in
    let l : length e.waiting ≡ 256 = search rules in
    rw c.if-e.true (full e.waiting e.count l)
