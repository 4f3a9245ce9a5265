use mathlib.Core.Path.{◌≡◌}
use native.Mathlib.Omega.{arith}
use lib.ListN.{length}
use borrow.Author.Rules.{rules}
use Rattle.received_macros.proofs.Totals.{view_length, freed_met}
use Rattle.received_macros.proofs.removed.Goals as goal

pub returns : goal.returns
returns c =
    let a = c.args in
    let l : length a.t.marks ≡ 256 = search rules in
    let k : length a.t.cells ≡ 1024 = search rules in
    rw c.unwrap_or.ensures (freed_met a.t a.x k (omega (arith, view_length a.t l)) c.define_text.result c.define_text.ensures)
