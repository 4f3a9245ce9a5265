use mathlib.Core.Path.{◌≡◌, sym, ◌∙◌}
use native.Mathlib.Omega.{arith}
use lib.ListN.{length}
use borrow.Author.Rules.{rules}
use Rattle.received_macros.proofs.View.{lengths_all}
use Rattle.received_macros.proofs.Totals.{total_over, total_within}
use Rattle.received_macros.proofs.total_of.Goals as goal

pub returns-then-end-gt-ROOM : goal.returns-then-end-gt-ROOM
returns-then-end-gt-ROOM c =
    let t = c.args.t in
    let l : length t.marks ≡ 256 = search rules in
    sym (total_over t (omega (arith, c.start_of-end.ensures, lengths_all t.marks l)))

pub returns-else-end-gt-ROOM : goal.returns-else-end-gt-ROOM
returns-else-end-gt-ROOM c =
    let t = c.args.t in
    let l : length t.marks ≡ 256 = search rules in
    let k : length t.cells ≡ 1024 = search rules in
    let end = c.start_of-end.ensures ∙ lengths_all t.marks l in
    end ∙ sym (total_within t k (omega arith))
