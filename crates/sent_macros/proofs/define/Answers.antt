use native.Mathlib.Omega.{arith}
use Rattle.sent_macros.specs.Refinement.{WholeTable}
use Rattle.sent_macros.proofs.Defining.{define_met}
use borrow.Author.Rules.{rules}
use Rattle.sent_macros.proofs.define.Goals as goal

pub returns : goal.returns
returns c =
    let a = c.args in
    let whole : WholeTable a.t = record { statuses = search rules; marks = search rules; cells = search rules } in
    let fitted = c.in_ok-texts.ensures in
    rw (c.with_status.ensures, c.pending_status-status.ensures)
    (define_met a.t whole a.x (omega arith) a.text.now c.in_ok-texts.texts fitted.texts fitted.fits c.put_define.ensures)
