use mathlib.Core.Path.{sym, ◌∙◌}
use native.Mathlib.Omega.{arith}
use Rattle.sent_macros.specs.Refinement.{WholeTable}
use Rattle.sent_macros.proofs.Defining.{fitted_over, fitted_refused, fitted_large, fitted_accepted}
use borrow.Author.Rules.{rules}
use Rattle.sent_macros.proofs.sizes.fitted.Goals as goal

pub returns-then-is_over : goal.returns-then-is_over
returns-then-is_over c =
    let a = c.args in
    let whole : WholeTable a.t = record { statuses = search rules; marks = search rules; cells = search rules } in
    fitted_over a.t whole a.x (omega arith) a.text.now (sym c.is_over.ensures ∙ c.if-is_over.true)

pub returns-in_default : goal.returns-in_default
returns-in_default c =
    let a = c.args in
    let whole : WholeTable a.t = record { statuses = search rules; marks = search rules; cells = search rules } in
    let over = sym c.is_over.ensures ∙ c.if-is_over.false in
    fitted_refused a.t whole a.x (omega arith) a.text.now over c.in_default.field-0 (rw c.kept_texts.ensures at c.in_default.ensures)

pub returns-then-stored_total-le-ROOM : goal.returns-then-stored_total-le-ROOM
returns-then-stored_total-le-ROOM c =
    let a = c.args in
    let whole : WholeTable a.t = record { statuses = search rules; marks = search rules; cells = search rules } in
    let over = sym c.is_over.ensures ∙ c.if-is_over.false in
    fitted_accepted a.t whole a.x (omega arith) a.text.now over c.in-Ok.texts (rw c.kept_texts.ensures at c.in-Ok.ensures).1 (omega (arith, c.stored_total.ensures))

pub returns-else-stored_total-le-ROOM : goal.returns-else-stored_total-le-ROOM
returns-else-stored_total-le-ROOM c =
    let a = c.args in
    let whole : WholeTable a.t = record { statuses = search rules; marks = search rules; cells = search rules } in
    let over = sym c.is_over.ensures ∙ c.if-is_over.false in
    fitted_large a.t whole a.x (omega arith) a.text.now over c.in-Ok.texts (rw c.kept_texts.ensures at c.in-Ok.ensures).1 (omega (arith, c.stored_total.ensures))
