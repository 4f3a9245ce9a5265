use mathlib.Core.Path.{sym, ap, ◌∙◌}
use mathlib.Core.Bool.{not}
use borrow.Author.Tests.{ne_eqb}
use Rattle.codes.specs.Answers.{allowed}
use Rattle.sent_macros.proofs.Views.{pending_bare}
use Rattle.bulletin.proofs.calls.define_refusal.Goals as goal

pub returns-then-is_pending : goal.returns-then-is_pending
unfolding allowed
returns-then-is_pending c =
    let a = c.args in
    rw (sym c.no_wire.ensures ∙ c.if-no_wire.false, ap not (sym c.macros_in_force.ensures ∙ c.if-not-macros_in_force.false), ne_eqb _ 255 c.if-x-eq-IAC.false, pending_bare a.s.table a.x ∙ sym c.is_pending.ensures ∙ c.if-is_pending.true)

pub returns : goal.returns
unfolding allowed
returns c =
    let a = c.args in
    rw (sym c.no_wire.ensures ∙ c.if-no_wire.false, ap not (sym c.macros_in_force.ensures ∙ c.if-not-macros_in_force.false), ne_eqb _ 255 c.if-x-eq-IAC.false, pending_bare a.s.table a.x ∙ sym c.is_pending.ensures ∙ c.if-is_pending.false)
