use mathlib.Core.Path.{sym, ◌∙◌}
use Rattle.sent_macros.proofs.Views.{pending_bare}
use Rattle.sent_macros.proofs.Answers.{refuse_met, unrefused_met}
use Rattle.sent_macros.proofs.refused.Goals as goal

pub returns-then-is_pending : goal.returns-then-is_pending
returns-then-is_pending c =
    let a = c.args in
    refuse_met a.t a.x (pending_bare a.t a.x ∙ sym c.is_pending.ensures ∙ c.if-is_pending.true) _ c.without_text.ensures

pub returns-else-is_pending : goal.returns-else-is_pending
returns-else-is_pending c =
    let a = c.args in
    unrefused_met a.t a.x (pending_bare a.t a.x ∙ sym c.is_pending.ensures ∙ c.if-is_pending.false)
