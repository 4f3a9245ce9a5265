use mathlib.Core.Path.{sym, ◌∙◌}
use Rattle.sent_macros.specs.Sending.{sent_of, accepted_text}
use Rattle.sent_macros.specs.Refinement.{view_table}
use Rattle.sent_macros.proofs.Views.{accepted_bare}
use Rattle.sent_macros.proofs.AcceptedTexts.{not_accepted_as, accepted_as, texts_same}
use Rattle.sent_macros.proofs.is_accepted_as.Goals as goal

pub returns-then-is_accepted : goal.returns-then-is_accepted
returns-then-is_accepted c =
    let a = c.args in
    let is = accepted_bare a.t a.x ∙ sym c.is_accepted.ensures ∙ c.if-is_accepted.true in
    rw (c.eq.ensures, c.text_of.ensures, texts_same (accepted_text (sent_of (view_table a.t) a.x)) a.text.now)
    (sym (accepted_as (sent_of (view_table a.t) a.x) a.text.now is))

pub returns-else-is_accepted : goal.returns-else-is_accepted
returns-else-is_accepted c =
    let a = c.args in
    c.if-is_accepted.false
    ∙ sym (not_accepted_as (sent_of (view_table a.t) a.x) a.text.now (accepted_bare a.t a.x ∙ sym c.is_accepted.ensures ∙ c.if-is_accepted.false))
