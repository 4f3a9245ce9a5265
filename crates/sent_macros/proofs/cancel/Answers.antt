use mathlib.Core.Path.{◌≡◌, sym, ◌∙◌}
use mathlib.Core.Bool.{true}
use Rattle.sent_macros.specs.Sending.{sent_of, is_accepted}
use Rattle.sent_macros.specs.Refinement.{view_table}
use Rattle.sent_macros.proofs.Views.{accepted_bare}
use Rattle.sent_macros.proofs.Cancelling.{not_cancelled, itself_short, cancel_room, cancelled_met}
use Rattle.sent_macros.proofs.cancel.Goals as goal

pub returns-then-not-is_accepted : goal.returns-then-not-is_accepted
returns-then-not-is_accepted c =
    let is = accepted_bare c.args.t c.args.x ∙ sym c.is_accepted.ensures ∙ c.if-not-is_accepted.true in
    not_cancelled c.args.t c.args.x is _

pub put_define-requires : goal.put_define-requires
put_define-requires c =
    let is-accepted : let a = c.args in is_accepted (sent_of (view_table a.t) a.x) ≡ true = let a = c.args in accepted_bare a.t a.x ∙ sym c.is_accepted.ensures ∙ c.if-not-is_accepted.false in
    let a = c.args in
    (itself_short a.t a.x, cancel_room a.t a.x (is-accepted) a.out.now c.requires)

pub returns : goal.returns
returns c =
    let is-accepted : let a = c.args in is_accepted (sent_of (view_table a.t) a.x) ≡ true = let a = c.args in accepted_bare a.t a.x ∙ sym c.is_accepted.ensures ∙ c.if-not-is_accepted.false in
    let a = c.args in
    cancelled_met a.t a.x (is-accepted) c.put_define.ensures c.without_text.result c.without_text.ensures
