use mathlib.Core.Path.{sym, ap, ◌∙◌}
use mathlib.Core.Bool.{not}
use Rattle.codes.specs.Answers.{allowed}
use Rattle.issues.proofs.Bare.{allowed_bare}
use Rattle.bulletin.proofs.calls.use_refusal.Goals as goal

pub returns : goal.returns
unfolding allowed
returns c =
    let a = c.args in
    rw (sym c.no_wire.ensures ∙ c.if-no_wire.false, ap not (sym c.macros_in_force.ensures ∙ c.if-not-macros_in_force.false), sym c.is_waiting.ensures ∙ c.if-is_waiting.false)
    (c.use_refusal.ensures ∙ allowed_bare a.s.table a.s.issues a.x)
