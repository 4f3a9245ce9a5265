use mathlib.Core.Path.{sym, ◌∙◌}
use Rattle.lists.proofs.Uniform.{get_d_uniform}
use Rattle.sent_macros.specs.Sending.{free}
use Rattle.sent_macros.proofs.Views.{status_at}
use Rattle.bulletin.proofs.calls.macro_standing.Goals as goal

pub returns-then-macros_in_force : goal.returns-then-macros_in_force
returns-then-macros_in_force c =
    let a = c.args in
    rw (sym c.macros_in_force.ensures ∙ c.if-macros_in_force.true, c.status_at.ensures ∙ status_at a.s.table a.x, c.kept_of.ensures)

pub returns : goal.returns
returns c =
    rw (sym c.macros_in_force.ensures ∙ c.if-macros_in_force.false, get_d_uniform 256 c.args.x free)
