use mathlib.Core.Path.{sym, ◌∙◌}
use Rattle.sent_macros.proofs.Views.{free_view}
use Rattle.bulletin.proofs.items.table_now.Goals as goal

pub returns-else-macros_in_force : goal.returns-else-macros_in_force
returns-else-macros_in_force c = rw (sym c.macros_in_force.ensures ∙ c.if-macros_in_force.false, c.none.ensures) free_view
