use mathlib.Core.Logic.{⊎_elim}
use Rattle.sent_macros.proofs.Numbers.{not_pending}
use Rattle.sent_macros.proofs.Views.{bare_as}
use Rattle.sent_macros.proofs.statuses.is_pending.Goals as goal

pub returns-in-Pending : goal.returns-in-Pending
returns-in-Pending c = rw (bare_as c.args.numbers.now c.args.x _ c.status_at.ensures) (⊎_elim (λ e. rw e) (λ e. rw e) c.in-Pending.is)

pub returns-in_default : goal.returns-in_default
returns-in_default c = rw (bare_as c.args.numbers.now c.args.x _ c.status_at.ensures, not_pending _ c.in_default.not-Pending c.in_default.not-PendingFree)
