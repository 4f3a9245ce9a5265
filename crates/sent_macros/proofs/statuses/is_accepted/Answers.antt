use Rattle.sent_macros.proofs.Numbers.{not_accepted}
use Rattle.sent_macros.proofs.Views.{bare_as}
use Rattle.sent_macros.proofs.statuses.is_accepted.Goals as goal

pub returns-in-Accepted : goal.returns-in-Accepted
returns-in-Accepted c = rw (bare_as c.args.numbers.now c.args.x _ c.status_at.ensures, c.in-Accepted.is)

pub returns-in_default : goal.returns-in_default
returns-in_default c = rw (bare_as c.args.numbers.now c.args.x _ c.status_at.ensures, not_accepted _ c.in_default.not-Accepted)
