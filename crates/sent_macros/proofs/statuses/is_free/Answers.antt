use Rattle.sent_macros.proofs.Numbers.{not_free}
use Rattle.sent_macros.proofs.Views.{bare_as}
use Rattle.sent_macros.proofs.statuses.is_free.Goals as goal

pub returns-in-Free : goal.returns-in-Free
returns-in-Free c = rw (bare_as c.args.numbers.now c.args.x _ c.status_at.ensures, c.in-Free.is)

pub returns-in_default : goal.returns-in_default
returns-in_default c = rw (bare_as c.args.numbers.now c.args.x _ c.status_at.ensures, not_free _ c.in_default.not-Free)
