use mathlib.Core.Path.{sym, ◌∙◌}
use Rattle.lists.proofs.Starts.{wrote_none}
use Rattle.codes.specs.Answers.{guarded}
use Rattle.codes.specs.declared.Note.TheVariants.{Clear}
use Rattle.bulletin.specs.Calls.{issue_call}
use Rattle.bulletin.proofs.Meeting.{met_step, met_issues}
use Rattle.bulletin.proofs.Answering.{refused_on_wire, done_on_wire}
use Rattle.bulletin.proofs.calls.issue.Goals as goal

pub returns-then-no_wire : goal.returns-then-no_wire
unfolding issue_call guarded
returns-then-no_wire c = rw (sym c.no_wire.ensures ∙ c.if-no_wire.true, c.refused.ensures) refused_on_wire

pub returns : goal.returns
unfolding issue_call guarded
returns c =
    rw (sym c.no_wire.ensures ∙ c.if-no_wire.false, c.done.ensures.0)
    (done_on_wire c.sends.ensures (met_step Clear (met_issues _) (wrote_none _)) c.done.ensures.1)
