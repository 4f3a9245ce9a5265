use mathlib.Core.Path.{◌≡◌}
use Rattle.codes.specs.Answers.{allowed}
use Rattle.codes.specs.declared.Note.TheVariants.{Clear}
use Rattle.negotiation.specs.Carried.{disposition_in_force}
use Rattle.disposition.specs.ByOption.{values_of}
use Rattle.disposition.specs.Handled.{suggest_guards}
use Rattle.bulletin.proofs.Meeting.{met_step}
use Rattle.bulletin.proofs.Answering.{stopped_on_wire, passed_on_wire, done_on_wire}
use Rattle.bulletin.proofs.calls.suggest_of.Goals as goal

pub returns-in-Err : goal.returns-in-Err
returns-in-Err c =
    let a = c.args in
    let guards = suggest_guards a.d (disposition_in_force a.s.sides a.d) (values_of a.s.values a.d).ds a.v in
    let refusal : c.suggest_refusal.result ≡ allowed guards = rw (c.disposition_in_force-on.ensures, c.of-old.ensures) at c.suggest_refusal.ensures in
    rw c.refused.ensures (stopped_on_wire guards _ refusal c.in-Err.is)

pub returns : goal.returns
returns c =
    let a = c.args in
    let guards = suggest_guards a.d (disposition_in_force a.s.sides a.d) (values_of a.s.values a.d).ds a.v in
    let refusal : c.suggest_refusal.result ≡ allowed guards = rw (c.disposition_in_force-on.ensures, c.of-old.ensures) at c.suggest_refusal.ensures in
    rw c.done.ensures.0
    (passed_on_wire guards _ refusal c.in_default.is
    (done_on_wire c.sends.ensures (met_step Clear (rw c.of-old.ensures at c.with_values-t.ensures) c.put_suggestion-n.ensures) c.done.ensures.1))
