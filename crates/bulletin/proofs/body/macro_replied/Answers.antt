use mathlib.Core.Path.{◌≡◌, ◌∙◌}
use Rattle.codes.specs.declared.Note.TheVariants.{Clear}
use Rattle.sent_macros.specs.Refinement.{view_table}
use Rattle.issues.specs.Issues.{kept_after}
use Rattle.issues.proofs.Bare.{kept_bare}
use Rattle.bulletin.proofs.Meeting.{met_step, met_macros}
use Rattle.bulletin.proofs.body.macro_replied.Goals as goal

pub returns : goal.returns
returns c =
    let a = c.args in
    let kept : c.kept_after.result ≡ kept_after (view_table a.s.table) a.s.issues a.reply = c.kept_after.ensures ∙ kept_bare a.s.table a.s.issues a.reply in
    let table = c.table_answered-answered.ensures in
    rw (c.sends.ensures, kept) (met_step Clear (met_macros table.view table.clean _) table.sent)
