use mathlib.Core.Path.{refl, sym, ◌∙◌}
use Rattle.sent_macros.specs.Sending.{sent_of}
use Rattle.sent_macros.specs.Refinement.{view_table}
use Rattle.sent_macros.proofs.Views.{accepted_bare}
use Rattle.sent_macros.proofs.AcceptedTexts.{no_bytes, found_text}
use Rattle.sent_macros.proofs.text_of.Goals as goal

pub returns-then-not-is_accepted : goal.returns-then-not-is_accepted
returns-then-not-is_accepted c =
    let a = c.args in
    no_bytes (sent_of (view_table a.t.now) a.x) (accepted_bare a.t.now a.x ∙ sym c.is_accepted.ensures ∙ c.if-not-is_accepted.true)

pub returns : goal.returns
returns c =
    let a = c.args in
    rw c.unwrap_or.ensures
    (found_text a.t.now a.x c.text_in.result _ (accepted_bare a.t.now a.x ∙ sym c.is_accepted.ensures ∙ c.if-not-is_accepted.false) refl
    (rw c.kept_texts.ensures at c.text_in.ensures))
