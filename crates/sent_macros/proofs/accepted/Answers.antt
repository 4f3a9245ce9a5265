use mathlib.Core.Path.{refl, sym, ◌∙◌}
use mathlib.Core.Logic.{⊎_elim}
use native.Mathlib.Omega.{arith}
use Rattle.sent_macros.specs.declared.Status.TheVariants.{Free, Pending, PendingFree, Accepted, Refused}
use Rattle.sent_macros.specs.Sending.{on_accept}
use Rattle.sent_macros.specs.Refinement.{WholeTable}
use Rattle.sent_macros.proofs.Answers.{accept_met, unmoved_met}
use borrow.Author.Rules.{rules}
use Rattle.sent_macros.proofs.accepted.Goals as goal

pub returns-in-Pending : goal.returns-in-Pending
returns-in-Pending c =
    let a = c.args in
    let whole : WholeTable a.t = record { statuses = search rules; marks = search rules; cells = search rules } in
    let stands = sym c.status_at.ensures ∙ c.in-Pending.is in
    rw c.with_status.ensures (accept_met a.t a.x Pending stands (λ u. refl) whole (omega arith) Accepted refl (λ u. refl))

pub returns-in-PendingFree : goal.returns-in-PendingFree
returns-in-PendingFree c =
    let a = c.args in
    let whole : WholeTable a.t = record { statuses = search rules; marks = search rules; cells = search rules } in
    let stands = sym c.status_at.ensures ∙ c.in-PendingFree.is in
    rw c.with_status-in-PendingFree.ensures (accept_met a.t a.x PendingFree stands (λ u. refl) whole (omega arith) Free refl (λ u. refl))

pub returns-in-Free : goal.returns-in-Free
returns-in-Free c =
    let a = c.args in
    let stands = sym c.status_at.ensures in
    ⊎_elim
    (λ e. unmoved_met a.t a.x Free (stands ∙ e) on_accept _ (λ u. refl))
    (⊎_elim
    (λ e. unmoved_met a.t a.x Accepted (stands ∙ e) on_accept _ (λ u. refl))
    (λ e. unmoved_met a.t a.x Refused (stands ∙ e) on_accept _ (λ u. refl)))
    c.in-Free.is
