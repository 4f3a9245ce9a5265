use mathlib.Core.Path.{sym}
use native.Mathlib.Omega.{arith}
use Rattle.received_macros.specs.Texts.{plain, freed}
use Rattle.sent_macros.specs.Refinement.{WholeTable}
use Rattle.sent_macros.proofs.Restating.{restated_met}
use borrow.Author.Rules.{rules}
use Rattle.sent_macros.proofs.kept.without_text.Goals as goal

pub returns : goal.returns
unfolding freed
returns c =
    let a = c.args in
    let whole : WholeTable a.t = record { statuses = search rules; marks = search rules; cells = search rules } in
    let changed = rw c.kept_texts.ensures at c.removed-texts.ensures in
    rw c.with_status.ensures (restated_met a.t whole a.x (omega arith) a.s plain (sym c.requires) c.removed-texts.result changed)
