use Rattle.std.proofs.Common.{sym, ◌∙◌, ◌≡◌, arith}
use Rattle.lists.proofs.Fronts.{pass_more}
use Rattle.lists.proofs.Tables.{both_left, both_right}
use Rattle.lists.proofs.scans.all_pass.Goals as goal

pub loop-b-preserved : goal.loop-b-preserved
loop-b-preserved g c = λ test computes e.
    pass_more (c.loop-b.invariant test computes (both_left _ _ e)) (sym (computes _ _ c.passes-all.ensures) ∙ both_right _ _ e)

pub returns : goal.returns
returns g c =
    let whole : c.loop-b.b-index ≡ 32 = omega arith in
    rw whole at c.loop-b.invariant
