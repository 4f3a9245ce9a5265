use Rattle.std.proofs.Common.{true, false, sym, ◌∙◌, ◌≡◌, [], ◌∷◌}
use lib.Dec.{eqb}
use lib.Pointwise.{pointwise}
use Rattle.received_macros.proofs.Marks.{mark_by}
use Rattle.received_macros.proofs.mark_for.Goals as goal

pub returns-then-itself : goal.returns-then-itself
returns-then-itself c =
    let same : pointwise eqb c.args.text.now (c.args.x ∷ []) ≡ true = rw (← c.as_slice.ensures) (sym c.eq-itself.ensures ∙ c.if-itself.true) in
    rw same at (mark_by c.args.x c.args.text.now)

pub returns-else-itself : goal.returns-else-itself
returns-else-itself c =
    let other : pointwise eqb c.args.text.now (c.args.x ∷ []) ≡ false = rw (← c.as_slice.ensures) (sym c.eq-itself.ensures ∙ c.if-itself.false) in
    rw other at (mark_by c.args.x c.args.text.now)
