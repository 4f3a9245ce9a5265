use mathlib.Core.Path.{sym, ◌∙◌}
use Rattle.sent_macros.proofs.Views.{free_view, free_clean}
use Rattle.bulletin.proofs.moves.macro_moved.Goals as goal

pub returns : goal.returns
returns c =
    rw (c.moved-sides.ensures, sym c.is_yes.ensures ∙ c.if-is_yes.false, c.forget.ensures)
    (record { view = rw (c.none.ensures, free_view); clean = λ k. record { reader = k.reader; table = rw c.none.ensures free_clean } })
