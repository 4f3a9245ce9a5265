use mathlib.Core.Path.{sym, ◌∙◌}
use Rattle.received_macros.proofs.View.{empty_view, empty_clean}
use Rattle.printer.specs.Network.{side_moved}
use Rattle.printer.proofs.moves.macro_moved.Goals as goal

pub returns : goal.returns
unfolding side_moved
returns c =
    rw (c.moved.ensures, sym c.is_yes_or_ending.ensures ∙ c.if-is_yes_or_ending.false)
    (record { view = rw (c.empty.ensures, empty_view); clean = λ k. record { reader = k.reader; table = rw c.empty.ensures empty_clean; rcte = k.rcte } })
