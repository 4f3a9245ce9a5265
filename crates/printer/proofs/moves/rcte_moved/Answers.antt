use mathlib.Core.Path.{sym}
use Rattle.rcte.proofs.StartedEcho.{started_clean}
use Rattle.printer.specs.Network.{side_moved}
use Rattle.printer.proofs.Meeting.{met_still}
use Rattle.printer.proofs.moves.rcte_moved.Goals as goal

pub returns-in-false-true : goal.returns-in-false-true
unfolding side_moved
returns-in-false-true c =
    rw (sym c.in-false-true.ensures, sym c.in-false-true.ensures', c.notes.ensures, c.moved.ensures)
    (met_still _ _ _ (record { view = rw c.started.ensures; clean = λ k. record { reader = k.reader; table = k.table; rcte = rw c.started.ensures started_clean } }) _ _)
