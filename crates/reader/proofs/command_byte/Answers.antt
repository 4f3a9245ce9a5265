-- `reader::command_byte` meets its contract. By whether the phase alone moves.
use Rattle.reader.specs.Refinement.{view_reader}
use Rattle.reader.proofs.IdleReader.{idle_clean}
use Rattle.reader.proofs.PhaseAlone.{command_by_phase}
use Rattle.reader.proofs.command_byte.Goals as goal
use mathlib.Core.Path.{sym}

pub returns-in-Some : goal.returns-in-Some
returns-in-Some c =
    rw (sym (command_by_phase (view_reader c.args.r) c.args.b), sym c.command_phase.ensures, c.in-Some.is) c.stepped.ensures

pub returns-in-None : goal.returns-in-None
returns-in-None c =
    let s = rw c.idle.ensures at c.stepped-in-None.ensures in
    rw (sym (command_by_phase (view_reader c.args.r) c.args.b), sym c.command_phase.ensures, c.in-None.is)
    (record { item = s.item; view = s.view; clean = λ h. s.clean idle_clean })
