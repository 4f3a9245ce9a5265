-- The printer end that the code makes is the rules' fresh one.
use mathlib.Core.Path.{◌≡◌, refl}
use Rattle.received_macros.proofs.View.{empty_view, empty_clean}
use Rattle.reader.proofs.IdleReader.{idle_clean}
use Rattle.rcte.proofs.StartedEcho.{started_clean}
use Rattle.printer.specs.State.{fresh}
use Rattle.printer.specs.Refinement.{view_printer, CleanPrinter, WholePrinter, fresh_cells}

pub fresh_view : view_printer fresh_cells ≡ fresh
fresh_view = rw empty_view

pub fresh_clean : CleanPrinter fresh_cells
fresh_clean = record { reader = idle_clean; table = empty_clean; rcte = started_clean }

pub fresh_whole : WholePrinter fresh_cells
fresh_whole = record { body = refl; cells = refl; waiting = refl; gathered = refl }
