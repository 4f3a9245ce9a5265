-- The state that the code makes as RCTE comes in force is the rules'.
use mathlib.Core.Path.{◌≡◌, refl}
use mathlib.Core.List.{[]}
use Rattle.lists.proofs.Zeros.{clean_append}
use Rattle.rcte.specs.Taking.{gather_room}
use Rattle.rcte.specs.Control.{started, wait_room}
use Rattle.rcte.specs.Refinement.{view_rcte, CleanRcte, started_cells}
use Rattle.rcte.proofs.Cells.{no_numbers}

pub started_view : view_rcte started_cells ≡ started
started_view = refl

pub started_clean : CleanRcte started_cells
started_clean = record { waiting = clean_append [] 0 wait_room refl; numbers = no_numbers wait_room; gathered = clean_append [] 0 gather_room refl }
