-- The bulletin end that the code makes is the rules' fresh one.
use mathlib.Core.Path.{◌≡◌, refl}
use Rattle.reader.proofs.IdleReader.{idle_clean}
use Rattle.sent_macros.proofs.Views.{free_view, free_clean, free_whole}
use Rattle.bulletin.specs.State.{fresh}
use Rattle.bulletin.specs.Refinement.{view_bulletin, CleanBulletin, WholeBulletin, fresh_cells}

pub fresh_view : view_bulletin fresh_cells ≡ fresh
fresh_view = rw free_view

pub fresh_clean : CleanBulletin fresh_cells
fresh_clean = record { reader = idle_clean; table = free_clean }

pub fresh_whole : WholeBulletin fresh_cells
fresh_whole = record { body = refl; table = free_whole; kept = refl }
