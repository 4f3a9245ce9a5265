-- A clean state is known by its view, to the byte.
use Rattle.std.specs.Prelude.{◌≡◌}
use Rattle.bulletin.specs.declared.Bulletin.{Bulletin}
use Rattle.bulletin.specs.Refinement.{view_bulletin, CleanBulletin, WholeBulletin}

-- Assumed: two clean states of one view, their arrays of the lengths of their types. Promised: they are equal, in
-- every cell. Ruled out: a replaced text left in a cell past the texts; one status kept as this or that number.
abbrev pub DeterminedToTheByte : Type 0
DeterminedToTheByte = (p q : Bulletin) → WholeBulletin p → WholeBulletin q → CleanBulletin p → CleanBulletin q → view_bulletin p ≡ view_bulletin q → p ≡ q
