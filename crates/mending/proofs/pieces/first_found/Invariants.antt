use mathlib.Core.Path.{◌≡◌}
use lib.ListN.{drop}
use Rattle.reader.specs.Refinement.{view_reader}
use Rattle.mending.specs.Refinement.{found_from, first_found}
use Rattle.mending.proofs.pieces.first_found.Given as goal

abbrev pub invariant-loop-i : goal.invariant-loop-i
invariant-loop-i l = found_from (view_reader l.r) l.i (drop l.i l.rest) ≡ first_found l.rest
