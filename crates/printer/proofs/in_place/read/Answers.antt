use mathlib.Core.Path.{sym, ◌∙◌}
use Rattle.printer.specs.InPlace.{in_place_read}
use Rattle.printer.proofs.in_place.read.Goals as goal

pub returns-then-may_replace : goal.returns-then-may_replace
unfolding in_place_read
returns-then-may_replace c = rw (sym c.may_replace.ensures ∙ c.if-may_replace.true) (c.marked_read.ensures.met _)
