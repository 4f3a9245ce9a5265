use Rattle.lists.proofs.Starts.{wrote_none}
use Rattle.bulletin.specs.InPlace.{in_place_read}
use Rattle.bulletin.proofs.in_place.read.Goals as goal

pub returns-in_err-read : goal.returns-in_err-read
unfolding in_place_read
returns-in_err-read c = rw (← c.phase_read.ensures, c.in_err-read.was, c.from_residual.ensures) (record { paper = wrote_none _; wire = wrote_none _ })

pub item_read-requires : goal.item_read-requires
unfolding in_place_read
item_read-requires c = rw (← c.phase_read.ensures, c.in_ok-read.was) at c.requires

pub returns : goal.returns
unfolding in_place_read
returns c = rw (← c.phase_read.ensures, c.in_ok-read.was) c.item_read.ensures
