use Rattle.printer.specs.InPlace.{item_in_place}
use Rattle.printer.proofs.in_place.item_read.Goals as goal

pub returns-in-Data : goal.returns-in-Data
unfolding item_in_place
returns-in-Data c = rw c.in-Data.is (c.data_read.ensures.met _)

pub returns-in-Negotiated : goal.returns-in-Negotiated
unfolding item_in_place
returns-in-Negotiated c = rw c.in-Negotiated.is (c.negotiated.ensures.met _)
