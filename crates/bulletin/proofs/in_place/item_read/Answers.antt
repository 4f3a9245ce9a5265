use mathlib.Core.Path.{refl}
use mathlib.Core.Logic.{⊎_elim}
use Rattle.lists.proofs.Starts.{wrote_none}
use Rattle.bulletin.specs.InPlace.{negotiated_in_place}
use Rattle.bulletin.proofs.InPlace.{room_on_wire}
use Rattle.bulletin.proofs.in_place.item_read.Goals as goal

pub returns-in-Nothing : goal.returns-in-Nothing
returns-in-Nothing c = rw c.in-Nothing.is (record { parts = refl; wrote = record { paper = wrote_none _; wire = wrote_none _ } })

pub data_read-requires : goal.data_read-requires
data_read-requires c = let room = rw c.in-Data.is at c.requires in room.0

pub returns-in-Data : goal.returns-in-Data
returns-in-Data c = rw c.in-Data.is (c.data_read.ensures.met _)

pub negotiated-requires : goal.negotiated-requires
negotiated-requires c =
    let said = c.in-Negotiated in
    room_on_wire (negotiated_in_place c.args.parts c.args.read.phase said.v said.option) c.args.host.now c.args.wire.now (rw said.is at c.requires)

pub returns-in-Negotiated : goal.returns-in-Negotiated
returns-in-Negotiated c = rw c.in-Negotiated.is (c.negotiated.ensures.met _)

pub returns-in-BodyEnd : goal.returns-in-BodyEnd
returns-in-BodyEnd c =
    ⊎_elim
    (λ e. rw e (record { paper = wrote_none _; wire = wrote_none _ }))
    (λ e. rw e (record { paper = wrote_none _; wire = wrote_none _ }))
    c.in-BodyEnd.is
