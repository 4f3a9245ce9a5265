use mathlib.Core.Path.{◌≡◌, sym, ◌∙◌}
use mathlib.Core.Bool.{false}
use lib.ListN.{length}
use Rattle.codes.specs.Answers.{no_room, guarded}
use Rattle.bulletin.specs.Refinement.{view_bulletin}
use Rattle.bulletin.specs.Network.{network_read}
use Rattle.bulletin.specs.Calls.{network_call}
use Rattle.bulletin.proofs.Limits.{network_fits}
use Rattle.bulletin.proofs.Answering.{met_refused, met_done}
use Rattle.bulletin.proofs.Rooms.{room_for}
use Rattle.bulletin.proofs.calls.network_byte.Goals as goal

pub returns-then-no_room : goal.returns-then-no_room
unfolding network_call guarded
returns-then-no_room c = rw (sym c.no_room.ensures ∙ c.if-no_room.true, c.refused.ensures) met_refused

pub network_read-requires : goal.network_read-requires
network_read-requires c =
    let has_room : no_room (length c.args.host.now) (length c.args.wire.now) ≡ false = sym c.no_room.ensures ∙ c.if-no_room.false in
    let a = c.args in
    let both = room_for (network_read (view_bulletin a.s) a.b) a.host.now a.wire.now has_room (network_fits (view_bulletin a.s) a.b) in
    record { room_for = both.0; room_for_2 = both.1 }

pub returns : goal.returns
unfolding network_call guarded
returns c =
    let has_room : no_room (length c.args.host.now) (length c.args.wire.now) ≡ false = sym c.no_room.ensures ∙ c.if-no_room.false in
    rw (has_room, c.done.ensures.0) (met_done c.network_read.ensures c.done.ensures.1)
