use mathlib.Core.Path.{◌≡◌, sym, ◌∙◌}
use mathlib.Core.Bool.{false}
use lib.ListN.{length}
use Rattle.codes.specs.Answers.{no_wire, guarded}
use Rattle.codes.specs.Telnet.{DS}
use Rattle.disposition.specs.Handled.{suggestion}
use Rattle.bulletin.specs.Calls.{suggest_call}
use Rattle.bulletin.proofs.Limits.{suggestion_fits}
use Rattle.bulletin.proofs.Answering.{refused_on_wire}
use Rattle.bulletin.proofs.Rooms.{room_on_wire}
use Rattle.bulletin.proofs.calls.suggest.Goals as goal

pub returns-then-no_wire : goal.returns-then-no_wire
unfolding suggest_call guarded
returns-then-no_wire c = rw (sym c.no_wire.ensures ∙ c.if-no_wire.true, c.refused.ensures) refused_on_wire

pub suggest_of-requires : goal.suggest_of-requires
suggest_of-requires c =
    let has_room : no_wire (length c.args.wire.now) ≡ false = sym c.no_wire.ensures ∙ c.if-no_wire.false in
    let a = c.args in
    room_on_wire (suggestion c.in-Some.d DS a.v) a.wire.now has_room (suggestion_fits c.in-Some.d a.v)

pub returns-in-Some : goal.returns-in-Some
unfolding suggest_call guarded
returns-in-Some c =
    let has_room : no_wire (length c.args.wire.now) ≡ false = sym c.no_wire.ensures ∙ c.if-no_wire.false in
    rw (has_room, sym c.disposition_numbered.ensures ∙ c.in-Some.is) c.suggest_of.ensures

pub returns-in-None : goal.returns-in-None
unfolding suggest_call guarded
returns-in-None c =
    let has_room : no_wire (length c.args.wire.now) ≡ false = sym c.no_wire.ensures ∙ c.if-no_wire.false in
    rw (has_room, sym c.disposition_numbered.ensures ∙ c.in-None.is, c.refused-in-None.ensures) refused_on_wire
