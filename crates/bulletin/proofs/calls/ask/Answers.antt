use mathlib.Core.Path.{◌≡◌, refl, sym, ◌∙◌}
use mathlib.Core.Bool.{false}
use lib.ListN.{length}
use Rattle.codes.specs.Answers.{no_wire, guarded}
use Rattle.negotiation.specs.Carried.{reply_bytes}
use Rattle.negotiation.specs.declared.End.{End}
use Rattle.negotiation.proofs.Outcomes.{asked_through}
use Rattle.negotiation.proofs.Replies.{reply_long}
use Rattle.bulletin.specs.Refinement.{view_bulletin}
use Rattle.bulletin.specs.State.{done, refused}
use Rattle.bulletin.specs.Network.{side_moved}
use Rattle.bulletin.specs.Calls.{ask_call}
use Rattle.bulletin.proofs.Limits.{move_fits}
use Rattle.bulletin.proofs.Answering.{refused_on_wire, done_on_wire}
use Rattle.bulletin.proofs.Rooms.{room_on_wire}
use Rattle.bulletin.proofs.calls.ask.Goals as goal

pub returns-then-no_wire : goal.returns-then-no_wire
unfolding ask_call guarded
returns-then-no_wire c = rw (sym c.no_wire.ensures ∙ c.if-no_wire.true, c.refused.ensures) refused_on_wire

pub moved_with_reply-requires : goal.moved_with_reply-requires
moved_with_reply-requires c =
    let has_room : no_wire (length c.args.wire.now) ≡ false = sym c.no_wire.ensures ∙ c.if-no_wire.false in
    let a = c.args in
    let turn = c.in-Ok.turn in
    let bytes = reply_bytes turn.whose turn.reply a.option in
    room_on_wire (side_moved (view_bulletin a.s) turn.side turn.next bytes).wire a.wire.now has_room
    (move_fits (view_bulletin a.s) turn.side turn.next bytes (reply_long turn.whose turn.reply a.option)).wire

pub returns-in-Err : goal.returns-in-Err
unfolding ask_call guarded
returns-in-Err c =
    let a = c.args in
    let s = view_bulletin a.s in
    let has_room : no_wire (length a.wire.now) ≡ false = sym c.no_wire.ensures ∙ c.if-no_wire.false in
    rw (has_room, asked_through End.Bulletin a.s.sides a.option a.way (refused s) (λ t. done (side_moved s t.side t.next (reply_bytes t.whose t.reply a.option))), sym c.asked_by.ensures ∙ c.in-Err.is, c.refused-in-Err.ensures)
    refused_on_wire

pub returns-in-Ok : goal.returns-in-Ok
unfolding ask_call guarded
returns-in-Ok c =
    let a = c.args in
    let s = view_bulletin a.s in
    let has_room : no_wire (length a.wire.now) ≡ false = sym c.no_wire.ensures ∙ c.if-no_wire.false in
    rw (has_room, asked_through End.Bulletin a.s.sides a.option a.way (refused s) (λ t. done (side_moved s t.side t.next (reply_bytes t.whose t.reply a.option))), sym c.asked_by.ensures ∙ c.in-Ok.is, c.done.ensures.0)
    (done_on_wire refl c.moved_with_reply.ensures c.done.ensures.1)
