use mathlib.Core.Path.{sym, ◌∙◌}
use Rattle.codes.specs.Answers.{guarded}
use Rattle.negotiation.specs.Carried.{reply_bytes}
use Rattle.negotiation.specs.declared.End.{End}
use Rattle.printer.specs.Refinement.{view_printer}
use Rattle.printer.specs.State.{done, refused}
use Rattle.printer.specs.Network.{moved_with_reply}
use Rattle.printer.specs.Calls.{ask_call}
use Rattle.negotiation.proofs.Outcomes.{asked_through}
use Rattle.negotiation.proofs.Replies.{reply_long}
use Rattle.printer.proofs.Limits.{move_fits}
use Rattle.printer.proofs.Views.{sized_view, room_for}
use Rattle.printer.proofs.Answering.{met_refused, met_done}
use Rattle.printer.proofs.calls.ask.Goals as goal

pub returns-then-no_room : goal.returns-then-no_room
unfolding ask_call guarded
returns-then-no_room c =
    rw (sym c.no_room.ensures ∙ c.if-no_room.true, c.refused.ensures) met_refused

pub moved_with_reply-requires : goal.moved_with_reply-requires
moved_with_reply-requires c =
    let t = c.in-Ok.turn in
    let a = c.args in
    let both = room_for _ a.paper.now a.wire.now (sym c.no_room.ensures ∙ c.if-no_room.false)
    (move_fits _ t.side t.next (reply_bytes t.whose t.reply a.option) (reply_long t.whose t.reply a.option) (sized_view a.s)) in
    record { room_for = both.0; room_for_2 = both.1 }

pub returns-in-Err : goal.returns-in-Err
unfolding ask_call guarded
returns-in-Err c =
    let a = c.args in
    let s = view_printer a.s in
    rw (sym c.no_room.ensures ∙ c.if-no_room.false, asked_through End.Printer a.s.sides a.option a.way (refused s) (λ t. done (moved_with_reply s t.side t.next (reply_bytes t.whose t.reply a.option))), sym c.asked_by.ensures ∙ c.in-Err.is, c.refused-in-Err.ensures)
    met_refused

pub returns : goal.returns
unfolding ask_call guarded
returns c =
    let a = c.args in
    let s = view_printer a.s in
    let turn = c.in-Ok.turn in
    rw (sym c.no_room.ensures ∙ c.if-no_room.false, asked_through End.Printer a.s.sides a.option a.way (refused s) (λ t. done (moved_with_reply s t.side t.next (reply_bytes t.whose t.reply a.option))), sym c.asked_by.ensures ∙ c.in-Ok.is, c.done.ensures.0)
    (met_done {d = moved_with_reply s turn.side turn.next (reply_bytes turn.whose turn.reply a.option)} c.moved_with_reply.ensures c.done.ensures.1)
