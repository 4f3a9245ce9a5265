use mathlib.Core.Path.{sym, ◌∙◌}
use Rattle.codes.specs.Answers.{guarded}
use Rattle.printer.specs.Calls.{key_call}
use Rattle.printer.proofs.Limits.{key_fits}
use Rattle.printer.proofs.Views.{sized_view, room_for}
use Rattle.printer.proofs.Answering.{met_refused, met_done}
use Rattle.printer.proofs.calls.press.Goals as goal

pub returns-then-no_room : goal.returns-then-no_room
unfolding key_call guarded
returns-then-no_room c =
    rw (sym c.no_room.ensures ∙ c.if-no_room.true, c.refused.ensures) met_refused

pub returns-then-bad_command : goal.returns-then-bad_command
unfolding key_call guarded
returns-then-bad_command c =
    rw (sym c.no_room.ensures ∙ c.if-no_room.false, sym c.bad_command.ensures ∙ c.if-bad_command.true, c.refused-then-bad_command.ensures)
    met_refused

pub returns-then-queue_full : goal.returns-then-queue_full
unfolding key_call guarded
returns-then-queue_full c =
    rw (sym c.no_room.ensures ∙ c.if-no_room.false, sym c.bad_command.ensures ∙ c.if-bad_command.false, sym c.queue_full.ensures ∙ c.if-queue_full.true, c.refused-then-queue_full.ensures)
    met_refused

pub key_typed-requires : goal.key_typed-requires
key_typed-requires c =
    let a = c.args in
    let both = room_for _ a.paper.now a.wire.now (sym c.no_room.ensures ∙ c.if-no_room.false) (key_fits _ a.k (sized_view a.s)) in
    record { s_value = sym c.queue_full.ensures ∙ c.if-queue_full.false; room_for = both.0; room_for_2 = both.1 }

pub returns : goal.returns
unfolding key_call guarded
returns c =
    rw (sym c.no_room.ensures ∙ c.if-no_room.false, sym c.bad_command.ensures ∙ c.if-bad_command.false, sym c.queue_full.ensures ∙ c.if-queue_full.false, c.done.ensures.0)
    (met_done c.key_typed.ensures c.done.ensures.1)
