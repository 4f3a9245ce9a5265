use mathlib.Core.Path.{sym, ◌∙◌}
use lib.Dec.{lit≤}
use Rattle.codes.specs.Answers.{guarded}
use Rattle.codes.specs.Telnet.{DR}
use Rattle.disposition.specs.Handled.{suggestion}
use Rattle.printer.specs.State.{sends}
use Rattle.printer.specs.Refinement.{view_printer}
use Rattle.printer.specs.Calls.{suggest_call}
use Rattle.printer.proofs.Limits.{suggestion_fits}
use Rattle.printer.proofs.Views.{room_for}
use Rattle.printer.proofs.Answering.{met_refused}
use Rattle.printer.proofs.calls.suggest.Goals as goal

pub returns-then-no_room : goal.returns-then-no_room
unfolding suggest_call guarded
returns-then-no_room c =
    rw (sym c.no_room.ensures ∙ c.if-no_room.true, c.refused.ensures) met_refused

pub suggest_of-requires : goal.suggest_of-requires
suggest_of-requires c =
    let d = c.in-Some.d in
    let a = c.args in
    (room_for (sends (suggestion d DR a.v) (view_printer a.s)) a.paper.now a.wire.now (sym c.no_room.ensures ∙ c.if-no_room.false)
    (record { paper = lit≤ tt; wire = suggestion_fits d a.v })).1

pub returns-in-Some : goal.returns-in-Some
unfolding suggest_call guarded
returns-in-Some c =
    rw (sym c.no_room.ensures ∙ c.if-no_room.false, sym c.disposition_numbered.ensures ∙ c.in-Some.is)
    (c.suggest_of.ensures.met _)

pub returns-in-None : goal.returns-in-None
unfolding suggest_call guarded
returns-in-None c =
    rw (sym c.no_room.ensures ∙ c.if-no_room.false, sym c.disposition_numbered.ensures ∙ c.in-None.is, c.refused-in-None.ensures)
    met_refused
