use mathlib.Core.Path.{refl, sym, ◌∙◌}
use Rattle.lists.proofs.Starts.{wrote_none, wrote_start}
use Rattle.codes.specs.Answers.{guarded}
use Rattle.printer.specs.Calls.{network_call}
use Rattle.printer.specs.Refinement.{view_printer}
use Rattle.printer.proofs.Limits.{network_fits}
use Rattle.printer.proofs.Views.{sized_view, room_for}
use Rattle.printer.proofs.Answering.{met_refused, met_done}
use Rattle.printer.proofs.Choosing.{ordinary_read}
use Rattle.printer.proofs.calls.network_byte.Goals as goal

pub returns-then-no_room : goal.returns-then-no_room
unfolding network_call guarded
returns-then-no_room c = rw (sym c.no_room.ensures ∙ c.if-no_room.true, c.refused.ensures) met_refused

pub bounds-paper-0 : goal.bounds-paper-0
bounds-paper-0 c =
    let a = c.args in
    let fits = room_for _ a.paper.now a.wire.now (sym c.no_room.ensures ∙ c.if-no_room.false) (network_fits _ a.b (sized_view a.s)) in
    rw (ordinary_read (view_printer a.s) a.b (sym c.is_ordinary.ensures ∙ c.if-is_ordinary.true)) at fits.0

pub returns-then-is_ordinary : goal.returns-then-is_ordinary
unfolding network_call guarded
returns-then-is_ordinary c =
    let a = c.args in
    let fits = room_for _ a.paper.now a.wire.now (sym c.no_room.ensures ∙ c.if-no_room.false) (network_fits _ a.b (sized_view a.s)) in
    let ordinary = ordinary_read (view_printer a.s) a.b (sym c.is_ordinary.ensures ∙ c.if-is_ordinary.true) in
    rw (sym c.no_room.ensures ∙ c.if-no_room.false, ordinary)
    (record {
      code = refl;
      note = refl;
      wrote = record { paper = wrote_start _ _ (rw ordinary at fits.0); wire = wrote_none a.wire.now };
      view = refl;
      clean = λ k. k;
      whole = λ k. k;
      same = λ n. absurd (n refl);
    })

pub network_read-requires : goal.network_read-requires
network_read-requires c =
    let a = c.args in
    let both = room_for _ a.paper.now a.wire.now (sym c.no_room.ensures ∙ c.if-no_room.false) (network_fits _ a.b (sized_view a.s)) in
    record { room_for = both.0; room_for_2 = both.1 }

pub returns : goal.returns
unfolding network_call guarded
returns c =
    let no_room = c.no_room in
    let if1 = c.if-no_room in
    let network_read_lem = c.network_read in
    let done = c.done in
    rw (sym no_room.ensures ∙ if1.false, done.ensures.0) (met_done network_read_lem.ensures done.ensures.1)
