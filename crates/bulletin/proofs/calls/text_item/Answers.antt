use mathlib.Core.Path.{sym, ◌∙◌}
use lib.ListN.{length}
use Rattle.codes.specs.declared.Note.TheVariants.{Clear}
use Rattle.codes.proofs.Allowed.{none_holds_of}
use Rattle.bulletin.specs.Refinement.{view_bulletin}
use Rattle.bulletin.specs.Calls.{item_sent, text_guards, text_call}
use Rattle.bulletin.proofs.Limits.{item_fits}
use Rattle.bulletin.proofs.Meeting.{met_step, met_waits}
use Rattle.bulletin.proofs.Answering.{stopped_on_wire, passed_on_wire, done_on_wire}
use Rattle.bulletin.proofs.Rooms.{room_on_wire}
use Rattle.bulletin.proofs.calls.text_item.Goals as goal

pub returns-in-Err : goal.returns-in-Err
unfolding text_call
returns-in-Err c =
    let guards = text_guards (view_bulletin c.args.s) c.args.k (length c.args.wire.now) in
    rw c.refused.ensures (stopped_on_wire guards _ c.text_refusal.ensures c.in-Err.is)

pub put_item-n-requires : goal.put_item-n-requires
unfolding item_sent
put_item-n-requires c =
    let s = view_bulletin c.args.s in
    let none = none_holds_of (text_guards s c.args.k (length c.args.wire.now)) (sym c.text_refusal.ensures ∙ c.in_default.is) in
    room_on_wire (item_sent s c.args.k).wire c.args.wire.now none.0 (item_fits s c.args.k).wire

pub returns : goal.returns
unfolding text_call item_sent
returns c =
    let guards = text_guards (view_bulletin c.args.s) c.args.k (length c.args.wire.now) in
    rw (c.done.ensures.0, ← c.waits_after.ensures)
    (passed_on_wire guards _ c.text_refusal.ensures c.in_default.is
    (done_on_wire c.sends.ensures (met_step Clear (met_waits _) c.put_item-n.ensures) c.done.ensures.1))
