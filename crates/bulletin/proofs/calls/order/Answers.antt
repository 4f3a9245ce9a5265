use mathlib.Core.Path.{sym, ◌∙◌}
use lib.ListN.{length}
use Rattle.codes.specs.declared.Note.TheVariants.{Clear}
use Rattle.codes.proofs.Allowed.{none_holds_of}
use Rattle.bulletin.specs.Refinement.{view_bulletin}
use Rattle.bulletin.specs.Calls.{order_bytes, order_guards, order_call}
use Rattle.bulletin.proofs.Limits.{order_fits}
use Rattle.bulletin.proofs.Meeting.{met_same, met_step}
use Rattle.bulletin.proofs.Answering.{stopped_on_wire, passed_on_wire, done_on_wire}
use Rattle.bulletin.proofs.Rooms.{room_on_wire}
use Rattle.bulletin.proofs.calls.order.Goals as goal

pub returns-in-Err : goal.returns-in-Err
unfolding order_call
returns-in-Err c =
    let guards = order_guards (view_bulletin c.args.s) c.args.cmd (length c.args.wire.now) in
    rw c.refused.ensures (stopped_on_wire guards _ c.order_refusal.ensures c.in-Err.is)

pub put_order-n-requires : goal.put_order-n-requires
put_order-n-requires c =
    let a = c.args in
    let none = none_holds_of (order_guards (view_bulletin a.s) a.cmd (length a.wire.now)) (sym c.order_refusal.ensures ∙ c.in_default.is) in
    room_on_wire (order_bytes a.cmd a.breaks a.sends) a.wire.now none.0 (order_fits a.cmd a.breaks a.sends)

pub returns : goal.returns
unfolding order_call
returns c =
    let guards = order_guards (view_bulletin c.args.s) c.args.cmd (length c.args.wire.now) in
    rw c.done.ensures.0
    (passed_on_wire guards _ c.order_refusal.ensures c.in_default.is
    (done_on_wire c.sends.ensures (met_step Clear met_same c.put_order-n.ensures) c.done.ensures.1))
