use mathlib.Core.Path.{sym, ◌∙◌}
use mathlib.Core.List.{[], ◌∷◌}
use Prim.Native.Nat.{◌<◌}
use native.Mathlib.Omega.{arith}
use lib.ListN.{length}
use Rattle.lists.proofs.Starts.{wrote_start}
use Rattle.codes.specs.declared.Note.TheVariants.{Clear}
use Rattle.codes.proofs.Allowed.{none_holds_of}
use Rattle.codes.proofs.Rooms.{wire_lent}
use Rattle.bulletin.specs.Refinement.{view_bulletin}
use Rattle.bulletin.specs.Calls.{use_guards, use_call}
use Rattle.bulletin.proofs.Meeting.{met_same, met_step}
use Rattle.bulletin.proofs.Answering.{stopped_on_wire, passed_on_wire, done_on_wire}
use Rattle.bulletin.proofs.calls.use_macro.Goals as goal

pub returns-in-Err : goal.returns-in-Err
unfolding use_call
returns-in-Err c =
    let guards = use_guards (view_bulletin c.args.s) c.args.x (length c.args.wire.now) in
    rw c.refused.ensures (stopped_on_wire guards _ c.use_refusal.ensures c.in-Err.is)

pub bounds-wire-0 : goal.bounds-wire-0
bounds-wire-0 c =
    let none = none_holds_of (use_guards (view_bulletin c.args.s) c.args.x (length c.args.wire.now)) (sym c.use_refusal.ensures ∙ c.in_default.is) in
    omega (arith, wire_lent (length c.args.wire.now) none.0)

pub returns : goal.returns
unfolding use_call
returns c =
    let guards = use_guards (view_bulletin c.args.s) c.args.x (length c.args.wire.now) in
    let none = none_holds_of guards (sym c.use_refusal.ensures ∙ c.in_default.is) in
    let room : 0 < length c.args.wire.now = omega (arith, wire_lent (length c.args.wire.now) none.0) in
    rw c.done.ensures.0
    (passed_on_wire guards _ c.use_refusal.ensures c.in_default.is
    (done_on_wire c.sends.ensures (met_step Clear met_same (wrote_start (c.args.x ∷ []) c.args.wire.now room)) c.done.ensures.1))
