use native.Mathlib.Omega.{arith}
use borrow.Rule.Slice.PartMut.{mid_len}
use Rattle.tape.proofs.Machines.{item_room, item_met}
use Rattle.tape.proofs.running.one_item.Goals as goal

pub put_item-shown-requires : goal.put_item-shown-requires
put_item-shown-requires c =
    let x = c.args in
    let p = c.used_for-p in
    let w = c.used_for-w in
    item_room x.m x.item p.result w.result p.ensures.0 p.ensures.1 w.ensures.0 w.ensures.1 _ _
    (mid_len p.result 4096 x.buffers.now.paper (omega arith)) (mid_len w.result 16384 x.buffers.now.wire (omega arith)) _ _ x.out.now c.requires

pub returns : goal.returns
returns c =
    let x = c.args in
    let p = c.used_for-p in
    let w = c.used_for-w in
    item_met x.m x.item p.result w.result p.ensures.0 p.ensures.1 w.ensures.0 w.ensures.1 _ _
    (mid_len p.result 4096 x.buffers.now.paper (omega arith)) (mid_len w.result 16384 x.buffers.now.wire (omega arith)) c.put_item-shown.ensures x.after
