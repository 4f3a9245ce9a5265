use native.Mathlib.Omega.{arith}
use borrow.Author.Rules.{rules}
use lib.ListN.{length-take}
use Rattle.received_macros.proofs.Defining.{sizes, bounded, refused_text, accepted_text}
use Rattle.received_macros.proofs.define_text.Goals as goal

pub overflow_sub-total : goal.overflow_sub-total
overflow_sub-total c =
    let z = sizes c.settled.ensures (search rules) (search rules) (omega arith) c.requires c.length_of-old.ensures c.mark_for-mark.ensures c.length_of-len.ensures c.start_of-total.ensures c.start_of-start.ensures in
    omega (arith, (bounded z).inside)

pub overflow_add-total : goal.overflow_add-total
overflow_add-total c =
    let z = sizes c.settled.ensures (search rules) (search rules) (omega arith) c.requires c.length_of-old.ensures c.mark_for-mark.ensures c.length_of-len.ensures c.start_of-total.ensures c.start_of-start.ensures in
    omega (arith, (bounded z).room, (bounded z).part, c.requires)

pub returns-then-total-old-gt-ROOM : goal.returns-then-total-old-gt-ROOM
returns-then-total-old-gt-ROOM c =
    let z = sizes c.settled.ensures (search rules) (search rules) (omega arith) c.requires c.length_of-old.ensures c.mark_for-mark.ensures c.length_of-len.ensures c.start_of-total.ensures c.start_of-start.ensures in
    refused_text z c.if-total-old-gt-ROOM.true

pub overflow_add-start : goal.overflow_add-start
overflow_add-start c =
    let z = sizes c.settled.ensures (search rules) (search rules) (omega arith) c.requires c.length_of-old.ensures c.mark_for-mark.ensures c.length_of-len.ensures c.start_of-total.ensures c.start_of-start.ensures in
    omega (arith, (bounded z).inside, (bounded z).room)

pub slice_bounds-repacked-end : goal.slice_bounds-repacked-end
slice_bounds-repacked-end c =
    let z = sizes c.settled.ensures (search rules) (search rules) (omega arith) c.requires c.length_of-old.ensures c.mark_for-mark.ensures c.length_of-len.ensures c.start_of-total.ensures c.start_of-start.ensures in
    simp length-take (omega (arith, (bounded z).part))

pub repacked-requires : goal.repacked-requires
repacked-requires c =
    let z = sizes c.settled.ensures (search rules) (search rules) (omega arith) c.requires c.length_of-old.ensures c.mark_for-mark.ensures c.length_of-len.ensures c.start_of-total.ensures c.start_of-start.ensures in
    let b = bounded z in
    let l = c.if-total-old-gt-ROOM.false in
    simp length-take (omega (arith, b.inside, b.room, b.part, l))

pub returns : goal.returns
returns c =
    let z = sizes c.settled.ensures (search rules) (search rules) (omega arith) c.requires c.length_of-old.ensures c.mark_for-mark.ensures c.length_of-len.ensures c.start_of-total.ensures c.start_of-start.ensures in
    accepted_text z _ c.repacked.ensures c.if-total-old-gt-ROOM.false
