use mathlib.Core.Path.{◌≡◌, sym, ◌∙◌}
use mathlib.Core.Bool.{Bool, false}
use mathlib.Core.List.{List, ◌++◌}
use Prim.Native.Nat.{ℕ}
use native.Mathlib.Omega.{arith}
use lib.ListN.{length-replicate}
use Rattle.lists.specs.Buffers.{RoomFor}
use Rattle.lists.proofs.Starts.{wrote_none}
use Rattle.lists.proofs.Parts.{part_room, wrote_then}
use Rattle.codes.specs.declared.Disposition.{Disposition}
use Rattle.disposition.specs.declared.Handling.{Handling}
use Rattle.disposition.specs.Handled.{handled_by}
use Rattle.disposition.specs.ItemData.{drops, replaces, character_bytes, nul_count, nuls, character_data}
use Rattle.disposition.proofs.Padding.{character_padded, room_first, first_within}
use Rattle.disposition.proofs.ItemLengths.{count_most, bytes_short}
use Rattle.disposition.proofs.item_data.put_character.Goals as goal

pub returns-then-handled_by : goal.returns-then-handled_by
unfolding character_data
returns-then-handled_by c = rw (sym c.handled_by.ensures ∙ c.if-handled_by.true) (wrote_none _)

pub put_replacement-requires : goal.put_replacement-requires
unfolding character_data
put_replacement-requires c = rw (sym c.handled_by.ensures ∙ c.if-handled_by.false, sym c.handled_by-2.ensures ∙ c.if-handled_by-2.true) at c.requires

pub returns-then-handled_by-2 : goal.returns-then-handled_by-2
unfolding character_data
returns-then-handled_by-2 c = rw (sym c.handled_by.ensures ∙ c.if-handled_by.false, sym c.handled_by-2.ensures ∙ c.if-handled_by-2.true) c.put_replacement.ensures

-- neither dropped nor replaced, as the code tests it
whole : (d : Disposition) (h : Handling) {a b : Bool} → a ≡ handled_by drops h → a ≡ false → b ≡ handled_by replaces h → b ≡ false
    → character_data d h ≡ character_bytes d ++ nuls (nul_count h)
whole d h k f r g = character_padded d h (sym k ∙ f) (sym r ∙ g)

room : (d : Disposition) (h : Handling) (out : List ℕ) {a b : Bool} → a ≡ handled_by drops h → a ≡ false → b ≡ handled_by replaces h → b ≡ false
    → RoomFor (character_data d h) out → RoomFor (character_bytes d ++ nuls (nul_count h)) out
room d h out k f r g fits = rw (whole d h k f r g) at fits

pub put_plainly-n-requires : goal.put_plainly-n-requires
put_plainly-n-requires c =
    let x = c.args in
    room_first (character_bytes x.d) (nul_count x.h) x.out.now
    (room x.d x.h x.out.now c.handled_by.ensures c.if-handled_by.false c.handled_by-2.ensures c.if-handled_by-2.false c.requires)

pub slice_bounds-put_nuls-count : goal.slice_bounds-put_nuls-count
slice_bounds-put_nuls-count c =
    let x = c.args in
    first_within (character_bytes x.d) (nul_count x.h) x.out.now
    (room x.d x.h x.out.now c.handled_by.ensures c.if-handled_by.false c.handled_by-2.ensures c.if-handled_by-2.false c.requires) c.put_plainly-n.ensures

pub slice_bounds-put_nuls-start : goal.slice_bounds-put_nuls-start
slice_bounds-put_nuls-start c = slice_bounds-put_nuls-count c

pub put_nuls-m-requires : goal.put_nuls-m-requires
put_nuls-m-requires c =
    let x = c.args in
    let fits = room x.d x.h x.out.now c.handled_by.ensures c.if-handled_by.false c.handled_by-2.ensures c.if-handled_by-2.false c.requires in
    rw c.nul_count.ensures (part_room c.put_plainly-n.ensures (room_first (character_bytes x.d) (nul_count x.h) x.out.now fits) (nuls (nul_count x.h)) fits)

pub overflow_add-result : goal.overflow_add-result
overflow_add-result c =
    let x = c.args in
    omega (arith, c.put_plainly-n.ensures.count, bytes_short x.d, c.put_nuls-m.ensures.count, length-replicate {A = ℕ} c.nul_count.result 0, c.nul_count.ensures, count_most x.h)

pub returns : goal.returns
returns c =
    let x = c.args in
    let fits = room x.d x.h x.out.now c.handled_by.ensures c.if-handled_by.false c.handled_by-2.ensures c.if-handled_by-2.false c.requires in
    rw (whole x.d x.h c.handled_by.ensures c.if-handled_by.false c.handled_by-2.ensures c.if-handled_by-2.false, ← c.nul_count.ensures)
    (wrote_then c.put_plainly-n.ensures (room_first (character_bytes x.d) (nul_count x.h) x.out.now fits) _ _ _ c.put_nuls-m.ensures)
