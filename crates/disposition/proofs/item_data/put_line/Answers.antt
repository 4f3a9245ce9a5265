use mathlib.Core.Path.{◌≡◌, sym, ◌∙◌}
use mathlib.Core.Bool.{Bool, false}
use mathlib.Core.List.{List, [], ◌∷◌, ◌++◌}
use Prim.Native.Nat.{ℕ, ◌+◌}
use native.Mathlib.Omega.{arith}
use lib.ListN.{length-replicate}
use Rattle.lists.specs.Buffers.{RoomFor}
use Rattle.lists.proofs.Parts.{part_room, wrote_then}
use Rattle.disposition.specs.declared.Handling.{Handling}
use Rattle.disposition.specs.Handled.{handled_by}
use Rattle.disposition.specs.ItemData.{drops, nul_count, nuls, line_data}
use Rattle.disposition.proofs.Padding.{line_padded, room_first, first_within}
use Rattle.disposition.proofs.ItemLengths.{count_most}
use Rattle.disposition.proofs.item_data.put_line.Goals as goal

pub put_character-requires : goal.put_character-requires
unfolding line_data
put_character-requires c = rw (sym c.handled_by.ensures ∙ c.if-handled_by.true) at c.requires

pub returns-then-handled_by : goal.returns-then-handled_by
unfolding line_data
returns-then-handled_by c = rw (sym c.handled_by.ensures ∙ c.if-handled_by.true) c.put_character.ensures

pub put_character-requires-then-handled_by-2 : goal.put_character-requires-then-handled_by-2
unfolding line_data
put_character-requires-then-handled_by-2 c = rw (sym c.handled_by.ensures ∙ c.if-handled_by.false, sym c.handled_by-2.ensures ∙ c.if-handled_by-2.true) at c.requires

pub returns-then-handled_by-2 : goal.returns-then-handled_by-2
unfolding line_data
returns-then-handled_by-2 c = rw (sym c.handled_by.ensures ∙ c.if-handled_by.false, sym c.handled_by-2.ensures ∙ c.if-handled_by-2.true) c.put_character-then-handled_by-2.ensures

-- CR LF
abbrev line : List ℕ
line = 13 ∷ 10 ∷ []

abbrev count : Handling → Handling → ℕ
count returns feeds = nul_count returns + nul_count feeds

-- with neither dropped, as the code tests it
whole : (returns feeds : Handling) {a b : Bool} → a ≡ handled_by drops returns → a ≡ false → b ≡ handled_by drops feeds → b ≡ false
    → line_data returns feeds ≡ line ++ nuls (count returns feeds)
whole returns feeds d f e g = line_padded returns feeds (sym d ∙ f) (sym e ∙ g)

room : (returns feeds : Handling) (out : List ℕ) {a b : Bool} → a ≡ handled_by drops returns → a ≡ false → b ≡ handled_by drops feeds → b ≡ false
    → RoomFor (line_data returns feeds) out → RoomFor (line ++ nuls (count returns feeds)) out
room returns feeds out d f e g r = rw (whole returns feeds d f e g) at r

pub put_bytes-n-requires : goal.put_bytes-n-requires
put_bytes-n-requires c =
    let x = c.args in
    room_first line (count x.returns x.feeds) x.out.now
    (room x.returns x.feeds x.out.now c.handled_by.ensures c.if-handled_by.false c.handled_by-2.ensures c.if-handled_by-2.false c.requires)

pub overflow_add-nul_count : goal.overflow_add-nul_count
overflow_add-nul_count c = omega (arith, c.nul_count.ensures, count_most c.args.returns, c.nul_count-2.ensures, count_most c.args.feeds)

pub slice_bounds-put_nuls-count : goal.slice_bounds-put_nuls-count
slice_bounds-put_nuls-count c =
    let x = c.args in
    first_within line (count x.returns x.feeds) x.out.now
    (room x.returns x.feeds x.out.now c.handled_by.ensures c.if-handled_by.false c.handled_by-2.ensures c.if-handled_by-2.false c.requires) c.put_bytes-n.ensures

pub slice_bounds-put_nuls-start : goal.slice_bounds-put_nuls-start
slice_bounds-put_nuls-start c = slice_bounds-put_nuls-count c

pub put_nuls-m-requires : goal.put_nuls-m-requires
put_nuls-m-requires c =
    let x = c.args in
    let fits = room x.returns x.feeds x.out.now c.handled_by.ensures c.if-handled_by.false c.handled_by-2.ensures c.if-handled_by-2.false c.requires in
    rw (c.nul_count.ensures, c.nul_count-2.ensures)
    (part_room c.put_bytes-n.ensures (room_first line (count x.returns x.feeds) x.out.now fits) (nuls (count x.returns x.feeds)) fits)

pub overflow_add-result : goal.overflow_add-result
overflow_add-result c =
    let x = c.args in
    omega (arith, c.put_bytes-n.ensures.count, c.put_nuls-m.ensures.count, length-replicate {A = ℕ} (c.nul_count.result + c.nul_count-2.result) 0, c.nul_count.ensures, count_most x.returns, c.nul_count-2.ensures, count_most x.feeds)

pub returns : goal.returns
returns c =
    let x = c.args in
    let fits = room x.returns x.feeds x.out.now c.handled_by.ensures c.if-handled_by.false c.handled_by-2.ensures c.if-handled_by-2.false c.requires in
    rw (whole x.returns x.feeds c.handled_by.ensures c.if-handled_by.false c.handled_by-2.ensures c.if-handled_by-2.false, ← c.nul_count.ensures, ← c.nul_count-2.ensures)
    (wrote_then c.put_bytes-n.ensures (room_first line (count x.returns x.feeds) x.out.now fits) _ _ _ c.put_nuls-m.ensures)
