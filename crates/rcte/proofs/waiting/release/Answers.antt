use mathlib.Core.Path.{◌≡◌, sym, ap, ◌∙◌}
use mathlib.Core.Bool.{Bool, true}
use mathlib.Core.List.{List, ◌∷◌, map}
use Prim.Native.Nat.{ℕ, suc, ◌+◌, ◌≤◌, ◌<◌}
use native.Mathlib.Omega.{arith}
use lib.Dec.{ltb}
use lib.ListN.{length, length-map, length-take, get_or, drop}
use lib.Seq.{drop-cons}
use native.Mathlib.Numerals.{add-one}
use Rattle.lists.proofs.Copying.{map-drop}
use borrow.Author.Rules.{rules}
use borrow.Author.Tests.{ltb-true, ltb-false}
use Rattle.keys.specs.Refinement.{key_of_number}
use Rattle.rcte.specs.Refinement.{numbers_in}
use Rattle.rcte.proofs.Releasing.{paper_room, wire_room, turn, plain_room, plain_turn, broken, all_gone, ended}
use Rattle.rcte.proofs.waiting.release.Goals as goal
use Rattle.rcte.proofs.waiting.release.Goals.{in_default, in-Some+in_default+then-t, in_default-via-in-Line-1, in_default-via-in-Char+else-g-lt-GATHER_ROOM, in_default-via-in-Char+then-g-lt-GATHER_ROOM+else-is_plain_key}

-- the number that was got is the next that waits
found : (numbers : List ℕ) (i n : ℕ) → true ≡ ltb i (length numbers) → n ≡ get_or numbers i n
    → drop i (map key_of_number numbers) ≡ key_of_number n ∷ drop (i + 1) (map key_of_number numbers)
found numbers i n b e =
    let h : i < length numbers = ltb-true _ _ (sym b) in
    rw (← map-drop key_of_number i numbers, drop-cons numbers i n, map-drop key_of_number (suc i) numbers, add-one i)
    (ap (λ (m : ℕ). key_of_number m ∷ drop (suc i) (map key_of_number numbers)) (sym e))

pub print_plain-p-requires : goal.print_plain-p-requires
print_plain-p-requires c =
    let next = rw (← c.from-k.ensures, c.in-Char.is) at (found _ _ _ c.in-Some.ensures.lookup.0 c.in-Some.ensures.lookup.1) in
    plain_room c.loop-number.invariant next c.if-g-lt-GATHER_ROOM.true (sym c.is_plain_key.ensures ∙ c.if-is_plain_key.true)

pub loop-number-preserved-in-loop-number : goal.loop-number-preserved-in-loop-number
loop-number-preserved-in-loop-number c =
    let next = rw (← c.from-k.ensures, c.in-Char.is) at (found _ _ _ c.in-Some.ensures.lookup.0 c.in-Some.ensures.lookup.1) in
    plain_turn c.loop-number.invariant next c.if-g-lt-GATHER_ROOM.true (sym c.is_plain_key.ensures ∙ c.if-is_plain_key.true) c.print_plain-p.ensures

pub take_up-t-requires : goal.take_up-t-requires
take_up-t-requires c =
    let same : c.in_default.k ≡ c.from-k.result = elim c.in_default.branch [
      | in_default-via-in-Line-1 w ↦ w.k-is
      | in_default-via-in-Char+else-g-lt-GATHER_ROOM w ↦ w.k-is ∙ sym w.in-Char.is
      | in_default-via-in-Char+then-g-lt-GATHER_ROOM+else-is_plain_key w ↦ w.k-is ∙ sym w.in-Char.is
    ] in
    let next = rw (← c.from-k.ensures, ← same) at (found _ _ _ c.in-Some.ensures.lookup.0 c.in-Some.ensures.lookup.1) in
    record { room_for = paper_room c.loop-number.invariant _ next; room_for_2 = wire_room c.loop-number.invariant _ next }

pub loop-number-preserved : goal.loop-number-preserved
loop-number-preserved c =
    let same : c.in_default.k ≡ c.from-k.result = elim c.in_default.branch [
      | in_default-via-in-Line-1 w ↦ w.k-is
      | in_default-via-in-Char+else-g-lt-GATHER_ROOM w ↦ w.k-is ∙ sym w.in-Char.is
      | in_default-via-in-Char+then-g-lt-GATHER_ROOM+else-is_plain_key w ↦ w.k-is ∙ sym w.in-Char.is
    ] in
    let next = rw (← c.from-k.ensures, ← same) at (found _ _ _ c.in-Some.ensures.lookup.0 c.in-Some.ensures.lookup.1) in
    turn c.loop-number.invariant _ next c.take_up-t.ensures c.if-t.false

pub returns : goal.returns
returns c = elim c.match-get.branch [
  | in_default w ↦
      let numbers = c.waiting_numbers-numbers.result.now in
      let none = ltb-false _ _ (sym w.in_default.ensures.lookup.0) in
      let passed : length (map key_of_number numbers) ≤ c.loop-number.i = simp length-map none in
      let short : length (numbers_in c.args.e) ≤ c.args.e.count = simp length-take (omega arith) in
      let past : length (map key_of_number numbers) ≤ c.args.e.count = simp length-map (rw c.waiting_numbers-numbers.ensures short) in
      rw (w.p-is, w.w-is, w.paper-is, w.wire-is)
      (ended c.args.e c.orders-o.ensures c.gathered_bytes-g.ensures c.waiting_numbers-numbers.ensures (all_gone c.loop-number.invariant c.args.e.count passed past)
      (rw (c.unwrap_or.ensures, c.is_some.ensures, w.stopped-is, w.g-is) at c.left.ensures))
  | in-Some+in_default+then-t w ↦
      let same : w.in_default.k ≡ w.from-k.result = elim w.in_default.branch [
        | in_default-via-in-Line-1 v ↦ v.k-is
        | in_default-via-in-Char+else-g-lt-GATHER_ROOM v ↦ v.k-is ∙ sym v.in-Char.is
        | in_default-via-in-Char+then-g-lt-GATHER_ROOM+else-is_plain_key v ↦ v.k-is ∙ sym v.in-Char.is
      ] in
      let next = rw (← w.from-k.ensures, ← same) at (found _ _ _ w.in-Some.ensures.lookup.0 w.in-Some.ensures.lookup.1) in
      rw (w.p-is, w.w-is, w.paper-is, w.wire-is)
      (ended c.args.e c.orders-o.ensures c.gathered_bytes-g.ensures c.waiting_numbers-numbers.ensures
      (broken c.loop-number.invariant _ next w.take_up-t.ensures w.if-t.true)
      (rw (c.unwrap_or.ensures, c.is_some.ensures, w.stopped-is, w.g-is) at c.left.ensures))
]
