use Rattle.wire.specs.Frames.{coded, doubled}
use Rattle.lists.proofs.FlatMap.{flat_map-append, flat_map_next}
use Rattle.lists.proofs.Parts.{rest_of, with_rest, wrote_then, same_long, part_room, counted}
use Rattle.lists.proofs.Starts.{wrote_none}
use Rattle.lists.specs.Buffers.{Lent, lent_as, WroteAtStart, RoomFor}
use lib.Seq.{take-length}
use lib.ListN.{length, take, drop, get_or, length-append, take-append-drop}
use Prim.Native.Nat.{ℕ, ◌≤◌, ◌<◌, ◌+◌}
use mathlib.Core.List.{List, ◌++◌, flat_map}
use mathlib.Core.Path.{◌≡◌}
use native.Mathlib.Omega.{arith}
use Rattle.wire.proofs.put_doubled.Goals as goal

module _ (body : List ℕ) where
  -- a beginning of the body fits
  room-begin : (i : ℕ) (out : List ℕ) → RoomFor (doubled body) out → RoomFor (doubled (take i body)) out
  room-begin i out room =
      let all : doubled body ≡ doubled (take i body) ++ doubled (drop i body) = rw (← flat_map-append coded (take i body) (drop i body), take-append-drop i body) in
      omega (arith, simp length-append at (rw all at room))

  module _ {out : Lent} {n : ℕ} (room : RoomFor (doubled body) out.before) (i : ℕ) (w : WroteAtStart (doubled (take i body)) out n) where
    fits : RoomFor (doubled (take i body)) out.before
    fits = room-begin i out.before room

    -- the count written is within the buffer
    within : n ≤ length out.after
    within = omega (arith, w.count, same_long w fits, fits)

    module _ (lt : i < length body) where
      room_next : RoomFor (coded (get_or body i 0)) (rest_of out n)
      room_next = part_room w fits (coded (get_or body i 0)) (rw (← flat_map_next coded body i 0 lt) (room-begin (i + 1) out.before room))

      turn : {last : List ℕ} {k : ℕ} → WroteAtStart (coded (get_or body i 0)) (lent_as (rest_of out n) last) k
          → WroteAtStart (doubled (take (i + 1) body)) (with_rest out n last) (n + k)
      turn {last} {k} v = rw (flat_map_next coded body i 0 lt) (wrote_then w fits (coded (get_or body i 0)) last k v)

pub loop-b-init : goal.loop-b-init
unfolding flat_map
loop-b-init c = wrote_none _

pub slice_bounds-put_coded-count : goal.slice_bounds-put_coded-count
slice_bounds-put_coded-count c = within c.args.body.now c.requires c.loop-b.b-index c.loop-b.invariant

pub slice_bounds-put_coded-start : goal.slice_bounds-put_coded-start
slice_bounds-put_coded-start c = within c.args.body.now c.requires c.loop-b.b-index c.loop-b.invariant

pub put_coded-n-requires : goal.put_coded-n-requires
put_coded-n-requires c = room_next c.args.body.now c.requires c.loop-b.b-index c.loop-b.invariant c.loop-b-test.true

pub overflow_add-n : goal.overflow_add-n
overflow_add-n c =
    let body = c.args.body.now in
    let wrote = turn body c.requires c.loop-b.b-index c.loop-b.invariant c.loop-b-test.true c.put_coded-n.ensures in
    omega (arith, counted wrote (room-begin body (c.loop-b.b-index + 1) c.args.out.now c.requires), c.well_formed.1.0.0)

pub loop-b-preserved : goal.loop-b-preserved
loop-b-preserved c = turn c.args.body.now c.requires c.loop-b.b-index c.loop-b.invariant c.loop-b-test.true c.put_coded-n.ensures

pub returns : goal.returns
returns c =
    let e : c.loop-b.b-index ≡ length c.args.body.now = omega arith in
    rw take-length at (rw e at c.loop-b.invariant)
