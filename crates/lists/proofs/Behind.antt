-- Two encoders one behind the other, the second in the rest of the first one's buffer, where all fits.
use mathlib.Core.List.{List, [], ◌∷◌, ◌++◌}
use Prim.Native.Nat.{ℕ, ◌+◌, ◌≤◌, ◌<◌}
use native.Mathlib.Omega.{arith}
use lib.ListN.{length, set, length-append}
use Rattle.lists.specs.Buffers.{Lent, lent_as, WroteAtStart, RoomFor}
use Rattle.lists.proofs.Parts.{rest_of, with_rest, same_long, counted, part_room, wrote_then, wrote_more}

pub room_front : (a b before : List ℕ) → RoomFor (a ++ b) before → RoomFor a before
room_front a b before room = omega (arith, simp length-append at room)

module _ {a : List ℕ} {out : Lent} {n : ℕ} (w : WroteAtStart a out n) where
  module _ (b : List ℕ) (room : RoomFor (a ++ b) out.before) where
    -- the rest begins within the buffer
    pub rest_start : n ≤ length out.after
    rest_start = omega (arith, w.count, same_long w (room_front a b out.before room), room_front a b out.before room)

    pub rest_room : RoomFor b (rest_of out n)
    rest_room = part_room w (room_front a b out.before room) b room

    module _ {last : List ℕ} {k : ℕ} (v : WroteAtStart b (lent_as (rest_of out n) last) k) where
      pub wrote_both : WroteAtStart (a ++ b) (with_rest out n last) (n + k)
      wrote_both = wrote_then w (room_front a b out.before room) b last k v

      pub both_within : n + k ≤ length out.before
      both_within = counted wrote_both room

  -- the same for one byte stored
  module _ (x : ℕ) (room : RoomFor (a ++ x ∷ []) out.before) where
    pub last_inside : n < length out.before
    last_inside = omega (arith, w.count, simp length-append at room)

    pub last_place : n < length out.after
    last_place = omega (arith, last_inside, same_long w (room_front a (x ∷ []) out.before room))

    pub wrote_last : WroteAtStart (a ++ x ∷ []) (lent_as out.before (set out.after n x)) (n + 1)
    wrote_last = wrote_more w (room_front a (x ∷ []) out.before room) x last_inside
