-- A taken key's bytes: what goes out before them, what is gathered with them, and what goes out then.
use mathlib.Core.Path.{◌≡◌, refl}
use mathlib.Core.Bool.{Bool, true, false, cond}
use mathlib.Core.List.{List, [], append-nil}
use Prim.Native.Nat.{ℕ, ◌+◌, ◌≤◌}
use native.Mathlib.Omega.{arith}
use lib.ListN.{length, length-append}
use borrow.Author.Tests.{ltb-false}
use Rattle.lists.specs.Buffers.{Lent, lent_as, WroteAtStart, RoomFor}
use Rattle.lists.proofs.Parts.{rest_of, with_rest, part_room, wrote_then}
use Rattle.keys.specs.declared.Key.{Key}
use Rattle.keys.specs.Keys.{key_wire}
use Rattle.keys.proofs.Packing.{wire_most}
use Rattle.rcte.specs.Taking.{OrdersState, taken_up, overflows, sent_first, gathered_with, flushes}
use Rattle.rcte.specs.Refinement.{stays_first}

-- the key's bytes fit behind those that stay
pub kept_room : (g : List ℕ) (k : Key) → length g ≤ 512 → length (stays_first g k) + length (key_wire k) ≤ 512
kept_room g k h = go (overflows g k) refl
  where
    go : (b : Bool) → overflows g k ≡ b → length (cond b [] g) + length (key_wire k) ≤ 512
    go true e = omega (arith, wire_most k)
    go false e = omega (arith, ltb-false 512 (length g + length (key_wire k)) e)

module _ (o : OrdersState) (g : List ℕ) (k : Key) where
  pub first_room : (wire : List ℕ) → RoomFor (taken_up o g k).wire wire → RoomFor (sent_first g k) wire
  unfolding taken_up
  first_room wire room = omega (arith, simp length-append at room)

  module _ {wire : Lent} {n : ℕ} (room : RoomFor (taken_up o g k).wire wire.before) (flushed : flushes o k ≡ true) (w : WroteAtStart (sent_first g k) wire n) where
    pub rest_room : RoomFor (gathered_with g k) (rest_of wire n)
    unfolding taken_up
    rest_room = part_room w (first_room wire.before room) (gathered_with g k) (rw flushed at room)

    pub all_sent : {last : List ℕ} {m : ℕ} → WroteAtStart (gathered_with g k) (lent_as (rest_of wire n) last) m
        → WroteAtStart (taken_up o g k).wire (with_rest wire n last) (n + m)
    unfolding taken_up
    all_sent {last} {m} v = rw flushed (wrote_then w (first_room wire.before room) (gathered_with g k) last m v)

  pub none_left : flushes o k ≡ true → (taken_up o g k).gathered ≡ []
  unfolding taken_up
  none_left e = rw e

  pub first_sent : {wire : Lent} {n : ℕ} → flushes o k ≡ false → WroteAtStart (sent_first g k) wire n → WroteAtStart (taken_up o g k).wire wire n
  unfolding taken_up
  first_sent e w = rw (e, append-nil) w

  pub all_left : flushes o k ≡ false → (taken_up o g k).gathered ≡ gathered_with g k
  unfolding taken_up
  all_left e = rw e
