-- A reply, and behind it what follows as a side moves.
use mathlib.Core.List.{List}
use Prim.Native.Nat.{ℕ, ◌+◌, ◌≤◌}
use native.Mathlib.Omega.{arith}
use lib.ListN.{length, length-append}
use Rattle.lists.specs.Buffers.{Lent, lent_as, WroteAtStart, RoomFor}
use Rattle.lists.proofs.Parts.{rest_of, with_rest, wrote_then, part_room, counted, same_long}
use Rattle.negotiation.specs.declared.Side.{Side}
use Rattle.negotiation.specs.declared.OptionState.{OptionState}
use Rattle.printer.specs.State.{PrinterState}
use Rattle.printer.specs.Network.{side_moved, moved_with_reply}

module _ (s : PrinterState) (side : Side) (q : OptionState) (reply : List ℕ) where
  pub room_reply : (wire : List ℕ) → RoomFor (moved_with_reply s side q reply).wire wire → RoomFor reply wire
  room_reply wire room = omega (arith, simp length-append at room)

  module _ {wire : Lent} {n : ℕ} (room : RoomFor (moved_with_reply s side q reply).wire wire.before) (w : WroteAtStart reply wire n) where
    fits : RoomFor reply wire.before
    fits = room_reply wire.before room

    module _ {last : List ℕ} {m : ℕ} (v : WroteAtStart (side_moved s side q).wire (lent_as (rest_of wire n) last) m) where
      pub both_wrote : WroteAtStart (moved_with_reply s side q reply).wire (with_rest wire n last) (n + m)
      both_wrote = wrote_then w fits (side_moved s side q).wire last m v
