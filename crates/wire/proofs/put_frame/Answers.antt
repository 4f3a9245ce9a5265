use mathlib.Core.List.{List, [], ◌∷◌, ◌++◌}
use Prim.Native.Nat.{ℕ, ◌≤◌, ◌+◌}
use native.Mathlib.Omega.{arith}
use lib.ListN.{length, length-append}
use Rattle.lists.specs.Buffers.{lent_as, WroteAtStart, RoomFor}
use Rattle.lists.proofs.Parts.{rest_of, with_rest, wrote_then, part_room}
use Rattle.wire.specs.Frames.{doubled, frame}
use Rattle.wire.proofs.put_frame.Goals as goal

-- IAC SB, and IAC SE
abbrev start : List ℕ
start = 255 ∷ 250 ∷ []

abbrev end : List ℕ
end = 255 ∷ 240 ∷ []

module _ (body out : List ℕ) (room : RoomFor (frame body) out) where
  -- a frame is four bytes longer than its doubled body
  room_all : length (doubled body) + 4 ≤ length out
  unfolding frame
  room_all = omega (arith, simp length-append at room)

  room_start : RoomFor start out
  room_start = omega (arith, room_all)

  room_body : RoomFor (start ++ doubled body) out
  room_body = simp length-append (omega (arith, room_all))

  room_end : RoomFor ((start ++ doubled body) ++ end) out
  room_end = simp length-append (omega (arith, room_all))

  module _ {o : List ℕ} {n : ℕ} (begun : WroteAtStart start (lent_as out o) n) where
    body_fits : RoomFor (doubled body) (rest_of (lent_as out o) n)
    body_fits = part_room begun room_start (doubled body) room_body

    module _ {p : List ℕ} {m : ℕ} (inside : WroteAtStart (doubled body) (lent_as (rest_of (lent_as out o) n) p) m) where
      filled : WroteAtStart (start ++ doubled body) (with_rest (lent_as out o) n p) (n + m)
      filled = wrote_then begun room_start (doubled body) p m inside

      end_fits : RoomFor end (rest_of (with_rest (lent_as out o) n p) (n + m))
      end_fits = part_room filled room_body end room_end

      closed : (q : List ℕ) (k : ℕ) → WroteAtStart end (lent_as (rest_of (with_rest (lent_as out o) n p) (n + m)) q) k
          → WroteAtStart (frame body) (with_rest (with_rest (lent_as out o) n p) (n + m) q) (n + m + k)
      unfolding frame
      closed q k last = wrote_then filled room_body end q k last

pub put_bytes-n-requires : goal.put_bytes-n-requires
put_bytes-n-requires c = room_start c.args.body.now c.args.out.now c.requires

pub put_doubled-n-requires : goal.put_doubled-n-requires
put_doubled-n-requires c = body_fits c.args.body.now c.args.out.now c.requires c.put_bytes-n.ensures

pub put_bytes-requires : goal.put_bytes-requires
put_bytes-requires c = end_fits c.args.body.now c.args.out.now c.requires c.put_bytes-n.ensures c.put_doubled-n.ensures

pub returns : goal.returns
returns c = closed c.args.body.now c.args.out.now c.requires c.put_bytes-n.ensures c.put_doubled-n.ensures _ _ c.put_bytes.ensures
