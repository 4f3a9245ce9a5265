-- Claims about what is dropped and what is left, over the pieces alone.
use Rattle.std.specs.Prelude.{◌≡◌, false, List, [], ◌∷◌, ◌++◌, ℕ, ◌+◌, ◌-◌, ◌≤◌, ◌<◌, length, take, drop}
use Rattle.decimals.specs.Decimals.{Reads}
use Rattle.wire.specs.Frames.{frame}
use Rattle.reader.specs.Reading.{body_room}
use Rattle.mending.specs.Judging.{body_judged}
use Rattle.mending.specs.Pieces.{piece_of, pieces_of}
use Rattle.mending.specs.Mending.{Drop, mended, drops, lines_of, capture_room, list_room}

-- bytes, of which the first stands at an offset, without those of drops
unfoldable pub without : ℕ → List Drop → List ℕ → List ℕ
without at [] bytes = bytes
without at (d ∷ ds) bytes =
    let gap = d.offset - at in
    take gap bytes ++ without (d.offset + d.size) ds (drop (gap + d.size) bytes)

-- drops from an offset on up to an end: in order, none of them empty, and none that overlaps another
unfoldable pub InOrder : ℕ → List Drop → ℕ → Type 0
InOrder at [] end = at ≤ end
InOrder at (d ∷ ds) end = (at ≤ d.offset) × (0 < d.size) × InOrder (d.offset + d.size) ds end

-- Assumed: any capture. Promised: what it is mended to is the bytes that no drop has, in their order; each drop begins behind the
-- end of the one before, and lies within the capture. Ruled out: a byte lost without a line; a line for bytes that were copied.
abbrev pub MendedIsWithoutDrops : Type 0
MendedIsWithoutDrops = (capture : List ℕ) → mended capture ≡ without 0 (drops capture) capture

abbrev pub DropsInOrder : Type 0
DropsInOrder = (capture : List ℕ) → InOrder 0 (drops capture) (length capture)

-- Assumed: a capture with nothing to drop. Promised: it comes out unchanged. Ruled out: text that is written another way; a
-- command that is left out without a drop.
abbrev pub NothingToDrop : Type 0
NothingToDrop = (capture : List ℕ) → drops capture ≡ [] → mended capture ≡ capture

-- Assumed: any capture. Promised: a mended one has nothing to drop, and so mending it again changes nothing. Ruled out: an IAC
-- that is copied in front of text, and makes a command of its first byte; a body that is dropped without its IAC SE.
abbrev pub MendedTwice : Type 0
MendedTwice = (capture : List ℕ) → (drops (mended capture) ≡ []) × (mended (mended capture) ≡ mended capture)

-- Assumed: a body of at most 260 bytes, and anything behind its frame. Promised: the frame is one piece, judged by its body
-- alone. Ruled out: a frame that is cut at a doubled 255; a judgement that asks for what stands behind the frame.
abbrev pub FrameIsPiece : Type 0
FrameIsPiece = (body rest : List ℕ) → length body ≤ body_room
    → pieces_of (frame body ++ rest) ≡ piece_of (frame body) (body_judged false body) ∷ pieces_of rest

-- Assumed: a capture that is not too long. Promised: a mended capture is no longer than the capture, and its lines fit the buffer
-- that the call asks for. Ruled out: lines without a bound; an IAC that is doubled as it is copied.
abbrev pub MendingFits : Type 0
MendingFits = (capture : List ℕ) → length capture ≤ capture_room
    → (length (mended capture) ≤ length capture) × (length (lines_of (drops capture)) ≤ list_room)

-- the numbers in the lines of drops are those of the drops
unfoldable pub ToldWhole : List Drop → Type 0
ToldWhole [] = Unit {0}
ToldWhole (d ∷ ds) = Reads d.offset × Reads d.size × ToldWhole ds

-- Assumed: a capture that is not too long. Promised: each drop's offset and size are told whole. Ruled out: a number
-- cut to four digits; digits in the wrong order.
abbrev pub DropsToldWhole : Type 0
DropsToldWhole = (capture : List ℕ) → length capture ≤ capture_room → ToldWhole (drops capture)
