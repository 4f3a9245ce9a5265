-- A capture mended: the pieces that are copied, and a line for each that is dropped.
use Rattle.std.specs.Prelude.{Bool, ◌||◌, cond, ℕ, ◌+◌, ◌*◌, length, ltb, Ok, Err}
use mathlib.Core.List.{List, [], ◌∷◌, ◌++◌, flat_map}
use Rattle.codes.specs.Telnet.{SPACE, LF}
use Rattle.decimals.specs.Decimals.{number_then}
use Rattle.mending.specs.declared.Reason.{Reason}
use Rattle.mending.specs.declared.Reason.TheVariants.{Unreadable, Stray, Unfinished}
use Rattle.mending.specs.Judging.{Judged}
use Rattle.mending.specs.declared.Outcome.{Outcome}
use Rattle.mending.specs.declared.Outcome.TheVariants.{Mended, TooLong, NoRoom}
use Rattle.mending.specs.Pieces.{Piece, pieces_of}

-- a drop: where it stands in the capture, how many bytes it has, and why
pub record Drop : Type 0 where
  pub offset : ℕ
  pub size : ℕ
  pub reason : Reason

abbrev pub copied_of : List ℕ → Judged → List ℕ
copied_of bytes (Ok u) = bytes
copied_of bytes (Err reason) = []

abbrev pub drop_of : (offset size : ℕ) → Judged → List Drop
drop_of offset size (Ok u) = []
drop_of offset size (Err reason) = record { offset = offset; size = size; reason = reason } ∷ []

abbrev pub bytes_of : Piece → List ℕ
bytes_of p = p.bytes

abbrev pub copied : Piece → List ℕ
copied p = copied_of p.bytes p.judged

-- the drops among pieces that begin at an offset
unfoldable pub drops_at : ℕ → List Piece → List Drop
drops_at at [] = []
drops_at at (p ∷ ps) = drop_of at (length p.bytes) p.judged ++ drops_at (at + length p.bytes) ps

abbrev pub mended : List ℕ → List ℕ
mended capture = flat_map copied (pieces_of capture)

abbrev pub drops : List ℕ → List Drop
drops capture = drops_at 0 (pieces_of capture)

-- how a reason is told: a note's number, or E
abbrev pub reason_mark : Reason → ℕ
reason_mark Unreadable = 49
reason_mark Stray = 52
reason_mark Unfinished = 69

-- `offset size reason`
unfoldable pub drop_line : Drop → List ℕ
drop_line d = number_then d.offset SPACE ++ (number_then d.size SPACE ++ reason_mark d.reason ∷ LF ∷ [])

abbrev pub lines_of : List Drop → List ℕ
lines_of ds = flat_map drop_line ds

-- `too long`
abbrev pub too_long : List ℕ
too_long = 116 ∷ 111 ∷ 111 ∷ 32 ∷ 108 ∷ 111 ∷ 110 ∷ 103 ∷ LF ∷ []

-- a longer capture is not mended
abbrev pub capture_room : ℕ
capture_room = 65536

-- Lines have at most five bytes for each byte that is dropped, and five more where a single IAC is left at the end.
abbrev pub list_room : ℕ
list_room = 5 * capture_room + 5

-- what the call does: the outcome, and the bytes at the start of the two lent buffers
pub record MendEffect : Type 0 where
  pub outcome : Outcome
  pub bytes : List ℕ
  pub lines : List ℕ

abbrev pub mends_to : Outcome → (bytes lines : List ℕ) → MendEffect
mends_to o bytes lines = record { outcome = o; bytes = bytes; lines = lines }

-- a buffer is under its room
abbrev pub lacks_room : (out list : ℕ) → Bool
lacks_room out list = ltb out capture_room || ltb list list_room

unfoldable pub mend_call : List ℕ → (out list : ℕ) → MendEffect
mend_call capture out list =
    cond (lacks_room out list) (mends_to NoRoom [] [])
    (cond (ltb capture_room (length capture)) (mends_to TooLong [] too_long)
    (mends_to Mended (mended capture) (lines_of (drops capture))))
