-- How long a mended capture and its lines become.
use Rattle.std.specs.Prelude.{Ok, Err}
use mathlib.Core.Path.{◌≡◌, refl}
use mathlib.Core.Bool.{Bool, true, false}
use mathlib.Core.List.{List, [], ◌∷◌, ◌++◌, append-nil, append_assoc, flat_map}
use Prim.Native.Nat.{ℕ, ◌+◌, ◌*◌, ◌≤◌, ◌<◌}
use native.Mathlib.Omega.{arith}
use borrow.Author.Tests.{ltb-true, ltb-false}
use lib.Dec.{ltb}
use lib.ListN.{length, length-append}
use Rattle.lists.proofs.FlatMap.{flat_map-append}
use Rattle.decimals.specs.Decimals.{number_then}
use Rattle.decimals.proofs.Digits.{number_length, one_digit}
use Rattle.codes.specs.Telnet.{SPACE}
use Rattle.mending.specs.declared.Reason.{Reason}
use Rattle.mending.specs.declared.Reason.TheVariants.{Unfinished}
use Rattle.mending.specs.Judging.{Judged, judged}
use Rattle.mending.specs.Pieces.{Piece, pieces_of}
use Rattle.mending.specs.Mending.{Drop, bytes_of, copied, copied_of, mended, drop_of, drops_at, drop_line, lines_of}
use Rattle.mending.specs.Dropping.{MendingFits}
use Rattle.mending.proofs.Walk.{last_read, walk, pieces_joined, dropped_two, begun_some}

-- a number under 10 has one digit
number_short : (n then : ℕ) → n < 10 → length (number_then n then) ≤ 2
unfolding number_then
number_short n then h = simp (length-append, one_digit 5 n (λ z. omega (arith, z)) h) (omega arith)

-- a line has at most five bytes for each byte of its drop, where these are two or more
line_short : (d : Drop) (k : ℕ) → 10 ≤ 5 * d.size + k → length (drop_line d) ≤ 5 * d.size + k
unfolding drop_line
line_short d k h = simp length-append (go (ltb d.size 10) refl)
  where
    go : (t : Bool) → ltb d.size 10 ≡ t → length (number_then d.offset SPACE) + (length (number_then d.size SPACE) + 2) ≤ 5 * d.size + k
    go true e = omega (arith, number_length d.offset SPACE, number_short d.size SPACE (ltb-true d.size 10 e))
    go false e = omega (arith, number_length d.offset SPACE, number_length d.size SPACE, ltb-false d.size 10 e)

lines_short : (at size k : ℕ) (j : Judged) → ((reason : Reason) → j ≡ Err reason → 10 ≤ 5 * size + k) → length (lines_of (drop_of at size j)) ≤ 5 * size + k
unfolding flat_map
lines_short at size k (Ok u) h = omega arith
lines_short at size k (Err reason) h =
    let d : Drop = record { offset = at; size = size; reason = reason } in
    rw (append-nil (drop_line d)) (line_short d k (h reason refl))

lines_next : (at : ℕ) (p : Piece) (ps : List Piece)
    → length (lines_of (drops_at at (p ∷ ps))) ≡ length (lines_of (drop_of at (length p.bytes) p.judged)) + length (lines_of (drops_at (at + length p.bytes) ps))
unfolding drops_at
lines_next at p ps = rw (flat_map-append, length-append)

-- .. and five more where the last drop is one byte
lines_fit : (capture : List ℕ) (at : ℕ) → length (lines_of (drops_at at (pieces_of capture))) ≤ 5 * length capture + 5
unfolding drops_at flat_map
lines_fit =
    walk (λ capture ps. (at : ℕ) → length (lines_of (drops_at at ps)) ≤ 5 * length capture + 5) (λ at. omega arith)
    (λ begun u at. lines_short at (length begun) 5 (Err Unfinished) (λ reason e. omega (arith, begun_some begun u)))
    (λ begun b rest w ih at.
    let now = begun ++ b ∷ [] in
    let here = lines_short at (length now) 0 (judged (last_read begun b)) (λ reason e. omega (arith, dropped_two begun b reason w e)) in
    rw (lines_next, ← append_assoc begun (b ∷ []) rest, length-append now rest) (omega (arith, here, ih (at + length now))))

copied_short : (bytes : List ℕ) (j : Judged) → length (copied_of bytes j) ≤ length bytes
copied_short bytes (Ok u) = omega arith
copied_short bytes (Err reason) = omega arith

copied_fit : (ps : List Piece) → length (flat_map copied ps) ≤ length (flat_map bytes_of ps)
unfolding flat_map
copied_fit [] = omega arith
copied_fit (p ∷ ps) = simp length-append (omega (arith, copied_short p.bytes p.judged, copied_fit ps))

pub mending_fits : MendingFits
mending_fits capture h =
    let mends : length (mended capture) ≤ length capture = rw (pieces_joined capture) at (copied_fit (pieces_of capture)) in
    (mends, omega (arith, lines_fit capture 0))
