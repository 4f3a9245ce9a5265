-- A scanner that has written what stands at the front hands the rest over: there is room for it, and both are the whole.
use mathlib.Core.Path.{◌≡◌, refl}
use mathlib.Core.List.{List, [], ◌∷◌, ◌++◌, flat_map}
use Prim.Native.Nat.{ℕ, zero, suc, ◌+◌, ◌-◌, ◌≤◌, ◌<◌}
use native.Mathlib.Omega.{arith}
use lib.ListN.{length, length-append}
use Rattle.lists.specs.Buffers.{Lent, lent_as, WroteAtStart, RoomFor}
use Rattle.lists.proofs.Parts.{rest_of, with_rest}
use Rattle.lists.proofs.Behind.{room_front, rest_start, rest_room, wrote_both, both_within}
use Rattle.mending.specs.declared.Scanned.{Scanned}
use Rattle.mending.specs.Pieces.{Piece, pieces_of}
use Rattle.mending.specs.Mending.{bytes_of}
use Rattle.mending.specs.Refinement.{up_to, Scan, ahead, run_of, piece_scan, part_scan, both_scanned, RefinesScan}
use Rattle.mending.proofs.Walk.{pieces_joined}
use Rattle.mending.proofs.Scans.{behind, text_scan, piece_scan_lem}

up_to_short : (part : ℕ) (ps : List Piece) → length (flat_map bytes_of (up_to part ps)) ≤ length (flat_map bytes_of ps)
unfolding up_to flat_map
up_to_short part [] = omega arith
up_to_short zero (p ∷ ps) = omega arith
up_to_short (suc n) (p ∷ ps) = simp length-append (omega (arith, up_to_short (suc n - length p.bytes) ps))

-- a scan takes no more than there is
pub scan_within : (at part : ℕ) (rest : List ℕ) → (part_scan at part rest).taken ≤ length rest
scan_within at part rest = rw (pieces_joined rest) at (up_to_short part (pieces_of rest))

-- room for an equal scan
bytes_room : (s t : Scan) (out : List ℕ) → s ≡ t → RoomFor s.bytes out → RoomFor t.bytes out
bytes_room s t out e room = rw (← e) room

lines_room : (s t : Scan) (list : List ℕ) → s ≡ t → RoomFor s.lines list → RoomFor t.lines list
lines_room s t list e room = rw (← e) room

-- behind text
module _ (at part : ℕ) (rest : List ℕ) {out : Lent} {n : ℕ} (w : WroteAtStart (run_of part rest) out n) (room : RoomFor (part_scan at part rest).bytes out.before) where
  abbrev pub text_next : Scan
  text_next = part_scan (at + n) (part - n) (behind n rest)

  split : part_scan at part rest ≡ ahead n (run_of part rest) [] text_next
  split = text_scan at part rest n w.count

  whole_room : RoomFor (run_of part rest ++ text_next.bytes) out.before
  whole_room = bytes_room (part_scan at part rest) (ahead n (run_of part rest) [] text_next) out.before split room

  pub text_start : n ≤ length out.after
  text_start = rest_start w text_next.bytes whole_room

  pub text_next_room : RoomFor text_next.bytes (rest_of out n)
  text_next_room = rest_room w text_next.bytes whole_room

  pub text_next_lines : (list : List ℕ) → RoomFor (part_scan at part rest).lines list → RoomFor text_next.lines list
  text_next_lines list room-list = lines_room (part_scan at part rest) (ahead n (run_of part rest) [] text_next) list split room-list

  module _ {last : List ℕ} {list : Lent} {s : Scanned} (v : RefinesScan text_next (lent_as (rest_of out n) last) list s) where
    pub text_both : RefinesScan (part_scan at part rest) (with_rest out n last) list (both_scanned (record { taken = n; written = n; listed = 0 }) s)
    text_both =
        let none : 0 + s.listed ≡ s.listed = omega arith in
        rw split (record {
          taken = rw v.taken;
          bytes = wrote_both w text_next.bytes whole_room v.bytes;
          lines = rw none v.lines;
        })

    pub text_written : n + s.written ≤ length out.before
    text_written = both_within w text_next.bytes whole_room v.bytes

pub run_room : (at part : ℕ) (rest out : List ℕ) → RoomFor (part_scan at part rest).bytes out → RoomFor (run_of part rest) out
run_room at part rest out room =
    let split = text_scan at part rest (length (run_of part rest)) refl in
    room_front (run_of part rest) _ out (bytes_room (part_scan at part rest) _ out split room)

-- behind a piece
module _ (at part : ℕ) (rest : List ℕ) (some : 0 < length rest) (on : 0 < part) where
  abbrev first : Scan
  first = piece_scan at rest

  pub piece_rooms : (out list : List ℕ) → RoomFor (part_scan at part rest).bytes out → RoomFor (part_scan at part rest).lines list
      → RoomFor first.bytes out × RoomFor first.lines list
  piece_rooms out list room room-list =
      let e = piece_scan_lem at part rest some on in (
        room_front first.bytes _ out (bytes_room (part_scan at part rest) _ out e room),
        room_front first.lines _ list (lines_room (part_scan at part rest) _ list e room-list),
      )

  module _ {out list : Lent} {p : Scanned} (w : RefinesScan first out list p)
      (room : RoomFor (part_scan at part rest).bytes out.before) (room-list : RoomFor (part_scan at part rest).lines list.before) where
    abbrev pub piece_next : Scan
    piece_next = part_scan (at + p.taken) (part - p.taken) (behind p.taken rest)

    cut : part_scan at part rest ≡ ahead p.taken first.bytes first.lines piece_next
    cut = rw w.taken (piece_scan_lem at part rest some on)

    all_bytes : RoomFor (first.bytes ++ piece_next.bytes) out.before
    all_bytes = bytes_room (part_scan at part rest) (ahead p.taken first.bytes first.lines piece_next) out.before cut room

    all_lines : RoomFor (first.lines ++ piece_next.lines) list.before
    all_lines = lines_room (part_scan at part rest) (ahead p.taken first.bytes first.lines piece_next) list.before cut room-list

    pub piece_start : (p.written ≤ length out.after) × (p.listed ≤ length list.after)
    piece_start = (rest_start w.bytes piece_next.bytes all_bytes, rest_start w.lines piece_next.lines all_lines)

    pub piece_next_room : RoomFor piece_next.bytes (rest_of out p.written) × RoomFor piece_next.lines (rest_of list p.listed)
    piece_next_room = (rest_room w.bytes piece_next.bytes all_bytes, rest_room w.lines piece_next.lines all_lines)

    module _ {last last_lines : List ℕ} {s : Scanned}
        (v : RefinesScan piece_next (lent_as (rest_of out p.written) last) (lent_as (rest_of list p.listed) last_lines) s) where
      pub piece_both : RefinesScan (part_scan at part rest) (with_rest out p.written last) (with_rest list p.listed last_lines)
          (both_scanned p s)
      piece_both = rw cut (record {
        taken = rw v.taken;
        bytes = wrote_both w.bytes piece_next.bytes all_bytes v.bytes;
        lines = wrote_both w.lines piece_next.lines all_lines v.lines;
      })

      pub piece_written : (p.written + s.written ≤ length out.before) × (p.listed + s.listed ≤ length list.before)
      piece_written = (both_within w.bytes piece_next.bytes all_bytes v.bytes, both_within w.lines piece_next.lines all_lines v.lines)
