-- The loop over the parts: what is written, and what the rest is written as, are the whole.
use mathlib.Core.Path.{◌≡◌, refl}
use mathlib.Core.List.{List, [], ◌++◌, flat_map}
use Prim.Native.Nat.{ℕ, ◌+◌, ◌-◌, ◌≤◌}
use native.Mathlib.Omega.{arith}
use lib.ListN.{length, drop, length-drop, length-take, drop_of_length-le}
use lib.Seq.{drop-drop}
use Rattle.lists.specs.Buffers.{Lent, lent_as, untouched, RoomFor}
use Rattle.lists.proofs.Parts.{rest_of, with_rest}
use Rattle.lists.proofs.Filling.{Filling, nothing_filled, all_filled, room_done, still_long, room_next, more_filled}
use Rattle.mending.specs.declared.Scanned.{Scanned}
use Rattle.mending.specs.declared.Outcome.TheVariants.{Mended}
use Rattle.mending.specs.Pieces.{pieces_from, pieces_of}
use Rattle.mending.specs.Mending.{copied, drops_at, lines_of, mended, drops, mends_to}
use Rattle.mending.specs.Refinement.{Scan, part_scan, RefinesScan, RefinesAnswer}
use Rattle.mending.proofs.Scans.{behind, behind_drop}
use Rattle.mending.proofs.HandOver.{scan_within}
use Rattle.mending.proofs.ByParts.{bytes_left, lines_left}

abbrev bytes_from : ℕ → List ℕ → List ℕ
bytes_from at capture = flat_map copied (pieces_of (drop at capture))

abbrev lines_from : ℕ → List ℕ → List ℕ
lines_from at capture = lines_of (drops_at at (pieces_of (drop at capture)))

pub record Going (capture : List ℕ) (out list : Lent) (at written listed : ℕ) : Type 0 where
  pub within : at ≤ length capture
  pub bytes : Filling (mended capture) (bytes_from at capture) out written
  pub lines : Filling (lines_of (drops capture)) (lines_from at capture) list listed

pub begun : (capture out list : List ℕ) → Going capture (untouched out) (untouched list) 0 0 0
begun capture out list = record { within = omega arith; bytes = nothing_filled _ out; lines = nothing_filled _ list }

module _ {capture : List ℕ} {out list : Lent} {at written listed : ℕ} (g : Going capture out list at written listed)
    (room : RoomFor (mended capture) out.before) (room-list : RoomFor (lines_of (drops capture)) list.before) where
  pub places : (written ≤ length out.after) × (listed ≤ length list.after)
  places = (
    omega (arith, room_done g.bytes room, still_long g.bytes room),
    omega (arith, room_done g.lines room-list, still_long g.lines room-list),
  )

  module _ (part : ℕ) where
    abbrev scan : Scan
    scan = part_scan at part (behind at capture)

    bytes_next : Filling (mended capture) (scan.bytes ++ bytes_from (at + scan.taken) capture) out written
    bytes_next =
        let rest = drop at capture in
        rw (behind_drop at capture, ← drop-drop (part_scan at part rest).taken at capture) (rw (bytes_left at part rest) at g.bytes)

    lines_next : Filling (lines_of (drops capture)) (scan.lines ++ lines_from (at + scan.taken) capture) list listed
    lines_next =
        let rest = drop at capture in
        rw (behind_drop at capture, ← drop-drop (part_scan at part rest).taken at capture) (rw (lines_left at part rest) at g.lines)

    pub scan_rooms : RoomFor scan.bytes (rest_of out written) × RoomFor scan.lines (rest_of list listed)
    scan_rooms = (room_next scan.bytes (bytes_from (at + scan.taken) capture) bytes_next room, room_next scan.lines (lines_from (at + scan.taken) capture) lines_next room-list)

    module _ {last last_lines : List ℕ} {s : Scanned} (v : RefinesScan scan (lent_as (rest_of out written) last) (lent_as (rest_of list listed) last_lines) s) where
      pub scan_far : at + s.taken ≤ length capture
      scan_far = omega (arith, g.within, v.taken, scan_within at part (behind at capture), length-take (length capture - at) (drop at capture), length-drop at capture)

      pub goes_on : Going capture (with_rest out written last) (with_rest list listed last_lines) (at + s.taken) (written + s.written) (listed + s.listed)
      goes_on = record {
        within = scan_far;
        bytes = rw v.taken (more_filled scan.bytes (bytes_from (at + scan.taken) capture) bytes_next room last s.written v.bytes);
        lines = rw v.taken (more_filled scan.lines (lines_from (at + scan.taken) capture) lines_next room-list last_lines s.listed v.lines);
      }

  pub all_done : length capture ≤ at
      → RefinesAnswer (mends_to Mended (mended capture) (lines_of (drops capture))) out list (record { outcome = Mended; written = written; listed = listed })
  unfolding pieces_from flat_map drops_at
  all_done h =
      let none : drop at capture ≡ [] = drop_of_length-le capture {i = at} h in
      record { outcome = refl; bytes = all_filled (rw none at g.bytes); lines = all_filled (rw none at g.lines) }
