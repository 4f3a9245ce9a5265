-- A capture part by part: what is left behind the pieces of a part, and what is written of it.
use mathlib.Core.Path.{◌≡◌, refl, sym, ap, ◌∙◌}
use mathlib.Core.List.{List, [], ◌∷◌, ◌++◌, flat_map, append_assoc, append-nil}
use Prim.Native.Nat.{ℕ, zero, suc, ◌+◌, ◌-◌, ◌<◌}
use native.Mathlib.Omega.{arith}
use lib.ListN.{length, drop, length-append}
use lib.Seq.{drop-append-add, drop-length}
use Rattle.lists.proofs.FlatMap.{flat_map-append}
use Rattle.mending.specs.Pieces.{Piece, pieces_from, pieces_of}
use Rattle.mending.specs.Mending.{bytes_of, copied, drops_at, drop_line, lines_of}
use Rattle.mending.specs.Refinement.{up_to, Scan, part_scan}
use Rattle.mending.proofs.Walk.{walk, Begun, Whole, cut_piece, whole_piece, cut_piece_lem, first_piece}
use Rattle.mending.proofs.FirstFound.{found_size}
use Rattle.mending.proofs.Scans.{piece_scan_lem}

abbrev taken : ℕ → List Piece → ℕ
taken part ps = length (flat_map bytes_of (up_to part ps))

-- the pieces behind a part are those of what is left of the capture
abbrev Parted : List ℕ → List Piece → Type 0
Parted capture ps = (part : ℕ) → ps ≡ up_to part ps ++ pieces_of (drop (taken part ps) capture)

parted_cut : (begun : List ℕ) → Begun begun → Parted begun (cut_piece begun ∷ [])
unfolding up_to flat_map pieces_from
parted_cut begun u zero = sym (cut_piece_lem begun u)
parted_cut begun u (suc n) = rw (append-nil begun, drop-length begun)

parted_piece : (begun : List ℕ) (b : ℕ) (rest : List ℕ) → Whole begun b → Parted rest (pieces_of rest) → Parted (begun ++ b ∷ rest) (whole_piece begun b ∷ pieces_of rest)
unfolding up_to flat_map
parted_piece begun b rest w ih zero = sym (first_piece begun b rest w)
parted_piece begun b rest w ih (suc n) =
    let now = begun ++ b ∷ [] in
    let part = suc n - length now in
    rw (← append_assoc begun (b ∷ []) rest, length-append now (flat_map bytes_of (up_to part (pieces_of rest))), drop-append-add now rest (taken part (pieces_of rest)))
    (ap (λ (ps : List Piece). whole_piece begun b ∷ ps) (ih part))

parted : (capture : List ℕ) → Parted capture (pieces_of capture)
unfolding up_to pieces_from flat_map
parted = walk Parted (λ part. refl) parted_cut parted_piece

drops_append : (at : ℕ) (ps qs : List Piece) → drops_at at (ps ++ qs) ≡ drops_at at ps ++ drops_at (at + length (flat_map bytes_of ps)) qs
unfolding drops_at flat_map
drops_append at [] qs = let e : at + 0 ≡ at = omega arith in rw e
drops_append at (p ∷ ps) qs =
    let size = length p.bytes in
    let e : at + size + length (flat_map bytes_of ps) ≡ at + (size + length (flat_map bytes_of ps)) = omega arith in
    rw (drops_append (at + size) ps qs, length-append p.bytes (flat_map bytes_of ps), ← e, append_assoc)

module _ (at part : ℕ) (rest : List ℕ) where
  abbrev scan : Scan
  scan = part_scan at part rest

  pub bytes_left : flat_map copied (pieces_of rest) ≡ scan.bytes ++ flat_map copied (pieces_of (drop scan.taken rest))
  bytes_left = ap (flat_map copied) (parted rest part) ∙ flat_map-append copied (up_to part (pieces_of rest)) (pieces_of (drop scan.taken rest))

  pub lines_left : lines_of (drops_at at (pieces_of rest)) ≡ scan.lines ++ lines_of (drops_at (at + scan.taken) (pieces_of (drop scan.taken rest)))
  lines_left =
      let ps = up_to part (pieces_of rest) in
      let qs = pieces_of (drop scan.taken rest) in
      ap (λ (xs : List Piece). lines_of (drops_at at xs)) (parted rest part)
      ∙ (ap lines_of (drops_append at ps qs) ∙ flat_map-append drop_line (drops_at at ps) (drops_at (at + scan.taken) qs))

  -- a part is never empty
  pub scan_some : 0 < length rest → 0 < part → 0 < scan.taken
  scan_some some on = omega (arith, ap (λ (s : Scan). s.taken) (piece_scan_lem at part rest some on), (found_size rest some).1)
