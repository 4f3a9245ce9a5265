-- How a scan goes on: behind the first piece, behind a run of text, and where its part ends.
use Rattle.std.specs.Prelude.{Ok}
use mathlib.Core.Path.{◌≡◌, refl, ap, ◌∙◌}
use mathlib.Core.Bool.{Bool, true, false, cond}
use mathlib.Core.List.{List, [], ◌∷◌, flat_map, append-nil}
use Prim.Native.Nat.{ℕ, zero, suc, ◌+◌, ◌-◌, ◌≤◌, ◌<◌, min}
use native.Mathlib.Omega.{arith}
use borrow.Author.Tests.{not-true}
use lib.ListN.{length, take, drop, length-append, length-take, length-drop}
use lib.Seq.{take_all}
use lib.Dec.{eqb}
use Rattle.lists.specs.Fronts.{front}
use Rattle.lists.proofs.Fronts.{front_within}
use Rattle.lists.proofs.FlatMap.{flat_map-append}
use Rattle.codes.specs.Telnet.{IAC, not_iac}
use Rattle.reader.specs.Reading.{read}
use Rattle.mending.specs.Pieces.{Piece, piece_of, pieces_from, pieces_of}
use Rattle.mending.specs.Mending.{bytes_of, copied, drop_of, drops_at, drop_line}
use Rattle.mending.specs.Refinement.{first_found, up_to, Scan, ahead, run_of, piece_scan, part_scan, piece_lines}
use Rattle.mending.proofs.FirstFound.{found_piece, found_size}

-- nothing is taken
abbrev pub no_scan : Scan
no_scan = record { taken = 0; bytes = []; lines = [] }

pub scan_piece : (at part : ℕ) (rest tail : List ℕ) (p : Piece) → pieces_of rest ≡ p ∷ pieces_of tail → 0 < part
    → let size = length p.bytes in
    part_scan at part rest ≡ ahead size (copied p) (piece_lines at size p.judged) (part_scan (at + size) (part - size) tail)
unfolding up_to flat_map drops_at
scan_piece at zero rest tail p e h = absurd (omega arith)
scan_piece at (suc n) rest tail p e h =
    let size = length p.bytes in
    let more = up_to (suc n - size) (pieces_of tail) in
    rw (e, length-append p.bytes (flat_map bytes_of more), flat_map-append drop_line (drop_of at size p.judged) (drops_at (at + size) more))

up_to_zero : (ps : List Piece) → up_to zero ps ≡ []
unfolding up_to
up_to_zero [] = refl
up_to_zero (p ∷ ps) = refl

-- where a part ends, and where the capture does
pub scan_none : (at part : ℕ) (rest : List ℕ) → min part (length rest) ≡ 0 → part_scan at part rest ≡ no_scan
unfolding up_to pieces_from flat_map drops_at
scan_none at part [] e = refl
scan_none at zero (b ∷ bs) e = rw (up_to_zero (pieces_of (b ∷ bs)))
scan_none at (suc n) (b ∷ bs) e = absurd (omega arith)

-- a byte of text
char_piece : (b : ℕ) (bs : List ℕ) → not_iac b ≡ true → pieces_of (b ∷ bs) ≡ piece_of (b ∷ []) (Ok tt) ∷ pieces_of bs
unfolding pieces_from read
char_piece b bs h = rw (not-true (eqb b IAC) h)

ahead_one : (n : ℕ) (b : ℕ) (bytes : List ℕ) (s : Scan) → ahead 1 (b ∷ []) [] (ahead n bytes [] s) ≡ ahead (suc n) (b ∷ bytes) [] s
ahead_one n b bytes s = let e : 1 + (n + s.taken) ≡ suc n + s.taken = omega arith in rw e

-- a run that is one byte longer
longer : (n most at part b : ℕ) (bs : List ℕ) → suc n ≤ part → (t : Bool) → not_iac b ≡ t → suc n ≤ cond t (suc (front not_iac (take most bs))) 0
    → (n ≤ front not_iac (take most bs) → part_scan (at + 1) (part - 1) bs ≡ ahead n (take n bs) [] (part_scan (at + 1 + n) (part - 1 - n) (drop n bs)))
    → part_scan at part (b ∷ bs) ≡ ahead (suc n) (b ∷ take n bs) [] (part_scan (at + suc n) (part - suc n) (drop n bs))
unfolding flat_map
longer n most at part b bs h false e f more = absurd (omega arith)
longer n most at part b bs h true e f more =
    let here : at + 1 + n ≡ at + suc n = omega arith in
    let left : part - 1 - n ≡ part - suc n = omega arith in
    let next = rw (here, left) at (more (omega arith)) in
    scan_piece at part (b ∷ bs) bs (piece_of (b ∷ []) (Ok tt)) (char_piece b bs e) (omega arith)
    ∙ (ap (ahead 1 (b ∷ []) []) next ∙ ahead_one n b (take n bs) (part_scan (at + suc n) (part - suc n) (drop n bs)))

pub scan_run : (n most at part : ℕ) (rest : List ℕ) → n ≤ front not_iac (take most rest) → n ≤ part
    → part_scan at part rest ≡ ahead n (take n rest) [] (part_scan (at + n) (part - n) (drop n rest))
unfolding front
scan_run zero most at part rest f h =
    let here : at + 0 ≡ at = omega arith in
    let all : part - 0 ≡ part = omega arith in
    let none : 0 + (part_scan at part rest).taken ≡ (part_scan at part rest).taken = omega arith in
    rw (here, all, none)
scan_run (suc n) most at part [] f h = absurd (omega (arith, front_within not_iac (take {A = ℕ} most []), length-take {A = ℕ} most []))
scan_run (suc n) zero at part (b ∷ bs) f h = absurd (omega arith)
scan_run (suc n) (suc most) at part (b ∷ bs) f h = longer n most at part b bs h (not_iac b) refl f (λ k. scan_run n most (at + 1) (part - 1) bs k (omega arith))

-- the part of a capture that is handed over
abbrev pub behind : ℕ → List ℕ → List ℕ
behind n rest = take (length rest - n) (drop n rest)

pub behind_drop : (n : ℕ) (rest : List ℕ) → behind n rest ≡ drop n rest
behind_drop n rest = take_all (length rest - n) (drop n rest) (simp length-drop (omega arith))

no_more : (n : ℕ) (bytes lines : List ℕ) (s : Scan) → s ≡ no_scan → ahead n bytes lines s ≡ record { taken = n; bytes = bytes; lines = lines }
no_more n bytes lines s e = let z : n + 0 ≡ n = omega arith in rw (e, z, append-nil bytes, append-nil lines)

-- text at the front: it is copied, and what is behind it is scanned
module _ (at part : ℕ) (rest : List ℕ) (n : ℕ) (e : n ≡ length (run_of part rest)) where
  run_long : n ≡ front not_iac (take part rest)
  run_long = e ∙ simp length-take (omega (arith, front_within not_iac (take part rest), length-take part rest))

  pub run_within : (n ≤ part) × (n ≤ length rest)
  run_within = (omega (arith, run_long, front_within not_iac (take part rest), length-take part rest), omega (arith, run_long, front_within not_iac (take part rest), length-take part rest))

  pub text_scan : part_scan at part rest ≡ ahead n (run_of part rest) [] (part_scan (at + n) (part - n) (behind n rest))
  text_scan = rw (behind_drop n rest, ← run_long) (scan_run n part at part rest (omega (arith, run_long)) run_within.0)

  pub text_over : min (part - n) (length rest - n) ≡ 0 → part_scan at part rest ≡ record { taken = n; bytes = run_of part rest; lines = [] }
  text_over h = text_scan ∙ no_more n (run_of part rest) [] _ (scan_none (at + n) (part - n) (behind n rest) (simp (length-take, length-drop) (omega (arith, h))))

-- a piece at the front
module _ (at part : ℕ) (rest : List ℕ) (some : 0 < length rest) (on : 0 < part) where
  pub piece_scan_lem : let p = piece_scan at rest in
      part_scan at part rest ≡ ahead p.taken p.bytes p.lines (part_scan (at + p.taken) (part - p.taken) (behind p.taken rest))
  piece_scan_lem =
      let f = first_found rest in
      let long : length (take f.size rest) ≡ f.size = simp length-take (omega (arith, (found_size rest some).0)) in
      rw (behind_drop f.size rest)
      (rw long at (scan_piece at part rest (drop f.size rest) (piece_of (take f.size rest) f.judged) (found_piece rest some) on))

  pub piece_over : part ≤ (piece_scan at rest).taken → part_scan at part rest ≡ piece_scan at rest
  piece_over h =
      let p = piece_scan at rest in
      piece_scan_lem ∙ no_more p.taken p.bytes p.lines _ (scan_none (at + p.taken) (part - p.taken) (behind p.taken rest) (omega arith))
