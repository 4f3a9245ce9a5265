-- The first piece of what is left of a capture, as it is found byte by byte.
use Rattle.std.specs.Prelude.{Err}
use mathlib.Core.Path.{◌≡◌, refl, ap, ◌∙◌}
use mathlib.Core.Bool.{Bool, true, false, cond}
use mathlib.Core.List.{List, [], ◌∷◌, ◌++◌}
use Prim.Native.Nat.{ℕ, suc, ◌+◌, ◌≤◌, ◌<◌}
use native.Mathlib.Numerals.{add-one}
use native.Mathlib.Omega.{arith}
use lib.Seq.{append_snoc, take-append_seam, drop-append_seam, drop-cons}
use lib.ListN.{length, take, drop, get_or, length-append, drop_of_length-le}
use Rattle.reader.specs.declared.Reader.{Reader}
use Rattle.reader.specs.declared.Read.{Read}
use Rattle.reader.specs.Refinement.{view_reader, RefinesRead}
use Rattle.reader.specs.Reading.{ReaderState, idle, read, is_between}
use Rattle.mending.specs.declared.Reason.TheVariants.{Unfinished}
use Rattle.mending.specs.declared.Found.{Found}
use Rattle.mending.specs.Judging.{Judged, item_judged, judged}
use Rattle.mending.specs.Pieces.{Piece, piece_of, pieces_from, pieces_of}
use Rattle.mending.specs.Refinement.{found_from, first_found}

-- the first piece of what is left, of which begun is read
abbrev Splits : (begun bs : List ℕ) → List Piece → Found → Type 0
Splits begun bs ps f = ps ≡ piece_of (take f.size (begun ++ bs)) f.judged ∷ pieces_of (drop f.size (begun ++ bs))

splits_at : (begun bs : List ℕ) (j : Judged) (n : ℕ) → n ≡ length begun → Splits begun bs (piece_of begun j ∷ pieces_of bs) (record { size = n; judged = j })
splits_at begun bs j n e = rw (e, take-append_seam begun bs, drop-append_seam begun bs)

one_more : (t : Bool) (begun bs : List ℕ) (b : ℕ) (j : Judged) (more : List Piece) (f : Found) → (t ≡ false → Splits (begun ++ b ∷ []) bs more f)
    → Splits begun (b ∷ bs) (cond t (piece_of (begun ++ b ∷ []) j ∷ pieces_of bs) more) (cond t (record { size = suc (length begun); judged = j }) f)
one_more true begun bs b j more f s = rw (← append_snoc begun b bs) (splits_at (begun ++ b ∷ []) bs j (suc (length begun)) (simp length-append (omega arith)))
one_more false begun bs b j more f s = rw (← append_snoc begun b bs) (s refl)

splits : (r : ReaderState) (begun bs : List ℕ) (n : ℕ) → n ≡ length begun → (bs ≡ [] → is_between r.phase ≡ false)
    → Splits begun bs (pieces_from r begun bs) (found_from r n bs)
unfolding pieces_from found_from
splits r begun [] n e h = rw (h refl) (splits_at begun [] (Err Unfinished) n e)
splits r begun (b ∷ bs) n e h =
    let x = read r b in
    rw e
    (one_more (is_between x.reader.phase) begun bs b (judged x) _ _
    (λ inside. splits x.reader (begun ++ b ∷ []) bs (suc (length begun)) (simp length-append (omega arith)) (λ _. inside)))

pub found_piece : (rest : List ℕ) → 0 < length rest
    → let f = first_found rest in pieces_of rest ≡ piece_of (take f.size rest) f.judged ∷ pieces_of (drop f.size rest)
found_piece rest h = splits idle [] rest 0 refl (λ e. absurd (omega (arith, ap length e)))

found_more : (t : Bool) (n m : ℕ) (j : Judged) (f : Found) → (f.size ≤ suc n + m) × (suc n ≤ f.size)
    → let g = cond t (record { size = suc n; judged = j }) f in (g.size ≤ n + suc m) × (n < g.size)
found_more true n m j f h = (omega arith, omega arith)
found_more false n m j f h = (omega (arith, h.0), omega (arith, h.1))

found_from_lem : (r : ReaderState) (n : ℕ) (bs : List ℕ) → let f = found_from r n bs in (f.size ≤ n + length bs) × (n ≤ f.size)
unfolding found_from
found_from_lem r n [] = (omega arith, omega arith)
found_from_lem r n (b ∷ bs) =
    let x = read r b in
    let h = found_more (is_between x.reader.phase) n (length bs) (judged x) (found_from x.reader (suc n) bs) (found_from_lem x.reader (suc n) bs) in
    (h.0, omega (arith, h.1))

pub found_size : (rest : List ℕ) → 0 < length rest → let f = first_found rest in (f.size ≤ length rest) × (0 < f.size)
unfolding found_from
found_size [] h = absurd (omega arith)
found_size (b ∷ bs) h =
    let x = read idle b in
    let g = found_more (is_between x.reader.phase) 0 (length bs) (judged x) (found_from x.reader 1 bs) (found_from_lem x.reader 1 bs) in
    (omega (arith, g.0), g.1)

-- one byte of a piece
found_next : (r : ReaderState) (n : ℕ) (rest : List ℕ) → n < length rest
    → let x = read r (get_or rest n 0) in
    found_from r n (drop n rest) ≡ cond (is_between x.reader.phase) (record { size = n + 1; judged = judged x }) (found_from x.reader (n + 1) (drop (n + 1) rest))
unfolding found_from
found_next r n rest h = rw (drop-cons rest n 0 h, add-one n)

module _ (rest : List ℕ) (r : Reader) (n : ℕ) (x : Read) (h : n < length rest) (w : RefinesRead (read (view_reader r) (get_or rest n 0)) r x) where
  -- it ends the piece, or it does not
  pub found_here : is_between x.reader.phase ≡ true
      → found_from (view_reader r) n (drop n rest) ≡ record { size = n + 1; judged = item_judged (view_reader x.reader) x.item }
  found_here e = found_next (view_reader r) n rest h ∙ rw (← w.view, ← w.item, e)

  pub found_further : is_between x.reader.phase ≡ false
      → found_from (view_reader r) n (drop n rest) ≡ found_from (view_reader x.reader) (n + 1) (drop (n + 1) rest)
  found_further e = found_next (view_reader r) n rest h ∙ rw (← w.view, e)

-- no byte is left
pub found_end : (r : ReaderState) (n : ℕ) (rest : List ℕ) → length rest ≤ n → found_from r n (drop n rest) ≡ record { size = n; judged = Err Unfinished }
unfolding found_from
found_end r n rest h = rw (drop_of_length-le rest {i = n} h)
