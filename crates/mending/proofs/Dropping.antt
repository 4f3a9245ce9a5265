-- What is dropped and what is left: of any pieces first, and then of those that a capture has.
use Rattle.std.specs.Prelude.{Ok, Err}
use mathlib.Core.Path.{◌≡◌, refl, sym, ◌∙◌}
use mathlib.Core.List.{List, [], ◌∷◌, ◌++◌, append_assoc, flat_map}
use Prim.Native.Nat.{ℕ, ◌+◌, ◌-◌, ◌≤◌, ◌<◌}
use native.Mathlib.Omega.{arith}
use lib.ListN.{length, length-append}
use lib.Seq.{take-append-add, drop-append-add, drop-append_seam}
use Rattle.decimals.proofs.Digits.{decimal_reads}
use Rattle.codes.specs.Telnet.{SE}
use Rattle.reader.specs.Reading.{idle}
use Rattle.reader.specs.Framing.{unclosed}
use Rattle.reader.proofs.Framing.{frames_read}
use Rattle.mending.specs.declared.Reason.{Reason}
use Rattle.mending.specs.Judging.{Judged, judged}
use Rattle.mending.specs.Pieces.{Piece, pieces_from, pieces_of}
use Rattle.mending.specs.Mending.{Drop, bytes_of, copied, copied_of, drop_of, drops_at, mended, drops, capture_room}
use Rattle.mending.specs.Dropping.{without, InOrder, MendedIsWithoutDrops, DropsInOrder, NothingToDrop, MendedTwice, FrameIsPiece, ToldWhole, DropsToldWhole}
use Rattle.mending.proofs.Walk.{Whole, last_read, walk, first_piece, pieces_joined, Each, pieces_some}

abbrev HasByte : Piece → Type 0
HasByte p = 0 < length p.bytes

earlier : (a b end : ℕ) (ds : List Drop) → a ≤ b → InOrder b ds end → InOrder a ds end
unfolding InOrder
earlier a b end [] h o = omega arith
earlier a b end (d ∷ ds) h o = (omega (arith, o.0), o.1, o.2)

in_order : (ps : List Piece) (at end : ℕ) → Each HasByte ps → at + length (flat_map bytes_of ps) ≤ end → InOrder at (drops_at at ps) end
unfolding InOrder Each drops_at flat_map
in_order [] at end e h = omega arith
in_order (p ∷ ps) at end e h =
    go p.judged (in_order ps (at + length p.bytes) end e.1 (omega (arith, simp length-append at h)))
  where
    go : (j : Judged) → InOrder (at + length p.bytes) (drops_at (at + length p.bytes) ps) end
        → InOrder at (drop_of at (length p.bytes) j ++ drops_at (at + length p.bytes) ps) end
    go (Ok u) rest = earlier at (at + length p.bytes) end (drops_at (at + length p.bytes) ps) (omega arith) rest
    go (Err reason) rest = (omega arith, e.0, rest)

pub drops_in_order : DropsInOrder
drops_in_order capture = in_order (pieces_of capture) 0 (length capture) (pieces_some capture) (rw (pieces_joined capture) (omega arith))

order_within : (at end : ℕ) (ds : List Drop) → InOrder at ds end → at ≤ end
unfolding InOrder
order_within at end [] o = o
order_within at end (d ∷ ds) o = omega (arith, o.0, order_within (d.offset + d.size) end ds o.2)

told_whole : (at end : ℕ) (ds : List Drop) → end ≤ capture_room → InOrder at ds end → ToldWhole ds
unfolding InOrder ToldWhole
told_whole at end [] h o = tt
told_whole at end (d ∷ ds) h o =
    let within = order_within (d.offset + d.size) end ds o.2 in (
      decimal_reads d.offset (omega (arith, within)),
      decimal_reads d.size (omega (arith, within)),
      told_whole (d.offset + d.size) end ds h o.2,
    )

pub drops_told_whole : DropsToldWhole
drops_told_whole capture h = told_whole 0 (length capture) (drops capture) h (drops_in_order capture)

-- bytes in front of all drops stay
front_stays : (at end : ℕ) (ds : List Drop) (xs ys : List ℕ) → InOrder (at + length xs) ds end → xs ++ without (at + length xs) ds ys ≡ without at ds (xs ++ ys)
unfolding InOrder without
front_stays at end [] xs ys o = refl
front_stays at end (d ∷ ds) xs ys o =
    let gap = d.offset - (at + length xs) in
    let wide : d.offset - at ≡ length xs + gap = omega (arith, o.0) in
    let past : d.offset - at + d.size ≡ length xs + (gap + d.size) = omega (arith, o.0) in
    rw (past, wide, take-append-add xs ys gap, drop-append-add xs ys (gap + d.size), append_assoc)

-- .. and the bytes of a drop go
front_goes : (at : ℕ) (reason : Reason) (ds : List Drop) (xs ys : List ℕ)
    → without at (record { offset = at; size = length xs; reason = reason } ∷ ds) (xs ++ ys) ≡ without (at + length xs) ds ys
unfolding without
front_goes at reason ds xs ys =
    let none : at - at ≡ 0 = omega arith in
    let seam : 0 + length xs ≡ length xs = omega arith in
    rw (none, seam, drop-append_seam xs ys)

without_drops : (ps : List Piece) (at : ℕ) → Each HasByte ps → flat_map copied ps ≡ without at (drops_at at ps) (flat_map bytes_of ps)
unfolding Each drops_at flat_map without
without_drops [] at e = refl
without_drops (p ∷ ps) at e = go p.judged (without_drops ps (at + length p.bytes) e.1)
  where
    now : ℕ
    now = at + length p.bytes

    go : (j : Judged) → flat_map copied ps ≡ without now (drops_at now ps) (flat_map bytes_of ps)
        → copied_of p.bytes j ++ flat_map copied ps ≡ without at (drop_of at (length p.bytes) j ++ drops_at now ps) (p.bytes ++ flat_map bytes_of ps)
    go (Ok u) ih =
        let left = flat_map bytes_of ps in
        let end = now + length left in
        rw ih (front_stays at end (drops_at now ps) p.bytes left (in_order ps now end e.1 (omega arith)))
    go (Err reason) ih = ih ∙ sym (front_goes at reason (drops_at now ps) p.bytes (flat_map bytes_of ps))

pub mended_is_without_drops : MendedIsWithoutDrops
mended_is_without_drops capture = rw (pieces_joined capture) at (without_drops (pieces_of capture) 0 (pieces_some capture))

pub nothing_to_drop : NothingToDrop
unfolding without
nothing_to_drop capture e = mended_is_without_drops capture ∙ (rw e)

-- a piece that is copied stays a piece, and one that is dropped leaves nothing
kept_none : (begun : List ℕ) (b : ℕ) (rest : List ℕ) (j : Judged) → Whole begun b → judged (last_read begun b) ≡ j → ((at : ℕ) → drops_at at (pieces_of rest) ≡ [])
    → (at : ℕ) → drops_at at (pieces_of (copied_of (begun ++ b ∷ []) j ++ rest)) ≡ []
unfolding drops_at
kept_none begun b rest (Ok u) w e ih at = rw (append_assoc begun (b ∷ []) rest, first_piece begun b rest w, e) (ih (at + length (begun ++ b ∷ [])))
kept_none begun b rest (Err reason) w e ih at = ih at

mended_none : (capture : List ℕ) (at : ℕ) → drops_at at (pieces_of (mended capture)) ≡ []
unfolding drops_at pieces_from flat_map
mended_none =
    walk (λ capture ps. (at : ℕ) → drops_at at (pieces_of (flat_map copied ps)) ≡ []) (λ at. refl) (λ begun u at. refl)
    (λ begun b rest w ih. kept_none begun b (mended rest) (judged (last_read begun b)) w refl ih)

pub mended_twice : MendedTwice
mended_twice capture = let none = mended_none capture 0 in (none, nothing_to_drop (mended capture) none)

pub frame_is_piece : FrameIsPiece
frame_is_piece body rest l =
    let f = frames_read idle body refl l in
    let w : Whole (unclosed body) SE = record { silent = f.silent; ends = rw (f.kept, f.end) } in
    rw (f.bytes, append_assoc (unclosed body) (SE ∷ []) rest, first_piece (unclosed body) SE rest w, f.kept, f.end)
