-- A capture goes piece by piece: what holds of no bytes, of an unfinished command, and of a piece in front of a capture of which
-- it holds, holds of every capture.
use Rattle.std.specs.Prelude.{Ok, Err}
use mathlib.Core.Path.{◌≡◌, refl, ap, sym, ◌∙◌}
use mathlib.Core.Bool.{Bool, true, false, true≢false, false≢true}
use mathlib.Core.List.{List, [], ◌∷◌, ◌++◌, append_assoc, append-nil, flat_map}
use Prim.Native.Nat.{ℕ, ◌≤◌, ◌<◌}
use native.Mathlib.Omega.{arith}
use lib.ListN.{length, length-append}
use lib.Dec.{eqb}
use Rattle.lists.proofs.Lengths.{chosen}
use Rattle.codes.specs.Telnet.{IAC}
use Rattle.reader.specs.Reading.{ReaderState, ReadEffect, idle, read, is_between}
use Rattle.reader.specs.Framing.{reader_after, Silent}
use Rattle.reader.proofs.Framing.{after_append, silent_append, silent_inside}
use Rattle.mending.specs.declared.Reason.{Reason}
use Rattle.mending.specs.declared.Reason.TheVariants.{Unfinished}
use Rattle.mending.specs.Judging.{judged}
use Rattle.mending.specs.Pieces.{Piece, piece_of, pieces_from, pieces_of}
use Rattle.mending.specs.Mending.{bytes_of}

-- the byte behind those that begin a piece, as it is read
abbrev pub last_read : List ℕ → ℕ → ReadEffect
last_read begun b = read (reader_after idle begun) b

-- a whole piece: silent bytes, and a byte that ends it
pub record Whole (begun : List ℕ) (b : ℕ) : Type 0 where
  pub silent : Silent idle begun
  pub ends : is_between (last_read begun b).reader.phase ≡ true

abbrev pub whole_piece : List ℕ → ℕ → Piece
whole_piece begun b = piece_of (begun ++ b ∷ []) (judged (last_read begun b))

-- a command that is begun, and not ended
pub record Begun (begun : List ℕ) : Type 0 where
  pub silent : Silent idle begun
  pub inside : is_between (reader_after idle begun).phase ≡ false

abbrev pub cut_piece : List ℕ → Piece
cut_piece begun = piece_of begun (Err Unfinished)

-- behind silent bytes the reader is within a command
silent_within : (r : ReaderState) (x : ℕ) (xs : List ℕ) → Silent r (x ∷ xs) → is_between (reader_after r (x ∷ xs)).phase ≡ false
unfolding Silent reader_after
silent_within r x [] s = s.1
silent_within r x (y ∷ xs) s = silent_within (read r x).reader y xs s.2

-- one more byte that ends nothing
one_more : (begun : List ℕ) (b : ℕ) → Silent idle begun → is_between (last_read begun b).reader.phase ≡ false → Silent idle (begun ++ b ∷ [])
unfolding Silent
one_more begun b s e = silent_append idle begun (b ∷ []) s (silent_inside (reader_after idle begun) b e, e, tt)

module _ (P : List ℕ → List Piece → Type 0) (none : P [] []) (unfinished : (begun : List ℕ) → Begun begun → P begun (cut_piece begun ∷ []))
    (piece : (begun : List ℕ) (b : ℕ) (rest : List ℕ) → Whole begun b → P rest (pieces_of rest) → P (begun ++ b ∷ rest) (whole_piece begun b ∷ pieces_of rest))
  where
    at_end : (begun : List ℕ) → Silent idle begun → P begun (pieces_from (reader_after idle begun) begun [])
    unfolding pieces_from reader_after
    at_end [] s = none
    at_end (x ∷ xs) s = let e = silent_within idle x xs s in rw e (unfinished (x ∷ xs) (record { silent = s; inside = e }))

    walked : (begun bs : List ℕ) → Silent idle begun → P (begun ++ bs) (pieces_from (reader_after idle begun) begun bs)
    unfolding pieces_from reader_after Silent
    walked begun [] s = rw (append-nil begun) (at_end begun s)
    walked begun (b ∷ bs) s =
        chosen (P (begun ++ b ∷ bs)) (is_between (last_read begun b).reader.phase) (λ e. piece begun b bs (record { silent = s; ends = e }) (walked [] bs tt))
        (λ e. rw (append_assoc begun (b ∷ []) bs, after_append idle begun (b ∷ [])) at (walked (begun ++ b ∷ []) bs (one_more begun b s e)))

    pub walk : (capture : List ℕ) → P capture (pieces_of capture)
    unfolding Silent reader_after
    walk capture = walked [] capture tt

-- silent bytes only move the reader
silent_moves : (r : ReaderState) (begun xs ys : List ℕ) → Silent r xs → pieces_from r begun (xs ++ ys) ≡ pieces_from (reader_after r xs) (begun ++ xs) ys
unfolding pieces_from reader_after Silent
silent_moves r begun [] ys s = rw (append-nil begun)
silent_moves r begun (x ∷ xs) ys s =
    rw (s.1, silent_moves (read r x).reader (begun ++ x ∷ []) xs ys s.2, append_assoc begun (x ∷ []) xs)

-- a whole piece in front of anything is the first
pub first_piece : (begun : List ℕ) (b : ℕ) (rest : List ℕ) → Whole begun b → pieces_of (begun ++ b ∷ rest) ≡ whole_piece begun b ∷ pieces_of rest
unfolding pieces_from
first_piece begun b rest w = rw (silent_moves idle [] begun (b ∷ rest) w.silent, w.ends)

pub cut_piece_lem : (begun : List ℕ) → Begun begun → pieces_of begun ≡ cut_piece begun ∷ []
unfolding pieces_from
cut_piece_lem begun u = ap pieces_of (sym (append-nil begun)) ∙ silent_moves idle [] begun [] u.silent ∙ (rw u.inside)

-- the pieces' bytes are the capture
pub pieces_joined : (capture : List ℕ) → flat_map bytes_of (pieces_of capture) ≡ capture
unfolding flat_map
pieces_joined =
    walk (λ capture ps. flat_map bytes_of ps ≡ capture) refl (λ begun u. append-nil begun)
    (λ begun b rest w ih. rw (append_assoc, ih))

-- a command has a byte before its last: a byte by itself is text, and is copied
pub single_copied : (b : ℕ) → Whole [] b → judged (last_read [] b) ≡ Ok tt
unfolding reader_after read
single_copied b w = go (eqb b IAC) refl
  where
    go : (t : Bool) → eqb b IAC ≡ t → judged (last_read [] b) ≡ Ok tt
    go true e = absurd (false≢true (rw e at w.ends))
    go false e = rw e

pub dropped_two : (begun : List ℕ) (b : ℕ) (reason : Reason) → Whole begun b → judged (last_read begun b) ≡ Err reason → 2 ≤ length (begun ++ b ∷ [])
dropped_two [] b reason w e = let z : ◌≡◌ {A = ℕ} 0 1 = cc (single_copied b w) in omega arith
dropped_two (x ∷ xs) b reason w e = simp length-append (omega arith)

pub begun_some : (begun : List ℕ) → Begun begun → 0 < length begun
unfolding reader_after
begun_some [] u = absurd (true≢false u.inside)
begun_some (x ∷ xs) u = omega arith

-- of every piece
unfoldable pub Each : (Piece → Type 0) → List Piece → Type 0
Each P [] = Unit {0}
Each P (p ∷ ps) = P p × Each P ps

-- no piece is empty
pub pieces_some : (capture : List ℕ) → Each (λ p. 0 < length p.bytes) (pieces_of capture)
unfolding Each
pieces_some =
    walk (λ capture ps. Each (λ p. 0 < length p.bytes) ps) tt (λ begun u. (begun_some begun u, tt))
    (λ begun b rest w ih. (simp length-append (omega arith), ih))
