-- Each drop has the reason that is listed.
use Rattle.std.specs.Prelude.{Ok, Err}
use mathlib.Core.Path.{◌≡◌, refl, ap}
use mathlib.Core.Bool.{true}
use mathlib.Core.List.{List, [], ◌∷◌, ◌++◌, append_assoc, append-nil}
use Prim.Native.Nat.{ℕ, ◌+◌, ◌-◌}
use native.Mathlib.Omega.{arith}
use lib.ListN.{length, length-append}
use lib.Seq.{take-append_seam, drop-append_seam}
use Rattle.codes.specs.declared.Note.{Note}
use Rattle.codes.specs.declared.Note.TheVariants.{Unreadable, Stray}
use Rattle.reader.specs.Reading.{idle, is_between}
use Rattle.reader.specs.Framing.{reader_after}
use Rattle.reader.proofs.Framing.{after_append}
use Rattle.printer.specs.State.{PrinterState, fresh, with_sides, Effect}
use Rattle.mending.specs.declared.Reason.{Reason}
use Rattle.mending.specs.declared.Reason.TheVariants as why
use Rattle.mending.specs.Judging.{Judged, all_in_force, judged}
use Rattle.mending.specs.Pieces.{pieces_of}
use Rattle.mending.specs.Mending.{Drop, drop_of, drops_at}
use Rattle.mending.proofs.Walk.{Whole, last_read, walk}
use Rattle.mended_captures.specs.Notes.{notes_read, GivesAtItsEnd, OneCommand, Because, Reasoned, EachReasoned, DropsReasoned}
use Rattle.mended_captures.proofs.Readers.{piece_ends}
use Rattle.mended_captures.proofs.PieceRead.{last_effect, piece_notes}
use Rattle.mended_captures.proofs.Handling.{last_judged}

-- the last byte of a whole piece gives its note
gives_at_end : (begun : List ℕ) (b : ℕ) (n : Note) → Whole begun b → ((s : PrinterState) → (last_effect (with_sides s all_in_force) begun b).note ≡ n)
    → GivesAtItsEnd (begun ++ b ∷ []) n
unfolding notes_read
gives_at_end begun b n w h s =
    let size : length (begun ++ b ∷ []) - 1 ≡ length begun = simp length-append (omega arith) in
    rw (size, piece_notes (with_sides s all_in_force) begun b [] w, h s)

one_command : (begun : List ℕ) (b : ℕ) → Whole begun b → OneCommand (begun ++ b ∷ [])
one_command begun b w =
    let size : length (begun ++ b ∷ []) - 1 ≡ length begun = simp length-append (omega arith) in
    rw (size, take-append_seam begun (b ∷ [])) w.silent

piece_because : (begun : List ℕ) (b : ℕ) (reason : Reason) (last : Type 0) → Whole begun b → judged (last_read begun b) ≡ Err reason → Because reason (begun ++ b ∷ []) last
piece_because begun b why.Unreadable last w e =
    (one_command begun b w, gives_at_end begun b Unreadable w (λ s. ap (λ (d : Effect). d.note) (rw e at (last_judged s begun b w))))
piece_because begun b why.Stray last w e =
    (one_command begun b w, gives_at_end begun b Stray w (λ s. ap (λ (d : Effect). d.note) (rw e at (last_judged s begun b w))))
piece_because begun b why.Unfinished last w e = absurd (rw e at (last_judged fresh begun b w))

-- bytes of a drop within a capture
within : (front bytes rest : List ℕ) (reason : Reason) → is_between (reader_after idle front).phase ≡ true
    → Because reason bytes (length front + length bytes ≡ length (front ++ (bytes ++ rest)))
    → Reasoned (front ++ (bytes ++ rest)) (record { offset = length front; size = length bytes; reason = reason })
within front bytes rest reason e h = record {
  between = rw (take-append_seam front (bytes ++ rest)) e;
  because = rw (drop-append_seam front (bytes ++ rest), take-append_seam bytes rest) h;
}

piece_reasoned : (front begun : List ℕ) (b : ℕ) (rest : List ℕ) (ds : List Drop) (j : Judged) → is_between (reader_after idle front).phase ≡ true → Whole begun b
    → judged (last_read begun b) ≡ j → let now = begun ++ b ∷ [] in EachReasoned (front ++ (now ++ rest)) ds
    → EachReasoned (front ++ (now ++ rest)) (drop_of (length front) (length now) j ++ ds)
unfolding EachReasoned
piece_reasoned front begun b rest ds (Ok u) between w e h = h
piece_reasoned front begun b rest ds (Err reason) between w e h =
    (within front (begun ++ b ∷ []) rest reason between (piece_because begun b reason _ w e), h)

pub drops_reasoned : DropsReasoned
unfolding drops_at EachReasoned reader_after
drops_reasoned capture =
    walk (λ capture ps. (front : List ℕ) → is_between (reader_after idle front).phase ≡ true → EachReasoned (front ++ capture) (drops_at (length front) ps)) (λ front e. tt)
    (λ begun u front e. (rw (append-nil begun) at (within front begun [] why.Unfinished e (u.silent, simp length-append (omega arith))), tt))
    (λ begun b rest w ih front e.
    let now = begun ++ b ∷ [] in
    let next = ih (front ++ now) (rw (after_append idle front now) (piece_ends (reader_after idle front) begun b e w)) in
    rw (← append_assoc begun (b ∷ []) rest)
    (piece_reasoned front begun b rest (drops_at (length front + length now) (pieces_of rest)) (judged (last_read begun b)) e w refl
    (rw (append_assoc front now rest, length-append front now) at next)))
    capture [] refl
