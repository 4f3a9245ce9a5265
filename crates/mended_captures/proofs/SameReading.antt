-- What is dropped prints, sends and takes up nothing, and leaves the end as it was.
use Rattle.std.specs.Prelude.{Ok, Err}
use mathlib.Core.Path.{◌≡◌, refl}
use mathlib.Core.List.{List, [], ◌∷◌, ◌++◌, append_assoc, append-nil, flat_map}
use Prim.Native.Nat.{ℕ}
use Rattle.codes.specs.declared.Note.{Note}
use Rattle.reader.specs.Reading.{idle}
use Rattle.reader.specs.Framing.{reader_after}
use Rattle.printer.specs.State.{PrinterState, with_reader, Effect, nothing, notes, followed}
use Rattle.printer.specs.Network.{bytes_read}
use Rattle.mending.specs.Judging.{Judged, judged}
use Rattle.mending.specs.Mending.{copied, copied_of, mended}
use Rattle.mending.proofs.Walk.{Whole, Begun, last_read, walk}
use Rattle.mended_captures.specs.Notes.{at_rest}
use Rattle.mended_captures.specs.SameReading.{SameReading, ReadsAsBefore}
use Rattle.mended_captures.proofs.PieceRead.{last_effect, bytes_silent, piece_bytes, rested}
use Rattle.mended_captures.proofs.Handling.{last_read_lem}

itself : (d : Effect) → SameReading d d
itself d = record { paper = refl; wire = refl; taken = refl; state = refl }

-- behind the same step
behind : (d x y : Effect) → SameReading x y → SameReading (followed d x) (followed d y)
behind d x y h = record { paper = rw h.paper; wire = rw h.wire; taken = rw h.taken; state = h.state }

-- behind one that gave a note
noted : (n : Note) (s : PrinterState) (x y : Effect) → SameReading x y → SameReading x (followed (notes n s) y)
noted n s x y h = record { paper = h.paper; wire = h.wire; taken = h.taken; state = h.state }

unfinished_read : (begun : List ℕ) → Begun begun → (s : PrinterState) → bytes_read (at_rest s) begun ≡ nothing (with_reader s (reader_after idle begun))
unfolding bytes_read
unfinished_read begun u s = rw (append-nil begun) at (bytes_silent (at_rest s) begun [] u.silent)

unfinished_same : (begun : List ℕ) → Begun begun → (s : PrinterState) → SameReading (nothing (at_rest s)) (bytes_read (at_rest s) begun)
unfinished_same begun u s = rw (unfinished_read begun u s) (record { paper = refl; wire = refl; taken = refl; state = refl })

piece_same : (begun : List ℕ) (b : ℕ) (rest left : List ℕ) (j : Judged) → Whole begun b → judged (last_read begun b) ≡ j
    → ((s : PrinterState) → SameReading (bytes_read (at_rest s) left) (bytes_read (at_rest s) rest))
    → (s : PrinterState) → SameReading (bytes_read (at_rest s) (copied_of (begun ++ b ∷ []) j ++ left)) (bytes_read (at_rest s) (begun ++ b ∷ rest))
piece_same begun b rest left (Ok u) w e ih s =
    let d = last_effect s begun b in
    let h = rw e at (last_read_lem s begun b w) in
    let after : SameReading (bytes_read d.state left) (bytes_read d.state rest) = rw (rested d.state h.1) (ih d.state) in
    rw (append_assoc begun (b ∷ []) left, piece_bytes s begun b left w, piece_bytes s begun b rest w) (behind d (bytes_read d.state left) (bytes_read d.state rest) after)
piece_same begun b rest left (Err reason) w e ih s =
    let h = rw e at (last_read_lem s begun b w) in
    rw (piece_bytes s begun b rest w, h.1) (noted h.0 (at_rest s) (bytes_read (at_rest s) left) (bytes_read (at_rest s) rest) (ih s))

pub reads_as_before : ReadsAsBefore
unfolding flat_map bytes_read
reads_as_before s capture =
    walk (λ capture ps. (s : PrinterState) → SameReading (bytes_read (at_rest s) (flat_map copied ps)) (bytes_read (at_rest s) capture)) (λ s. itself (nothing (at_rest s)))
    unfinished_same (λ begun b rest w ih. piece_same begun b rest (mended rest) (judged (last_read begun b)) w refl ih)
    capture s
