-- A piece as a printer end reads it: silent bytes move the reader, and the last byte does what it completes.
use mathlib.Core.Path.{◌≡◌, refl, ap}
use mathlib.Core.List.{List, [], ◌∷◌, ◌++◌}
use Prim.Native.Nat.{ℕ}
use lib.ListN.{length, replicate}
use Rattle.codes.specs.declared.Note.{Note}
use Rattle.codes.specs.declared.Note.TheVariants.{Clear}
use Rattle.reader.specs.Reading.{ReaderState, idle, read}
use Rattle.reader.specs.Framing.{reader_after, Silent}
use Rattle.printer.specs.State.{PrinterState, with_reader, Effect, followed}
use Rattle.printer.specs.Network.{byte_read, bytes_read}
use Rattle.printer.proofs.Choosing.{silent_byte}
use Rattle.mending.proofs.Walk.{Whole}
use Rattle.mended_captures.specs.Notes.{notes_read, at_rest}

pub bytes_silent : (s : PrinterState) (xs ys : List ℕ) → Silent s.reader xs → bytes_read s (xs ++ ys) ≡ bytes_read (with_reader s (reader_after s.reader xs)) ys
unfolding Silent reader_after bytes_read
bytes_silent s [] ys q = refl
bytes_silent s (x ∷ xs) ys q = rw (silent_byte s x q.0) (bytes_silent (with_reader s (read s.reader x).reader) xs ys q.2)

notes_silent : (s : PrinterState) (xs ys : List ℕ) → Silent s.reader xs
    → notes_read s (xs ++ ys) ≡ replicate (length xs) Clear ++ notes_read (with_reader s (reader_after s.reader xs)) ys
unfolding Silent reader_after notes_read
notes_silent s [] ys q = refl
notes_silent s (x ∷ xs) ys q = rw (silent_byte s x q.0) (ap (λ (l : List Note). Clear ∷ l) (notes_silent (with_reader s (read s.reader x).reader) xs ys q.2))

-- what the last byte of a piece does
abbrev pub last_effect : PrinterState → List ℕ → ℕ → Effect
last_effect s begun b = byte_read (with_reader s (reader_after idle begun)) b

pub piece_bytes : (s : PrinterState) (begun : List ℕ) (b : ℕ) (rest : List ℕ) → Whole begun b
    → let d = last_effect s begun b in bytes_read (at_rest s) (begun ++ b ∷ rest) ≡ followed d (bytes_read d.state rest)
unfolding bytes_read
piece_bytes s begun b rest w = bytes_silent (at_rest s) begun (b ∷ rest) w.silent

pub piece_notes : (s : PrinterState) (begun : List ℕ) (b : ℕ) (rest : List ℕ) → Whole begun b
    → let d = last_effect s begun b in notes_read (at_rest s) (begun ++ b ∷ rest) ≡ replicate (length begun) Clear ++ d.note ∷ notes_read d.state rest
unfolding notes_read
piece_notes s begun b rest w = notes_silent (at_rest s) begun (b ∷ rest) w.silent

-- a state whose reader is idle is at rest
pub rested : (s : PrinterState) → s.reader ≡ idle → s ≡ at_rest s
rested s e = ap (λ (r : ReaderState). with_reader s r) e
