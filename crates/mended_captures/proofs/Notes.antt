-- The notes that a mended capture gives.
use Rattle.std.specs.Prelude.{Ok, Err}
use mathlib.Core.Path.{◌≡◌, refl, ap}
use mathlib.Core.Bool.{true, false}
use mathlib.Core.List.{List, [], ◌∷◌, ◌++◌, append_assoc, flat_map}
use Prim.Native.Nat.{ℕ, zero, suc}
use borrow.Author.Tests.{le-ltb}
use lib.ListN.{length, replicate}
use Rattle.codes.specs.Answers.{paper_room, wire_room, no_room}
use Rattle.codes.specs.declared.Note.{Note}
use Rattle.codes.specs.declared.Note.TheVariants.{Clear}
use Rattle.reader.specs.Reading.{is_between}
use Rattle.printer.specs.State.{PrinterState}
use Rattle.printer.specs.Network.{byte_read, bytes_read}
use Rattle.printer.specs.NetworkEnd.{call_done}
use Rattle.mending.specs.Judging.{Judged, judged}
use Rattle.mending.specs.Mending.{copied, copied_of, mended}
use Rattle.mending.proofs.Walk.{Whole, last_read, walk}
use Rattle.mended_captures.specs.Notes.{notes_read, notes_called, AllFaultless, at_rest, ReplacesNone, ReadsWithoutFault, CalledWithoutFault}
use Rattle.mended_captures.proofs.PieceRead.{last_effect, piece_bytes, piece_notes, rested}
use Rattle.mended_captures.proofs.Handling.{last_read_lem}

clear_fit : (n : ℕ) (ns : List Note) → AllFaultless ns → AllFaultless (replicate n Clear ++ ns)
unfolding AllFaultless
clear_fit zero ns f = f
clear_fit (suc n) ns f = (refl, clear_fit n ns f)

-- bytes that are read without fault from a state
abbrev Faultless : PrinterState → List ℕ → Type 0
Faultless s bytes = AllFaultless (notes_read s bytes) × (is_between (bytes_read s bytes).state.reader.phase ≡ true)

piece_faultless : (begun : List ℕ) (b : ℕ) (rest : List ℕ) (j : Judged) → Whole begun b → judged (last_read begun b) ≡ j
    → ((s : PrinterState) → Faultless (at_rest s) rest) → (s : PrinterState) → Faultless (at_rest s) (copied_of (begun ++ b ∷ []) j ++ rest)
unfolding AllFaultless
piece_faultless begun b rest (Ok u) w e ih s =
    let d = last_effect s begun b in
    let h = rw e at (last_read_lem s begun b w) in
    let after : Faultless d.state rest = rw (rested d.state h.1) (ih d.state) in
    rw (append_assoc begun (b ∷ []) rest, piece_notes s begun b rest w, piece_bytes s begun b rest w)
    (clear_fit (length begun) (d.note ∷ notes_read d.state rest) (h.0, after.0), after.1)
piece_faultless begun b rest (Err reason) w e ih s = ih s

faultless : (capture : List ℕ) (s : PrinterState) → Faultless (at_rest s) (mended capture)
unfolding flat_map AllFaultless notes_read bytes_read
faultless =
    walk (λ capture ps. (s : PrinterState) → Faultless (at_rest s) (flat_map copied ps)) (λ s. (tt, refl)) (λ begun u s. (tt, refl))
    (λ begun b rest w ih. piece_faultless begun b (mended rest) (judged (last_read begun b)) w refl ih)

pub reads_without_fault : ReadsWithoutFault
reads_without_fault s capture = faultless capture s

-- calls that replace no byte read the bytes as they stand
called_as_read : (s : PrinterState) (bs : List ℕ) (paper wire : ℕ) → no_room paper wire ≡ false → ReplacesNone s bs → notes_called s bs paper wire ≡ notes_read s bs
unfolding ReplacesNone notes_called notes_read
called_as_read s [] paper wire room h = refl
called_as_read s (b ∷ bs) paper wire room h =
    rw ((call_done s b paper wire room).1, h.0) (ap (λ (l : List Note). (byte_read s b).note ∷ l) (called_as_read (byte_read s b).state bs paper wire room h.1))

pub called_without_fault : CalledWithoutFault
called_without_fault s capture paper wire p w h =
    let room : no_room paper wire ≡ false = rw (le-ltb paper paper_room p, le-ltb wire wire_room w) in
    rw (called_as_read (at_rest s) (mended capture) paper wire room h) (faultless capture s).0
