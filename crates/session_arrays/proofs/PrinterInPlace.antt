-- The option states and the phase stored alone: the arrays then stand for the same state with these parts, and sound ones stay sound.
use mathlib.Core.Path.{◌≡◌, refl, ap, subst, sym, ◌∙◌}
use mathlib.Core.Bool.{true}
use mathlib.Core.List.{List}
use Prim.Native.Nat.{ℕ}
use lib.Seq.{get_or-drop}
use Rattle.lists.specs.Buffers.{Lent}
use Rattle.codes.specs.declared.Note.TheVariants.{Clear}
use Rattle.negotiation.specs.declared.Sides.{Sides}
use Rattle.reader.specs.declared.Phase.{Phase}
use Rattle.printer.specs.InPlace.{in_place, HandledInPlace}
use Rattle.printer.specs.Network.{network_read}
use Rattle.printer.specs.Refinement.{view_printer, CleanPrinter}
use Rattle.printer.specs.declared.in_place.InPlace.{InPlace}
use Rattle.printer.proofs.InPlace.{read_in_place}
use Rattle.session_arrays.specs.PrinterArrays.{PrinterArrays, arrays_of_printer, decoded_printer, encoded_printer, small_in_place}
use Rattle.session_arrays.specs.PrinterRuns.{SoundPrinter, RefinesByteOnPrinterArrays, in_place_of, stored_in_place}
use Rattle.session_arrays.proofs.Decoding.{option_state_found, phase_found}
use Rattle.session_arrays.proofs.PrinterRuns.{view_arrays, lent_arrays}

abbrev pub with_small : PrinterArrays → List ℕ → PrinterArrays
with_small a small = arrays_of_printer small a.classes a.counts a.body a.marks a.cells a.waiting a.gathered

module _ (sides : Sides) (phase : Phase) where
  pub in_place_found : (a : PrinterArrays) → decoded_printer (stored_in_place sides phase a) ≡ in_place (decoded_printer a) sides phase
  in_place_found a = simp (option_state_found, phase_found, get_or-drop)

  pub in_place_sound : (a : PrinterArrays) → SoundPrinter a → SoundPrinter (stored_in_place sides phase a)
  in_place_sound a k = record {
    clean = subst CleanPrinter (sym (in_place_found a)) (record { reader = k.clean.reader; table = k.clean.table; rcte = k.clean.rcte });
    encoded = ap encoded_printer (in_place_found a) ∙ ap (stored_in_place sides phase) k.encoded;
  }

module _ (a : PrinterArrays) (b : ℕ) {paper wire : Lent} where
  -- a byte that was handled is read
  pub byte_in_place : {small : List ℕ} {r : InPlace} → HandledInPlace (in_place_of a b) paper wire r → small ≡ small_in_place a.small r.parts.sides r.parts.phase
      → ((in_place_of a b).handled ≡ true)
      × (with_small a small ≡ stored_in_place (in_place_of a b).sides (in_place_of a b).phase a)
      × RefinesByteOnPrinterArrays (network_read (view_arrays a) b) (lent_arrays a (with_small a small)) paper wire (record { note = Clear; first = r.paper; wire = r.wire })
  byte_in_place {small} m put =
      let e = in_place_of a b in
      let stored : small ≡ small_in_place a.small e.sides e.phase = rw (put, m.sides, m.phase) in (
        m.handled,
        ap (with_small a) stored,
        rw (read_in_place (decoded_printer a) b m.handled, stored) (record {
          note = refl;
          wrote = m.wrote;
          view = ap view_printer (in_place_found e.sides e.phase a);
          sound = in_place_sound e.sides e.phase a;
        }),
      )
