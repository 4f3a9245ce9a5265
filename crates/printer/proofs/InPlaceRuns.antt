-- A byte of a run that is handled in place, on the end itself.
use mathlib.Core.Path.{◌≡◌, refl}
use mathlib.Core.Bool.{true, false}
use mathlib.Core.List.{List, []}
use Prim.Native.Nat.{ℕ}
use native.Mathlib.Omega.{arith}
use lib.ListN.{length}
use Rattle.lists.specs.Buffers.{Lent, WroteBothAtStart, RoomFor}
use Rattle.codes.specs.Answers.{no_room}
use Rattle.codes.specs.declared.Note.TheVariants.{Clear}
use Rattle.codes.proofs.Rooms.{both_lent}
use Rattle.negotiation.specs.declared.Sides.{Sides}
use Rattle.reader.specs.declared.Phase.{Phase}
use Rattle.printer.specs.declared.Printer.{Printer}
use Rattle.printer.specs.declared.in_place.InPlace.{InPlace}
use Rattle.printer.specs.InPlace.{in_place, HandledInPlace, UnhandledInPlace}
use Rattle.printer.specs.NetworkEnd.{Keeps, Reads, in_place_of}
use Rattle.printer.proofs.InPlace.{read_in_place, unhandled_stays, in_place_fits}

-- there is room for what it writes
pub in_place_room : (s : Printer) (b : ℕ) (paper wire : List ℕ) → no_room (length paper) (length wire) ≡ false → RoomFor (in_place_of s b).paper paper × RoomFor (in_place_of s b).wire wire
in_place_room s b paper wire room =
    let fits = in_place_fits s b in
    let lent = both_lent (length paper) (length wire) room in
    (omega (arith, fits.0, lent.0), omega (arith, fits.1, lent.1))

in_place_keeps : (s : Printer) (sides : Sides) (phase : Phase) → Keeps s (in_place s sides phase)
in_place_keeps s sides phase = record {
  clean = λ k. record { reader = k.reader; table = k.table; rcte = k.rcte };
  whole = λ k. record { body = k.body; cells = k.cells; waiting = k.waiting; gathered = k.gathered };
}

module _ (s : Printer) (b : ℕ) {paper wire : Lent} where
  -- a byte that was handled is read
  pub byte_in_place : {r : InPlace} → HandledInPlace (in_place_of s b) paper wire r
      → ((in_place_of s b).handled ≡ true)
      × (in_place s r.parts.sides r.parts.phase ≡ in_place s (in_place_of s b).sides (in_place_of s b).phase)
      × Reads b s (in_place s r.parts.sides r.parts.phase) paper wire (record { note = Clear; first = r.paper; wire = r.wire })
  byte_in_place {r} m =
      let e = in_place_of s b in
      let stored : in_place s r.parts.sides r.parts.phase ≡ in_place s e.sides e.phase = rw (m.sides, m.phase) in (
        m.handled,
        stored,
        rw (read_in_place s b m.handled, stored) (record {
          note = refl;
          on_first = m.wrote.paper;
          on_wire = m.wrote.wire;
          sees = refl;
          kept = in_place_keeps s e.sides e.phase;
        }),
      )

  -- one that was not left both buffers as they were
  pub byte_stays : UnhandledInPlace (in_place_of s b) paper wire → ((in_place_of s b).handled ≡ false) × (paper.after ≡ paper.before) × (wire.after ≡ wire.before)
  byte_stays m =
      let none = unhandled_stays s.sides s.reader.phase s.rcte.held s.table b m.handled in
      let wrote : WroteBothAtStart [] [] paper wire 0 0 = rw none at m.wrote in
      (m.handled, wrote.paper.cells, wrote.wire.cells)
