-- A byte that has a mark, tried in place before it is read with the whole state.
use mathlib.Core.Path.{◌≡◌, refl, ap, ◌∙◌}
use mathlib.Core.Bool.{Bool, true, false}
use Rattle.std.specs.Prelude.{Some, None}
use mathlib.Core.List.{List, []}
use Prim.Native.Nat.{ℕ}
use native.Mathlib.Omega.{arith}
use Rattle.lists.specs.Buffers.{Lent, untouched, RoomFor}
use Rattle.codes.specs.declared.Note.TheVariants.{Clear}
use Rattle.received_macros.specs.Texts.{Entry, entry_of}
use Rattle.printer.specs.declared.Printer.{Printer}
use Rattle.printer.specs.declared.in_place.InPlace.{InPlace}
use Rattle.printer.specs.State.{PrinterState, Effect}
use Rattle.printer.specs.Network.{entry_read}
use Rattle.printer.specs.Refinement.{view_printer, RefinesStep}
use Rattle.printer.specs.InPlace.{InPlaceEffect, unhandled, entry_in_place, RefinesInPlaceOnPaper}
use Rattle.printer.proofs.InPlace.{step_of, entry_does, entry_stays, entry_kept}

-- e is the byte's entry
module _ (p : Printer) (b : ℕ) (e : Entry) (is : entry_of (view_printer p).table b ≡ e) where
  abbrev s : PrinterState
  s = view_printer p

  abbrev whole : Effect
  whole = entry_read s b (entry_of s.table b)

  abbrev effect : InPlaceEffect
  effect = entry_in_place s.sides s.reader.phase s.rcte.held e

  does : effect.handled ≡ true → whole ≡ step_of s effect
  does h = ap (entry_read s b) is ∙ entry_does s b e h

  stays : effect.handled ≡ false → effect ≡ unhandled s.sides s.reader.phase
  stays = entry_stays s.sides s.reader.phase s.rcte.held e

  pub marked_room : (paper : List ℕ) → RoomFor whole.paper paper → RoomFor effect.paper paper
  marked_room paper room = go effect.handled refl
    where
      go : (t : Bool) → effect.handled ≡ t → RoomFor effect.paper paper
      go true h = rw (does h) at room
      go false h = rw (stays h) (omega arith)

  -- it was handled
  pub marked_met : {paper : Lent} {r : InPlace} → RefinesInPlaceOnPaper effect paper (Some r) → (wire : List ℕ)
      → RefinesStep whole p paper (untouched wire) (record { note = Clear; paper = r.paper; wire = r.wire; state = p })
  marked_met m wire =
      let kept = entry_kept s.sides s.reader.phase s.rcte.held e in
      let handled = m.met wire in
      rw (does handled.handled) (record { note = refl; wrote = handled.wrote; view = rw (kept.0, kept.1); clean = λ k. k })

  -- it was not, and nothing is written
  pub marked_unwritten : {paper : Lent} → RefinesInPlaceOnPaper effect paper None → paper.after ≡ paper.before
  marked_unwritten m = rw (stays (m.met []).handled) at (m.met []).wrote.paper.cells
