-- Every state of the code is within the sizes, whatever its counts say, so what a call writes fits the buffers that it takes.
use mathlib.Core.Path.{◌≡◌, refl, sym}
use mathlib.Core.Bool.{Bool, true, false, ◌||◌, false≢true}
use mathlib.Core.List.{List}
use Prim.Native.Nat.{ℕ, ◌≤◌}
use native.Mathlib.Omega.{arith}
use borrow.Author.Tests.{ltb-false}
use lib.Dec.{ltb, eqb, lit≤}
use lib.ListN.{length, get_or, take, drop, length-take, length-map}
use Rattle.lists.specs.Buffers.{RoomFor}
use Rattle.lists.proofs.Lengths.{either, every_replicate}
use Rattle.codes.specs.Answers.{paper_room, wire_room, no_room}
use Rattle.received_macros.specs.declared.Texts.{Texts}
use Rattle.received_macros.specs.Texts.{Table, plain, entry_of, text_room}
use Rattle.received_macros.specs.Refinement.{lengths, entry_at, view_texts}
use Rattle.received_macros.proofs.Laws.{entry_at_lem}
use Rattle.printer.specs.declared.Printer.{Printer}
use Rattle.printer.specs.State.{Effect}
use Rattle.printer.specs.Limits.{text_limit, Sized, Fits}
use Rattle.received_macros.specs.Refinement.{text_of}
use Rattle.printer.specs.Refinement.{view_printer}

entry_short : (mark : ℕ) (cells : List ℕ) → length (text_of (entry_at mark cells)) ≤ text_limit
entry_short mark cells = either (λ e. length (text_of e) ≤ text_limit) (eqb mark 0) (lit≤ tt) (simp length-take (omega arith))

texts_short : (t : Texts) (x : ℕ) → length (text_of (entry_of (view_texts t) x)) ≤ text_limit
unfolding view_texts
texts_short t x =
    either (λ (table : Table). length (text_of (entry_of table x)) ≤ text_limit) (ltb text_room (lengths t.marks))
    (every_replicate (λ e. length (text_of e) ≤ text_limit) plain 256 plain (lit≤ tt) (lit≤ tt) x)
    (rw (entry_at_lem t.marks t.cells x) (entry_short (get_or t.marks x 0) (drop (lengths (take x t.marks)) t.cells)))

pub sized_view : (p : Printer) → Sized (view_printer p)
sized_view p = record {
  waiting = simp (length-map, length-take) (omega arith);
  gathered = simp length-take (omega arith);
  body = simp length-take (omega arith);
  texts = texts_short p.table;
}

-- the buffers that code 1 does not refuse
record Lent (p w : ℕ) : Type 0 where
  paper : paper_room ≤ p
  wire : wire_room ≤ w

lent : (p w : ℕ) → no_room p w ≡ false → Lent p w
lent p w e = go (ltb p paper_room) (ltb w wire_room) refl refl e
  where
    go : (a b : Bool) → ltb p paper_room ≡ a → ltb w wire_room ≡ b → (a || b) ≡ false → Lent p w
    go true b f g e = absurd (false≢true (sym e))
    go false true f g e = absurd (false≢true (sym e))
    go false false f g e = record { paper = ltb-false p paper_room f; wire = ltb-false w wire_room g }

pub room_for : (d : Effect) (paper wire : List ℕ) → no_room (length paper) (length wire) ≡ false → Fits d → RoomFor d.paper paper × RoomFor d.wire wire
room_for d paper wire e f =
    let l = lent (length paper) (length wire) e in
    (omega (arith, l.paper, f.paper), omega (arith, l.wire, f.wire))
