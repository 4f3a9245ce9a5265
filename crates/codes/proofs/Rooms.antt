-- The lent buffers that code 1 does not refuse.
use mathlib.Core.Path.{◌≡◌, refl, sym}
use mathlib.Core.Bool.{Bool, true, false, ◌||◌, false≢true}
use Prim.Native.Nat.{ℕ, ◌≤◌}
use borrow.Author.Tests.{ltb-false}
use lib.Dec.{ltb}
use Rattle.codes.specs.Answers.{paper_room, wire_room, no_room, no_wire}

pub wire_lent : (w : ℕ) → no_wire w ≡ false → wire_room ≤ w
wire_lent w e = ltb-false w wire_room e

pub both_lent : (p w : ℕ) → no_room p w ≡ false → (paper_room ≤ p) × (wire_room ≤ w)
both_lent p w e = go (ltb p paper_room) (ltb w wire_room) refl refl e
  where
    go : (a b : Bool) → ltb p paper_room ≡ a → ltb w wire_room ≡ b → (a || b) ≡ false → (paper_room ≤ p) × (wire_room ≤ w)
    go true b f g e = absurd (false≢true (sym e))
    go false true f g e = absurd (false≢true (sym e))
    go false false f g e = (ltb-false p paper_room f, ltb-false w wire_room g)
