-- A body's end, a readable body, and a byte, as the rules' next steps.
use Rattle.std.specs.Prelude.{Option, Some, None}
use mathlib.Core.Path.{◌≡◌, refl, sym, ap, ◌∙◌}
use mathlib.Core.Bool.{Bool, true, false, cond}
use mathlib.Core.List.{List}
use Prim.Native.Nat.{ℕ, ◌≤◌, ◌-◌}
use native.Mathlib.Omega.{arith}
use lib.ListN.{length, take, drop, length-drop}
use lib.Seq.{take_all}
use lib.Dec.{ltb}
use borrow.Author.Tests.{ltb-false}
use Rattle.bodies.specs.declared.MacroCommand.{MacroCommand}
use Rattle.bodies.specs.MacroBodies.{macro_body}
use Rattle.reader.specs.declared.Item.{Item}
use Rattle.reader.specs.declared.Item.TheVariants.{BodyEnd}
use Rattle.reader.specs.Reading.{ReaderState, idle, read}
use Rattle.negotiation.specs.declared.End.{End}
use Rattle.subnegotiation.specs.Checks.{Checked}
use Rattle.subnegotiation.specs.Checks.{checked}
use Rattle.printer.specs.State.{PrinterState, with_reader}
use Rattle.printer.specs.Network.{body_handled, body_read, item_read, byte_read}

-- a body is handled as it was checked, with the reader empty
pub body_end : (s : PrinterState) (r : ReaderState) (c : Checked) → r ≡ idle → c ≡ checked End.Printer s.sides s.reader.marred s.reader.body
    → item_read s BodyEnd ≡ body_handled (with_reader s r) s.reader.body c
unfolding body_read
body_end s r c e k = rw (e, k)

-- a readable body of BM has its macro byte
pub readable_long : (body : List ℕ) (c : MacroCommand) → macro_body body ≡ Some c → 3 ≤ length body
unfolding macro_body
readable_long body c e = go (ltb (length body) 3) refl _ e
  where
    go : (t : Bool) → ltb (length body) 3 ≡ t → (rest : Option MacroCommand) → cond t None rest ≡ Some c → 3 ≤ length body
    go true t rest e = let z : ◌≡◌ {A = ℕ} 0 1 = cc in absurd (omega arith)
    go false t rest e = ltb-false (length body) 3 t

-- the rest of a slice from a place on
pub rest_all : (l : List ℕ) (n : ℕ) → take (length l - n) (drop n l) ≡ drop n l
rest_all l n = take_all (length l - n) (drop n l) (simp length-drop (omega arith))

-- a byte is the item that it completes, in the state that has the reader as it left it
pub byte_item : (s : PrinterState) (b : ℕ) (item : Item) (r : ReaderState) → item ≡ (read s.reader b).item → r ≡ (read s.reader b).reader
    → byte_read s b ≡ item_read (with_reader s r) item
unfolding byte_read
byte_item s b item r i e = ap (λ (x : ReaderState). item_read (with_reader s x) (read s.reader b).item) (sym e) ∙ ap (λ (x : Item). item_read (with_reader s r) x) (sym i)
