-- By whether the macros may replace the byte.
use mathlib.Core.Path.{◌≡◌, refl, sym, ◌∙◌}
use mathlib.Core.Bool.{Bool, true, false, not, ◌&&◌, false≢true}
use Prim.Native.Nat.{ℕ}
use Rattle.reader.specs.Reading.{is_between}
use Rattle.received_macros.specs.Texts.{entry_of}
use Rattle.received_macros.specs.Refinement.{is_unmarked}
use Rattle.received_macros.proofs.View.{unmarked_plain}
use Rattle.printer.specs.declared.Printer.{Printer}
use Rattle.printer.specs.State.{bm_in_force}
use Rattle.printer.specs.Network.{byte_read, entry_read, network_read}
use Rattle.printer.specs.InPlace.{may_replace}
use Rattle.printer.specs.Refinement.{view_printer}
use Rattle.printer.proofs.Choosing.{plain_read, off_read, inside_read, chosen_read}
use Rattle.printer.proofs.network.network_read.Goals as goal

module _ (p : Printer) (b : ℕ) where
  stands : may_replace p.sides p.reader.phase p.table.marks b ≡ false → network_read (view_printer p) b ≡ byte_read (view_printer p) b
  stands = go (bm_in_force (view_printer p)) (is_between p.reader.phase) (is_unmarked p.table.marks b) refl refl refl
    where
      go : (m t u : Bool) → bm_in_force (view_printer p) ≡ m → is_between p.reader.phase ≡ t → is_unmarked p.table.marks b ≡ u
          → (m && t && not u) ≡ false → network_read (view_printer p) b ≡ byte_read (view_printer p) b
      go true true true m t u k = plain_read (view_printer p) b (unmarked_plain p.table b u)
      go true true false m t u k = absurd (false≢true (sym k))
      go true false x m t u k = inside_read (view_printer p) b t
      go false x y m t u k = off_read (view_printer p) b m

  replaced : may_replace p.sides p.reader.phase p.table.marks b ≡ true
      → network_read (view_printer p) b ≡ entry_read (view_printer p) b (entry_of (view_printer p).table b)
  replaced = go (bm_in_force (view_printer p)) (is_between p.reader.phase) refl refl
    where
      go : (m t : Bool) → bm_in_force (view_printer p) ≡ m → is_between p.reader.phase ≡ t
          → (m && t && not (is_unmarked p.table.marks b)) ≡ true → network_read (view_printer p) b ≡ entry_read (view_printer p) b (entry_of (view_printer p).table b)
      go true true m t k = chosen_read (view_printer p) b m t
      go true false m t k = absurd (false≢true k)
      go false x m t k = absurd (false≢true k)

pub marked_read-requires : goal.marked_read-requires
marked_read-requires c =
    let on = rw c.parts.ensures at (sym c.may_replace.ensures ∙ c.if-may_replace.true) in
    rw (replaced c.args.s c.args.b on) at c.requires

pub returns-then-may_replace : goal.returns-then-may_replace
returns-then-may_replace c =
    let on = rw c.parts.ensures at (sym c.may_replace.ensures ∙ c.if-may_replace.true) in
    rw (replaced c.args.s c.args.b on) c.marked_read.ensures

pub byte_read-requires : goal.byte_read-requires
byte_read-requires c =
    let off = rw c.parts.ensures at (sym c.may_replace.ensures ∙ c.if-may_replace.false) in
    rw (stands c.args.s c.args.b off) at c.requires

pub returns : goal.returns
returns c =
    let off = rw c.parts.ensures at (sym c.may_replace.ensures ∙ c.if-may_replace.false) in
    rw (stands c.args.s c.args.b off) c.byte_read.ensures
