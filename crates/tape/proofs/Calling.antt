-- Items: the call that each comes to, and that what it prints fits a line.
use Prim.Native.Nat.{ℕ, ◌≤◌}
use native.Mathlib.Omega.{arith}
use lib.ListN.{length}
use Rattle.codes.specs.Answers.{code_number}
use Rattle.printer.specs.State.{PrinterState}
use Rattle.printer.specs.Session.{network, key, ask, called}
use Rattle.printer.specs.Limits.{Sized, Fits}
use Rattle.printer.proofs.Limits.{call_fits}
use Rattle.std.specs.Prelude.{Option, Some, None}
use Rattle.keys.specs.declared.Key.{Key}
use Rattle.tape.specs.declared.Item.{Item}
use Rattle.tape.specs.declared.Item.TheVariants.{NetworkByte, KeyPair, AskPair}
use Rattle.tape.specs.Lines.{answer_line}
use Rattle.tape.specs.Running.{pair_of, typed_call, item_call}
use Rattle.tape.specs.Whole.{line_room}
use Rattle.tape.proofs.Bounds.{shown_fits}

module _ (s : PrinterState) (paper wire : ℕ) where
  module _ (z : Sized s) where
    typed_fits : (p : Option Key) → Fits (typed_call s p paper wire).effect
    unfolding called
    typed_fits (Some k) = call_fits s (key k paper wire) z
    typed_fits None = record { paper = omega arith; wire = omega arith }

    pub item_fits : (i : Item) → Fits (item_call s i paper wire).effect
    unfolding called
    item_fits (NetworkByte b) = call_fits s (network b paper wire) z
    item_fits (KeyPair kind v) = typed_fits (pair_of kind v)
    item_fits (AskPair option way) = call_fits s (ask option way paper wire) z

    pub line_room_lem : (field item : ℕ) (i : Item) → length (answer_line field item (item_call s i paper wire)) ≤ line_room
    line_room_lem field item i =
        let a = item_call s i paper wire in
        shown_fits field item (code_number a.code) a.effect.paper a.effect.wire (item_fits i).paper (item_fits i).wire
