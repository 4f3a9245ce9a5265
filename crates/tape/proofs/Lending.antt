-- Buffers that are lent afresh in time: no item meets code 1.
use mathlib.Core.Path.{◌≡◌, ap}
use mathlib.Core.Bool.{Bool, false, not}
use mathlib.Core.List.{List, [], ◌∷◌}
use Prim.Native.Nat.{ℕ, ◌≤◌}
use native.Mathlib.Omega.{arith}
use borrow.Author.Tests.{le-ltb}
use Rattle.lists.proofs.Lengths.{either}
use Rattle.codes.specs.Answers.{code_number, paper_room, wire_room, no_room, Guard, refused_if, guarded}
use Rattle.codes.specs.declared.Code.{Code}
use Rattle.codes.specs.declared.Code.TheVariants.{NoRoom, AlreadySo}
use Rattle.keys.specs.declared.Key.{Key}
use Rattle.printer.specs.State.{PrinterState, CallEffect, done, refused}
use Rattle.codes.specs.declared.Whose.{Whose}
use Rattle.codes.proofs.Guards.{guarded_passed}
use Rattle.negotiation.specs.declared.End.{End}
use Rattle.negotiation.specs.declared.Side.{Side}
use Rattle.std.specs.Prelude.{Option, Some, None, Result, ok_or}
use Rattle.negotiation.specs.declared.Move.{Move}
use Rattle.negotiation.specs.Table.{asked, is_already}
use Rattle.negotiation.specs.Carried.{is_carried, state_of, clashes, reply_bytes, asked_whose, asked_side, asked_enable, asking_of, asked_by}
use Rattle.printer.specs.Network.{network_read, moved_with_reply}
use Rattle.printer.specs.Calls.{network_call, key_typed, key_call, ask_of, ask_call}
use Rattle.std.specs.Prelude.{Option, Some, None}
use Rattle.tape.specs.declared.Item.{Item}
use Rattle.tape.specs.declared.Item.TheVariants.{NetworkByte, KeyPair, AskPair}
use Rattle.tape.specs.Running.{programs, with_room, pair_of, typed_call, item_call, item_answer}
use Rattle.tape.specs.Whole.{NeverNoRoom}
use Rattle.printer.proofs.UnusedTails.{lent_is_enough}

-- a code other than 1, and guards with no other codes
abbrev NotOne : Code → Type 0
NotOne c = code_number c ≡ 1 → ⊥

abbrev NoneIsOne : List Guard → Type 0
NoneIsOne [] = Unit {0}
NoneIsOne (g ∷ gs) = NotOne g.code × NoneIsOne gs

abbrev Answered : CallEffect → Type 0
Answered a = NotOne a.code

guarded_other : (gs : List Guard) (s : PrinterState) (a : CallEffect) → NoneIsOne gs → Answered a → Answered (guarded gs (refused s) a)
unfolding guarded
guarded_other [] s a o n = n
guarded_other (g ∷ gs) s a o n = either Answered g.holds o.0 (guarded_other gs s a o.1 n)

-- an ask's refusals are codes 4, 11 and 5
ask_other : (s : PrinterState) (option : ℕ) (whose : Whose) (side : Side) (enable : Bool) → Answered (ask_of s option whose side enable)
unfolding asking_of guarded
ask_other s option whose side enable =
    let a = asked enable (state_of s.sides side) in
    either Q (not (is_carried side)) (omega arith)
    (either Q (clashes s.sides side enable) (omega arith)
    (either Q (is_already a) (omega arith) (moves a)))
  where
    Q : Result Move Code → Type 0
    Q a = Answered (asked_by (refused s) (λ q r. done (moved_with_reply s side q (reply_bytes whose r option))) a)

    moves : (a : Option Move) → Q (ok_or a AlreadySo)
    moves None = omega arith
    moves (Some m) = omega arith

module _ (s : PrinterState) (paper wire : ℕ) (p : paper_room ≤ paper) (w : wire_room ≤ wire) where
  room : no_room paper wire ≡ false
  room = rw (le-ltb paper paper_room p, le-ltb wire wire_room w)

  -- with room, the guards behind the first decide
  with_room_lem : (gs : List Guard) (a : CallEffect) → NoneIsOne gs → Answered a → Answered (guarded (refused_if (no_room paper wire) NoRoom ∷ gs) (refused s) a)
  with_room_lem gs a o n = rw (guarded_passed (refused s) a (refused_if (no_room paper wire) NoRoom) gs room) (guarded_other gs s a o n)

  of_network : (b : ℕ) → Answered (network_call s b paper wire)
  unfolding network_call
  of_network b = with_room_lem [] (done (network_read s b)) tt (omega arith)

  of_key : (k : Key) → Answered (key_call s k paper wire)
  unfolding key_call
  of_key k = with_room_lem _ (done (key_typed s k)) (omega arith) (omega arith)

  of_ask : (option way : ℕ) → Answered (ask_call s option way paper wire)
  unfolding ask_call
  of_ask option way = with_room_lem [] _ tt (ask_other s option (asked_whose way) (asked_side End.Printer option way) (asked_enable way))

  of_typed : (p : Option Key) → Answered (typed_call s p paper wire)
  of_typed (Some k) = of_key k
  of_typed None = omega arith

  of_item : (i : Item) → Answered (item_call s i paper wire)
  of_item (NetworkByte b) = of_network b
  of_item (KeyPair kind v) = of_typed (pair_of kind v)
  of_item (AskPair option way) = of_ask option way

pub never_no_room : NeverNoRoom
unfolding item_answer
never_no_room r i e =
    let lent = lent_is_enough programs r.tails (record { paper = omega arith; wire = omega arith }) in
    let tails = (with_room r).tails in
    of_item r.printer tails.paper tails.wire lent.paper lent.wire i (ap code_number e)
