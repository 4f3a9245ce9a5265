-- What a negotiation received and an ask come to, by cases: what holds of each case holds of the outcome.
use mathlib.Core.Path.{◌≡◌, refl, sym}
use mathlib.Core.Bool.{Bool, true, false, not, false≢true, cond}
use Prim.Native.Nat.{ℕ}
use Rattle.std.specs.Prelude.{Option, Some, None, Result, Ok, Err, ok_or}
use Rattle.lists.proofs.Lengths.{chosen, either}
use Rattle.codes.specs.Answers.{guarded}
use Rattle.codes.specs.Telnet.{whose_of, enables}
use Rattle.codes.specs.declared.Code.{Code}
use Rattle.codes.specs.declared.Code.TheVariants.{AlreadySo}
use Rattle.codes.specs.declared.Verb.{Verb}
use Rattle.negotiation.specs.declared.End.{End}
use Rattle.negotiation.specs.declared.OptionState.{OptionState}
use Rattle.negotiation.specs.declared.Reply.{Reply}
use Rattle.negotiation.specs.declared.Side.{Side}
use Rattle.negotiation.specs.declared.Side.TheVariants.{Echo, BulletinSga, Rcte, Macro, PrinterSga, Disposes, Uncarried}
use Rattle.negotiation.specs.declared.OptionState.TheVariants.{No}
use Rattle.negotiation.specs.declared.Sides.{Sides}
use Rattle.negotiation.specs.declared.Move.{Move}
use Rattle.negotiation.specs.declared.Turn.{Turn}
use Rattle.negotiation.specs.Table.{to, heard, asked, is_already}
use Rattle.negotiation.specs.Carried.{carried_side, is_carried, clashes, state_of, may_enable, declined, turned, heard_by, asked_whose, asked_side, asked_enable, asking_of, asked_by, asked_turn}

uncarried : (side : Side) → is_carried side ≡ false → side ≡ Uncarried
uncarried Echo e = absurd (false≢true (sym e))
uncarried BulletinSga e = absurd (false≢true (sym e))
uncarried Rcte e = absurd (false≢true (sym e))
uncarried Macro e = absurd (false≢true (sym e))
uncarried PrinterSga e = absurd (false≢true (sym e))
uncarried (Disposes d) e = absurd (false≢true (sym e))
uncarried Uncarried e = refl

-- a carried side follows the table, an uncarried option is declined
pub heard_cases : (P : Turn → Type 0) (end : End) (s : Sides) (v : Verb) (option : ℕ)
    → ((side : Side) → P (turned (whose_of v) side (heard (enables v) (may_enable s side) (state_of s side))))
    → P (turned (whose_of v) Uncarried (to No (declined (enables v))))
    → P (heard_by end s v option)
unfolding heard_by
heard_cases P end s v option carries declines = go (is_carried side) refl
  where
    side : Side
    side = carried_side end (whose_of v) option

    go : (t : Bool) → is_carried side ≡ t
        → P (cond t (turned (whose_of v) side (heard (enables v) (may_enable s side) (state_of s side))) (turned (whose_of v) side (to No (declined (enables v)))))
    go true e = carries side
    go false e = rw (uncarried side e) declines

-- an ask is refused, or moves a side that it does not clash with
module _ (P : Result Move Code → Type 0) (s : Sides) (side : Side) (enable : Bool) where
  pub asking_cases : ((c : Code) → P (Err c))
      → ((q : OptionState) (r : Reply) → clashes s side enable ≡ false → asked enable (state_of s side) ≡ Some (to q r) → P (Ok (to q r)))
      → P (asking_of s side enable)
  unfolding asking_of guarded
  asking_cases refuses goes =
      either P (not (is_carried side)) (refuses _)
      (chosen P (clashes s side enable) (λ c. refuses _) (λ c. last (asked enable (state_of s side)) refl c))
    where
      last : (a : Option Move) → asked enable (state_of s side) ≡ a → clashes s side enable ≡ false → P (cond (is_already a) (Err AlreadySo) (ok_or a AlreadySo))
      last None e c = refuses _
      last (Some m) e c = goes m.next m.reply c e

-- .. and so of what an end does by it
module _ {A : Type 0} (P : A → Type 0) (s : Sides) (side : Side) (enable : Bool) (refused : Code → A) (moves : OptionState → Reply → A) where
  pub asked_cases : ((c : Code) → P (refused c))
      → ((q : OptionState) (r : Reply) → clashes s side enable ≡ false → asked enable (state_of s side) ≡ Some (to q r) → P (moves q r))
      → P (asked_by refused moves (asking_of s side enable))
  asked_cases refuses goes = asking_cases (λ (a : Result Move Code). P (asked_by refused moves a)) s side enable refuses goes

-- what an end does with a refusal and with a turn
abbrev pub by_turn : {A : Type 0} → (Code → A) → (Turn → A) → Result Turn Code → A
by_turn refused turns (Err c) = refused c
by_turn refused turns (Ok t) = turns t

-- an ask that is answered by its outcome is answered by its turn
pub asked_through : {A : Type 0} (end : End) (s : Sides) (option way : ℕ) (refused : Code → A) (turns : Turn → A)
    → asked_by refused (λ q r. turns (turned (asked_whose way) (asked_side end option way) (to q r))) (asking_of s (asked_side end option way) (asked_enable way))
    ≡ by_turn refused turns (asked_turn end s option way)
asked_through end s option way refused turns = go (asking_of s side (asked_enable way))
  where
    side : Side
    side = asked_side end option way

    go : (a : Result Move Code) → asked_by refused (λ q r. turns (turned (asked_whose way) side (to q r))) a
        ≡ by_turn refused turns (asked_by Err (λ q r. Ok (turned (asked_whose way) side (to q r))) a)
    go (Err c) = refl
    go (Ok m) = refl
