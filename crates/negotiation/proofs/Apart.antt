-- ECHO and RCTE stay apart. One law of a side's state, with the other at NO or not, serves both.
use mathlib.Core.Path.{◌≡◌, refl, sym, ◌∙◌}
use mathlib.Core.Bool.{Bool, true, false, ◌||◌, ◌&&◌, not, or_comm, or-true, or-false, true≢false, false≢true}
use Rattle.negotiation.specs.declared.OptionState.{OptionState}
use Rattle.negotiation.specs.declared.OptionState.TheVariants.{No, Yes, WantNo, WantNoOpposite, WantYes, WantYesOpposite}
use Rattle.negotiation.specs.declared.Reply.{Reply}
use Rattle.negotiation.specs.declared.Side.TheVariants.{Echo, BulletinSga, Rcte, Macro, PrinterSga, Disposes, Uncarried}
use Rattle.negotiation.specs.declared.Side.{Side}
use Rattle.negotiation.specs.declared.Sides.{Sides}
use Rattle.negotiation.specs.declared.Turn.{Turn}
use Rattle.std.specs.Prelude.{Some, None}
use Rattle.negotiation.specs.Table.{to, is_no, heard, asked}
use Rattle.negotiation.specs.Carried.{state_of, moved, may_enable, clashes, asked_side, asked_enable, asked_by, asking_of}
use Rattle.negotiation.specs.Apart.{Apart, StayApart}
use Rattle.negotiation.specs.Apart.Reached.{first, hears, asks}
use Rattle.codes.specs.Telnet.{enables}
use Rattle.negotiation.proofs.Outcomes.{heard_cases, asked_cases}

at_no : (q : OptionState) → is_no q ≡ true → q ≡ No
at_no No e = refl
at_no Yes e = absurd (false≢true e)
at_no WantNo e = absurd (false≢true e)
at_no WantNoOpposite e = absurd (false≢true e)
at_no WantYes e = absurd (false≢true e)
at_no WantYesOpposite e = absurd (false≢true e)

-- clear says that the other of the two is at NO: a request is then agreed
heard_keeps : (enable clear : Bool) (q : OptionState) → (is_no q || clear) ≡ true → (is_no (heard enable clear q).next || clear) ≡ true
unfolding heard
heard_keeps enable true q e = or-true (is_no (heard enable true q).next)
heard_keeps true false q e = rw (at_no q (sym (or-false (is_no q)) ∙ e))
heard_keeps false false q e = rw (at_no q (sym (or-false (is_no q)) ∙ e))

asked_keeps : (enable clear : Bool) (q next : OptionState) (r : Reply) → (is_no q || clear) ≡ true
    → (enable && is_no q && not clear) ≡ false → asked enable q ≡ Some (to next r) → (is_no next || clear) ≡ true
unfolding asked
asked_keeps enable true q next r e clash moves = or-true (is_no next)
asked_keeps true false q next r e clash moves = absurd (true≢false (rw (at_no q (sym (or-false (is_no q)) ∙ e)) at clash))
asked_keeps false false q next r e clash moves =
    let no : q ≡ No = at_no q (sym (or-false (is_no q)) ∙ e) in
    let never : None ≡ Some (to next r) = rw no at moves in
    cc

-- what is received of a side, whichever it is
heard_apart : (s : Sides) (side : Side) (enable : Bool) → Apart s → Apart (moved s side (heard enable (may_enable s side) (state_of s side)).next)
heard_apart s Echo enable e = heard_keeps enable (is_no s.rcte) s.echo e
heard_apart s BulletinSga enable e = e
heard_apart s Rcte enable e =
    let b = is_no s.echo in
    or_comm b (is_no (heard enable b s.rcte).next) ∙ heard_keeps enable b s.rcte (or_comm (is_no s.rcte) b ∙ e)
heard_apart s Macro enable e = e
heard_apart s PrinterSga enable e = e
heard_apart s (Disposes d) enable e = e
heard_apart s Uncarried enable e = e

-- and an ask that is not refused
asked_apart : (s : Sides) (side : Side) (enable : Bool) (q : OptionState) (r : Reply) → Apart s → clashes s side enable ≡ false
    → asked enable (state_of s side) ≡ Some (to q r) → Apart (moved s side q)
unfolding clashes
asked_apart s Echo enable q r e clash moves = asked_keeps enable (is_no s.rcte) s.echo q r e clash moves
asked_apart s BulletinSga enable q r e clash moves = e
asked_apart s Rcte enable q r e clash moves =
    let b = is_no s.echo in
    or_comm b (is_no q) ∙ asked_keeps enable b s.rcte q r (or_comm (is_no s.rcte) b ∙ e) clash moves
asked_apart s Macro enable q r e clash moves = e
asked_apart s PrinterSga enable q r e clash moves = e
asked_apart s (Disposes d) enable q r e clash moves = e
asked_apart s Uncarried enable q r e clash moves = e

asking_apart : (s : Sides) (side : Side) (enable : Bool) → Apart s → Apart (asked_by (λ c. s) (λ q r. moved s side q) (asking_of s side enable))
asking_apart s side enable a =
    asked_cases Apart s side enable (λ c. s) (λ q r. moved s side q) (λ c. a) (λ q r clash moves. asked_apart s side enable q r a clash moves)

pub stay_apart : StayApart
stay_apart end _ first = refl
stay_apart end _ (hears {s = s} reached v option) =
    let a = stay_apart end s reached in
    heard_cases (λ (t : Turn). Apart (moved s t.side t.next)) end s v option (λ side. heard_apart s side (enables v) a) a
stay_apart end _ (asks {s = s} reached option way q r e) =
    rw e at (asking_apart s (asked_side end option way) (asked_enable way) (stay_apart end s reached))
