-- Which sides each end carries, and when a request is agreed.
use Rattle.std.specs.Prelude.{Bool, true, false, ◌&&◌, not, cond, List, [], ◌∷◌, ℕ, ◌%◌, ltb, eqb, Result, Ok, Err, ok_or}
use Rattle.codes.specs.Answers.{Guard, refused_if, guarded}
use Rattle.codes.specs.declared.Code.{Code}
use Rattle.codes.specs.declared.Code.TheVariants.{NotCarried, AlreadySo, EchoAgainstRcte}
use Rattle.codes.specs.Telnet.{ECHO, SGA, RCTE, BM, other_side, whose_of, enables}
use Rattle.codes.specs.Dispositions.{disposition_numbered, of_disposition, entry_of, with_entry, for_each}
use Rattle.codes.specs.declared.Disposition.{Disposition}
use Rattle.wire.specs.Frames.{negotiation}
use Rattle.codes.specs.declared.Verb.{Verb}
use Rattle.codes.specs.declared.Verb.TheVariants.{Will, Wont, Do, Dont}
use Rattle.codes.specs.declared.Whose.{Whose}
use Rattle.codes.specs.declared.Whose.TheVariants.{His, Ours}
use Rattle.negotiation.specs.declared.End.{End}
use Rattle.negotiation.specs.declared.End.TheVariants.{Printer, Bulletin}
use Rattle.negotiation.specs.declared.OptionState.{OptionState}
use Rattle.negotiation.specs.declared.OptionState.TheVariants.{No}
use Rattle.negotiation.specs.declared.Reply.{Reply}
use Rattle.negotiation.specs.declared.Reply.TheVariants.{Silent, Positive, Negative}
use Rattle.negotiation.specs.declared.Side.{Side}
use Rattle.negotiation.specs.declared.Side.TheVariants.{Echo, BulletinSga, Rcte, Macro, PrinterSga, Disposes, Uncarried}
use Rattle.negotiation.specs.declared.Sides.{Sides}
use Rattle.negotiation.specs.declared.Move.{Move}
use Rattle.negotiation.specs.declared.Turn.{Turn}
use Rattle.negotiation.specs.Table.{to, is_no, is_yes, is_yes_or_ending, heard, asked, is_already}

-- what the printer end carries: four options on his side, five on ours
unfoldable pub printer_side : Whose → ℕ → Side
printer_side His option =
    cond (eqb option ECHO) Echo
    (cond (eqb option SGA) BulletinSga
    (cond (eqb option RCTE) Rcte
    (cond (eqb option BM) Macro Uncarried)))
printer_side Ours option = cond (eqb option SGA) PrinterSga (of_disposition Uncarried Disposes (disposition_numbered option))

-- the bulletin end carries the mirror of this
abbrev pub carried_side : End → Whose → ℕ → Side
carried_side Printer whose option = printer_side whose option
carried_side Bulletin whose option = printer_side (other_side whose) option

abbrev pub is_carried : Side → Bool
is_carried Echo = true
is_carried BulletinSga = true
is_carried Rcte = true
is_carried Macro = true
is_carried PrinterSga = true
is_carried (Disposes d) = true
is_carried Uncarried = false

abbrev pub state_of : Sides → Side → OptionState
state_of s Echo = s.echo
state_of s BulletinSga = s.sga
state_of s Rcte = s.rcte
state_of s Macro = s.bm
state_of s PrinterSga = s.printersga
state_of s (Disposes d) = entry_of s.dispositions d
state_of s Uncarried = No

abbrev pub moved : Sides → Side → OptionState → Sides
moved s Echo q = record { echo = q; sga = s.sga; rcte = s.rcte; bm = s.bm; printersga = s.printersga; dispositions = s.dispositions }
moved s BulletinSga q = record { echo = s.echo; sga = q; rcte = s.rcte; bm = s.bm; printersga = s.printersga; dispositions = s.dispositions }
moved s Rcte q = record { echo = s.echo; sga = s.sga; rcte = q; bm = s.bm; printersga = s.printersga; dispositions = s.dispositions }
moved s Macro q = record { echo = s.echo; sga = s.sga; rcte = s.rcte; bm = q; printersga = s.printersga; dispositions = s.dispositions }
moved s PrinterSga q = record { echo = s.echo; sga = s.sga; rcte = s.rcte; bm = s.bm; printersga = q; dispositions = s.dispositions }
moved s (Disposes d) q = record {
  echo = s.echo;
  sga = s.sga;
  rcte = s.rcte;
  bm = s.bm;
  printersga = s.printersga;
  dispositions = with_entry s.dispositions d q;
}
moved s Uncarried q = s

abbrev pub all_no : Sides
all_no = record {
  echo = No;
  sga = No;
  rcte = No;
  bm = No;
  printersga = No;
  dispositions = for_each (λ d. No);
}

-- ECHO is not agreed or asked for while RCTE is away from NO, nor the reverse
abbrev pub may_enable : Sides → Side → Bool
may_enable s Echo = is_no s.rcte
may_enable s BulletinSga = true
may_enable s Rcte = is_no s.echo
may_enable s Macro = true
may_enable s PrinterSga = true
may_enable s (Disposes d) = true
may_enable s Uncarried = false

-- the clash that refuses an ask: it would enable the side from NO
unfoldable pub clashes : Sides → Side → Bool → Bool
clashes s side enable = enable && is_no (state_of s side) && not (may_enable s side)

-- the verb that a reply or a request goes out as
abbrev pub reply_verb : Whose → Bool → Verb
reply_verb His true = Do
reply_verb His false = Dont
reply_verb Ours true = Will
reply_verb Ours false = Wont

abbrev pub reply_bytes : Whose → Reply → ℕ → List ℕ
reply_bytes whose Silent option = []
reply_bytes whose Positive option = negotiation (reply_verb whose true) option
reply_bytes whose Negative option = negotiation (reply_verb whose false) option

-- a request for an uncarried option is answered, its withdrawal is not
abbrev pub declined : Bool → Reply
declined true = Negative
declined false = Silent

-- in force means YES; of BM at the printer end also that it is asked to end
abbrev pub macros_in_force : End → Sides → Bool
macros_in_force Printer s = is_yes_or_ending s.bm
macros_in_force Bulletin s = is_yes s.bm

abbrev pub disposition_in_force : Sides → Disposition → Bool
disposition_in_force s d = is_yes (entry_of s.dispositions d)

-- what a negotiation received comes to: a carried side follows the table; of an uncarried option a request is declined
abbrev pub turned : Whose → Side → Move → Turn
turned whose side m = record { side = side; next = m.next; whose = whose; reply = m.reply }

abbrev pub heard_of : Sides → Whose → Side → Bool → Turn
heard_of s whose side enable =
    cond (is_carried side) (turned whose side (heard enable (may_enable s side) (state_of s side)))
    (turned whose side (to No (declined enable)))

unfoldable pub heard_by : End → Sides → Verb → ℕ → Turn
heard_by end s v option = heard_of s (whose_of v) (carried_side end (whose_of v) option) (enables v)

-- the ways of an ask: 0 and 1 disable and enable his side, 2 and 3 ours; another names no side
abbrev pub asked_whose : ℕ → Whose
asked_whose way = cond (ltb way 2) His Ours

unfoldable pub asked_side : End → ℕ → ℕ → Side
asked_side end option way = cond (ltb 3 way) Uncarried (carried_side end (asked_whose way) option)

abbrev pub asked_enable : ℕ → Bool
asked_enable way = eqb (way % 2) 1

-- the refusals of an ask behind code 1
abbrev pub ask_guards : Sides → Side → Bool → List Guard
ask_guards sides side enable =
    refused_if (not (is_carried side)) NotCarried
    ∷ refused_if (clashes sides side enable) EchoAgainstRcte
    ∷ refused_if (is_already (asked enable (state_of sides side))) AlreadySo
    ∷ []

-- what an ask comes to
unfoldable pub asking_of : Sides → Side → Bool → Result Move Code
asking_of sides side enable = guarded (ask_guards sides side enable) Err (ok_or (asked enable (state_of sides side)) AlreadySo)

-- .. by what an end does with a refusal and with a side that moves
abbrev pub asked_by : {A : Type 0} → (Code → A) → (OptionState → Reply → A) → Result Move Code → A
asked_by refused moves (Err c) = refused c
asked_by refused moves (Ok m) = moves m.next m.reply

-- an ask about an option at an end: the turn of the side that its way names
abbrev pub asked_turn : End → Sides → ℕ → ℕ → Result Turn Code
asked_turn end s option way =
    let side = asked_side end option way in
    asked_by Err (λ q r. Ok (turned (asked_whose way) side (to q r))) (asking_of s side (asked_enable way))
