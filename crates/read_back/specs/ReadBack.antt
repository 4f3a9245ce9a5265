-- Text that the bulletin end sends is read back by the printer end as the same data.
use Rattle.std.specs.Prelude.{◌≡◌, Bool, true, cond, ℕ}
use mathlib.Core.List.{List, [], ◌∷◌, Memᴰ}
use Rattle.codes.specs.Telnet.{IAC}
use Rattle.codes.specs.declared.Code.TheVariants.{Done}
use Rattle.codes.specs.declared.Note.TheVariants.{Clear}
use Rattle.reader.specs.declared.Phase.TheVariants.{Between}
use Rattle.reader.specs.Reading.{idle}
use Rattle.received_macros.specs.Texts.{entry_of, plain, text}
use Rattle.rcte.specs.Control.{RcteState, holding}
use Rattle.sent_macros.specs.Sending.{sent_of, free, accepted, stored}
use Rattle.printer.specs.State as P
use Rattle.printer.specs.Session as PS
use Rattle.bulletin.specs.State as B
use Rattle.bulletin.specs.Session as BS
use Rattle.read_back.specs.Ends.{printer_answers, printer_paper, printer_after, bulletin_after, reached, NetworkCalls}
use Rattle.read_back.specs.TextSent.{Sending, Allowed, data_of, answer, answers, all_data, all_wire}

-- The premise of demand 2, in its words. BM is in force at both ends or at neither, and the printer end is between commands. Its table
-- has the same text, in its stored form, for each byte accepted at the bulletin end, and none for each byte free there. Of a byte that
-- is pending or refused there nothing is asked.
pub record Demanded (b : B.BulletinState) (p : P.PrinterState) : Type 0 where
  pub macros : B.bm_in_force b ≡ P.bm_in_force p
  pub between_commands : p.reader.phase ≡ Between
  pub same : (x : ℕ) (t : List ℕ) → sent_of b.table x ≡ accepted t → entry_of p.table x ≡ text (stored t)
  pub none : (x : ℕ) → sent_of b.table x ≡ free → entry_of p.table x ≡ plain

-- The weaker premise that the claims rest on. Tables are compared only as far as the ends go by them: the bulletin end uses texts
-- while it has BM in force, and the printer end replaces bytes while it has. So BM may be in force at the printer end alone, as it is
-- while the bulletin end waits for its request to be agreed.
pub record Agreed (b : B.BulletinState) (p : P.PrinterState) : Type 0 where
  pub macros : B.bm_in_force b ≡ true → P.bm_in_force p ≡ true
  pub between : p.reader.phase ≡ Between
  pub same : B.bm_in_force b ≡ true → (x : ℕ) (t : List ℕ) → sent_of b.table x ≡ accepted t → entry_of p.table x ≡ text (stored t)
  pub none : P.bm_in_force p ≡ true → (x : ℕ) → sent_of (B.definitions_now b) x ≡ free → entry_of p.table x ≡ plain

-- 255 goes out doubled, never as LITERAL: the printer end must have no text for it
abbrev pub IacFree : B.BulletinState → Type 0
IacFree b = sent_of b.table IAC ≡ free

-- an answer of the printer end that only prints: code 0, no note, no reply, no key taken up; so all of its paper is data
pub record OnlyPrints (a : P.CallEffect) : Type 0 where
  pub code : a.code ≡ Done
  pub note : a.effect.note ≡ Clear
  pub wire : a.effect.wire ≡ []
  pub taken : a.effect.taken ≡ []

-- data holds under RCTE; where there is none the echo stays
abbrev pub rcte_after : Bool → List ℕ → RcteState → RcteState
rcte_after rcte [] e = e
rcte_after rcte (x ∷ xs) e = cond rcte (holding e) e

-- q is p behind this data. The reader is between commands again, and still idle if it was; of the rest only the hold changes.
pub record OnlyHolds (bytes : List ℕ) (p q : P.PrinterState) : Type 0 where
  pub sides : q.sides ≡ p.sides
  pub between : q.reader.phase ≡ Between
  pub reader : p.reader ≡ idle → q.reader ≡ idle
  pub table : q.table ≡ p.table
  pub rcte : q.rcte ≡ rcte_after (P.rcte_in_force p) bytes p.rcte
  pub values : q.values ≡ p.values

-- the printer end's answers from the state p, as it reads exactly this data
pub record ReadAs (bytes : List ℕ) (p : P.PrinterState) (given : List P.CallEffect) : Type 0 where
  pub each : (a : P.CallEffect) → Memᴰ a given → OnlyPrints a
  pub paper : printer_paper given ≡ bytes
  pub state : OnlyHolds bytes p (printer_after p given)

-- these calls read the data, and behind them the premise holds again, of the bulletin end b
pub record ReadBack (Premise : B.BulletinState → P.PrinterState → Type 0) (bytes : List ℕ) (b : B.BulletinState) (p : P.PrinterState) (calls : List PS.Call) : Type 0 where
  pub read : ReadAs bytes p (printer_answers p calls)
  pub again : Premise b (printer_after p (printer_answers p calls))

-- an answer of the bulletin end that only sends: code 0, no note, nothing for the host
pub record OnlySends (a : B.CallEffect) : Type 0 where
  pub code : a.code ≡ Done
  pub note : a.effect.note ≡ Clear
  pub host : a.effect.host ≡ []

-- One text item or use of a macro. Assumed: two states that agree, reached or not, 255 free, and that it is allowed.
-- Promised: it is not refused, its bytes are read as its data in whatever buffers code 1 allows, and the ends agree
-- again. Ruled out: an end that refuses everything, or handles its first byte alone; a macro byte that prints another
-- text than the accepted one.
abbrev pub EachReadBack : Type 0
EachReadBack =
    (b : B.BulletinState) (p : P.PrinterState) → IacFree b → Agreed b p
    → (c : Sending) → Allowed b c
    → (calls : List PS.Call) → NetworkCalls (answer b c).effect.wire calls
    → OnlySends (answer b c) × ReadBack Agreed (data_of b c) (answer b c).effect.state p calls

-- Any list of items and uses, refused ones included. Assumed: two states that agree, 255 free. Promised: all paper is
-- the data of those that are allowed, in order; as every first part of a list is a list, the ends agree throughout.
-- Ruled out: text that is lost or doubled; a macro byte that goes out before its ACCEPT, or after a REFUSE.
abbrev pub AllReadBack : Type 0
AllReadBack =
    (b : B.BulletinState) (p : P.PrinterState) → IacFree b → Agreed b p
    → (cs : List Sending) (calls : List PS.Call) → NetworkCalls (all_wire b cs) calls
    → ReadBack Agreed (all_data b cs) (bulletin_after b (answers b cs)) p calls

-- A macro's byte, bare on the wire. Assumed: two states that agree, BM in force at the bulletin end, the byte
-- accepted there with this text. Promised: it is read as the text that was given to DEFINE, its 255s single. Ruled
-- out: an old text under that byte; 255s that come out twice.
abbrev pub MacroReadBack : Type 0
MacroReadBack =
    (b : B.BulletinState) (p : P.PrinterState) → Agreed b p → B.bm_in_force b ≡ true
    → (x : ℕ) (t : List ℕ) → sent_of b.table x ≡ accepted t
    → (calls : List PS.Call) → NetworkCalls (x ∷ []) calls
    → ReadAs t p (printer_answers p calls)

-- Assumed: any session of the bulletin end. Promised: it leaves 255 free, which EachReadBack and AllReadBack assume.
-- Ruled out: a DEFINE of 255 that goes out; an ACCEPT of 255 that is believed.
abbrev pub IacStaysFree : Type 0
IacStaysFree = (session : List BS.Call) → IacFree (reached session)

-- Assumed: the premise of demand 2, of any two states. Promised: the ends agree, so that the claims above speak of
-- them. Ruled out: a premise of these claims that asks for more than the demand: that BM be in force, that a pending
-- byte have no text.
abbrev pub DemandedAgree : Type 0
DemandedAgree = (b : B.BulletinState) (p : P.PrinterState) → Demanded b p → Agreed b p

-- Assumed: nothing. Promised: two fresh ends meet the premise of demand 2. (Defined and Incident have ends that meet
-- it with a macro accepted, and with one refused.) Ruled out: a fresh end with a text in its table, or in the midst
-- of a command.
abbrev pub FreshDemanded : Type 0
FreshDemanded = Demanded B.fresh P.fresh

-- Demand 2 as it is worded. Assumed: any session of the bulletin end, and any state of the printer end that meets the
-- demand's premise with it. Promised: all text then sent, by whatever list of items and uses, is read back as the
-- same data, and the premise is met again. Ruled out: a printer end that prints nothing, or always the same; one that
-- handles its first byte and then only answers 0.
abbrev pub TextReadBack : Type 0
TextReadBack =
    (session : List BS.Call) (p : P.PrinterState) → Demanded (reached session) p
    → (cs : List Sending) (calls : List PS.Call) → NetworkCalls (all_wire (reached session) cs) calls
    → ReadBack Demanded (all_data (reached session) cs) (bulletin_after (reached session) (answers (reached session) cs)) p calls
