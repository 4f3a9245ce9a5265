-- A network byte read from the option states, the reader's phase, RCTE's hold and the macros alone, where it changes nothing but the
-- first two.
use Rattle.std.specs.Prelude.{◌≡◌, Option, Some, None, Bool, true, false, not, ◌&&◌, cond, List, [], ◌∷◌, ℕ, ◌≤◌, length, eqb}
use Rattle.lists.specs.Buffers.{Lent, untouched, WroteBothAtStart}
use Rattle.lists.specs.Fronts.{front}
use Rattle.codes.specs.Answers.{paper_room, wire_room}
use Rattle.codes.specs.Telnet.{not_iac}
use Rattle.codes.specs.declared.Note.TheVariants.{Clear}
use Rattle.codes.specs.declared.Verb.{Verb}
use Rattle.negotiation.specs.declared.End.{End}
use Rattle.negotiation.specs.declared.Side.{Side}
use Rattle.negotiation.specs.declared.Side.TheVariants.{Echo, BulletinSga, Rcte, Macro, PrinterSga, Disposes, Uncarried}
use Rattle.negotiation.specs.declared.Sides.{Sides}
use Rattle.negotiation.specs.declared.Turn.{Turn}
use Rattle.negotiation.specs.Carried.{moved, reply_bytes, heard_by, macros_in_force}
use Rattle.reader.specs.declared.Item.{Item}
use Rattle.reader.specs.declared.Phase.{Phase}
use Rattle.reader.specs.declared.PhaseRead.{PhaseRead}
use Rattle.reader.specs.Phases.{phase_read}
use Rattle.reader.specs.Reading.{item_by, is_between}
use Rattle.received_macros.specs.declared.Texts.{Texts}
use Rattle.received_macros.specs.Texts.{Entry, plain, text, entry_of}
use Rattle.received_macros.specs.Refinement.{view_texts, is_unmarked}
use Rattle.printer.specs.declared.Printer.{Printer}
use Rattle.printer.specs.declared.in_place.InPlace.{InPlace}
use Rattle.printer.specs.State.{Effect}
use Rattle.printer.specs.Network.{network_read}
use Rattle.printer.specs.Stretches.{is_settled}
use Rattle.printer.specs.Refinement.{view_printer}

-- what such a byte does; one that is not handled does nothing
pub record InPlaceEffect : Type 0 where
  pub handled : Bool
  pub sides : Sides
  pub phase : Phase
  pub paper : List ℕ
  pub wire : List ℕ

abbrev pub unhandled : Sides → Phase → InPlaceEffect
unhandled sides phase = record { handled = false; sides = sides; phase = phase; paper = []; wire = [] }

abbrev pub prints_in_place : List ℕ → Sides → Phase → InPlaceEffect
prints_in_place bytes sides phase = record { handled = true; sides = sides; phase = phase; paper = bytes; wire = [] }

abbrev pub replies_in_place : List ℕ → Sides → Phase → InPlaceEffect
replies_in_place bytes sides phase = record { handled = true; sides = sides; phase = phase; paper = []; wire = bytes }

-- a text that is plain throughout
abbrev pub is_plain_text : List ℕ → Bool
is_plain_text bytes = eqb (front not_iac bytes) (length bytes)

abbrev pub text_in_place : Sides → Phase → List ℕ → InPlaceEffect
text_in_place sides phase t = cond (is_plain_text t) (prints_in_place t sides phase) (unhandled sides phase)

-- a byte that has a mark, by its entry
unfoldable pub entry_in_place : Sides → Phase → (held : Bool) → Entry → InPlaceEffect
entry_in_place sides phase held plain = unhandled sides phase
entry_in_place sides phase held (text t) = cond (is_settled sides phase held) (text_in_place sides phase t) (unhandled sides phase)

-- data is printed where it has nothing to hold
abbrev pub data_in_place : Sides → (phase next : Phase) → (held : Bool) → ℕ → InPlaceEffect
data_in_place sides phase next held b = cond (is_settled sides next held) (prints_in_place (b ∷ []) sides next) (unhandled sides phase)

-- nothing but its state follows as the side moves
abbrev pub moves_alone : Side → Bool
moves_alone Echo = true
moves_alone BulletinSga = true
moves_alone Rcte = false
moves_alone Macro = false
moves_alone PrinterSga = true
moves_alone (Disposes d) = false
moves_alone Uncarried = true

unfoldable pub turn_in_place : Sides → (phase next : Phase) → ℕ → Turn → InPlaceEffect
turn_in_place sides phase next option t =
    cond (moves_alone t.side) (replies_in_place (reply_bytes t.whose t.reply option) (moved sides t.side t.next) next) (unhandled sides phase)

abbrev pub negotiated_in_place : Sides → (phase next : Phase) → Verb → ℕ → InPlaceEffect
negotiated_in_place sides phase next v option = turn_in_place sides phase next option (heard_by End.Printer sides v option)

-- what a byte completed, the phase after it being next
unfoldable pub item_in_place : Sides → (phase next : Phase) → (held : Bool) → Item → InPlaceEffect
item_in_place sides phase next held i =
    item_by (prints_in_place [] sides next) (data_in_place sides phase next held) (negotiated_in_place sides phase next) (unhandled sides phase) (unhandled sides phase) i

-- a byte read as it stands, by what moves where the phase alone does
abbrev pub moved_in_place : Sides → Phase → (held : Bool) → Option PhaseRead → InPlaceEffect
moved_in_place sides phase held None = unhandled sides phase
moved_in_place sides phase held (Some m) = item_in_place sides phase m.phase held m.item

unfoldable pub byte_in_place : Sides → Phase → (held : Bool) → ℕ → InPlaceEffect
byte_in_place sides phase held b = moved_in_place sides phase held (phase_read phase b)

-- a byte that the macros may replace; even IAC has a mark in a state that no session reaches
abbrev pub may_replace : Sides → Phase → (marks : List ℕ) → ℕ → Bool
may_replace sides phase marks b = macros_in_force End.Printer sides && is_between phase && not (is_unmarked marks b)

unfoldable pub in_place_read : Sides → Phase → (held : Bool) → Texts → ℕ → InPlaceEffect
in_place_read sides phase held t b = cond (may_replace sides phase t.marks b) (entry_in_place sides phase held (entry_of (view_texts t) b)) (byte_in_place sides phase held b)

-- the same state with other option states and another phase
abbrev pub in_place : Printer → Sides → Phase → Printer
in_place p sides phase = record {
  sides = sides;
  reader = record { phase = phase; marred = p.reader.marred; body = p.reader.body; len = p.reader.len };
  table = p.table;
  rcte = p.rcte;
  values = p.values;
}

-- a byte that is handled, as a step of the whole state
abbrev pub step_in_place : Printer → InPlaceEffect → Effect
step_in_place p e = record { note = Clear; paper = e.paper; wire = e.wire; taken = []; state = view_printer (in_place p e.sides e.phase) }

-- Assumed: any state of the code, reached or not. Promised: a byte that is handled does what a network byte does there, and
-- leaves all but the option states and the phase as it was. Ruled out: a byte that is printed though a macro replaces it, or
-- though RCTE then holds; a negotiation that is handled without what follows from it.
abbrev pub ReadInPlace : Type 0
ReadInPlace =
    (p : Printer) (b : ℕ) → let e = in_place_read p.sides p.reader.phase p.rcte.held p.table b in
    e.handled ≡ true → network_read (view_printer p) b ≡ step_in_place p e

-- Assumed: nothing. Promised: a byte that is not handled leaves both parts as they were, and writes nothing. Ruled out: a byte that
-- is read twice, here and with the whole state.
abbrev pub UnhandledStays : Type 0
UnhandledStays =
    (sides : Sides) (phase : Phase) (held : Bool) (t : Texts) (b : ℕ) → let e = in_place_read sides phase held t b in
    e.handled ≡ false → e ≡ unhandled sides phase

-- Assumed: any state of the code, reached or not. Promised: what such a byte writes fits buffers of the sizes that code 1 asks for.
-- Ruled out: a byte that is handled though its text overflows the paper.
abbrev pub InPlaceFits : Type 0
InPlaceFits =
    (p : Printer) (b : ℕ) → let e = in_place_read p.sides p.reader.phase p.rcte.held p.table b in
    (length e.paper ≤ paper_room) × (length e.wire ≤ wire_room)

-- what the code answers of a byte that is handled: the parts after it, and every lent byte
pub record HandledInPlace (e : InPlaceEffect) (paper wire : Lent) (r : InPlace) : Type 0 where
  pub handled : e.handled ≡ true
  pub sides : r.parts.sides ≡ e.sides
  pub phase : r.parts.phase ≡ e.phase
  pub wrote : WroteBothAtStart e.paper e.wire paper wire r.paper r.wire

-- .. and of one that is not
pub record UnhandledInPlace (e : InPlaceEffect) (paper wire : Lent) : Type 0 where
  pub handled : e.handled ≡ false
  pub wrote : WroteBothAtStart e.paper e.wire paper wire 0 0

abbrev pub RefinesInPlace : InPlaceEffect → Lent → Lent → Option InPlace → Type 0
RefinesInPlace e paper wire None = UnhandledInPlace e paper wire
RefinesInPlace e paper wire (Some r) = HandledInPlace e paper wire r

-- the same of one that writes only on the paper, or only on the wire
pub record RefinesInPlaceOnPaper (e : InPlaceEffect) (paper : Lent) (r : Option InPlace) : Type 0 where
  pub met : (wire : List ℕ) → RefinesInPlace e paper (untouched wire) r

pub record RefinesInPlaceOnWire (e : InPlaceEffect) (wire : Lent) (r : Option InPlace) : Type 0 where
  pub met : (paper : List ℕ) → RefinesInPlace e (untouched paper) wire r

-- the table in two lent arrays
abbrev pub table_in : (marks cells : List ℕ) → Texts
table_in marks cells = record { marks = marks; cells = cells }

-- the entry of a byte there
abbrev pub entry_in_table : (marks cells : List ℕ) → ℕ → Entry
entry_in_table marks cells b = entry_of (view_texts (table_in marks cells)) b
