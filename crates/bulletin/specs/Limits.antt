-- The claims that one call fits its lent buffers, from every state.
use Rattle.std.specs.Prelude.{false, ◌≡◌, List, ℕ, ◌≤◌, length}
use Rattle.codes.specs.Answers.{paper_room, wire_room}
use Rattle.codes.specs.Telnet.{DS}
use Rattle.keys.specs.declared.Key.{Key}
use Rattle.negotiation.specs.declared.OptionState.{OptionState}
use Rattle.negotiation.specs.declared.Side.{Side}
use Rattle.codes.specs.declared.Disposition.{Disposition}
use Rattle.disposition.specs.ByOption.{Handlings}
use Rattle.disposition.specs.Handled.{suggestion}
use Rattle.sent_macros.specs.Sending.{Definitions, is_too_long, define_bytes}
use Rattle.bulletin.specs.State.{BulletinState, Effect}
use Rattle.bulletin.specs.Network.{side_moved, network_read}
use Rattle.bulletin.specs.Calls.{order_bytes, item_bytes, item_sent}
use Rattle.bulletin.specs.Session.{Call, called}

-- what a step writes fits buffers of the sizes that code 1 asks for
abbrev pub FitsWire : List ℕ → Type 0
FitsWire bytes = length bytes ≤ wire_room

pub record Fits (d : Effect) : Type 0 where
  pub host : length d.host ≤ paper_room
  pub wire : FitsWire d.wire

-- A part of CallFits: a network byte. Assumed, promised and ruled out as there.
abbrev pub NetworkFits : Type 0
NetworkFits = (s : BulletinState) (b : ℕ) → Fits (network_read s b)

-- A part of CallFits: a reply or a request, which is three bytes at most. Assumed, promised and ruled out as there.
abbrev pub MoveFits : Type 0
MoveFits = (s : BulletinState) (side : Side) (q : OptionState) (reply : List ℕ) → length reply ≤ 3 → Fits (side_moved s side q reply)

-- A part of CallFits: a suggestion. Assumed, promised and ruled out as there.
abbrev pub SuggestionFits : Type 0
SuggestionFits = (d : Disposition) (v : ℕ) → FitsWire (suggestion d DS v)

-- A part of CallFits: an order. Assumed, promised and ruled out as there.
abbrev pub OrderFits : Type 0
OrderFits = (cmd breaks sends : ℕ) → FitsWire (order_bytes cmd breaks sends)

-- A part of CallFits: a DEFINE that code 8 does not refuse. Assumed, promised and ruled out as there.
abbrev pub DefineFits : Type 0
DefineFits = (t : Definitions) (x : ℕ) (text : List ℕ) → is_too_long t x text ≡ false → FitsWire (define_bytes x text)

-- the most bytes of an item: 502 of data, each as LITERAL
abbrev pub item_wire_room : ℕ
item_wire_room = 3514

-- Assumed: any table, any handling and any item. Promised: it goes out in at most 3,514 bytes. Ruled out: NULs for
-- each option that are added to more than a Line; a LITERAL of more than seven bytes.
abbrev pub ItemWithin : Type 0
ItemWithin = (t : Definitions) (h : Handlings) (k : Key) → length (item_bytes t h k) ≤ item_wire_room

-- A part of CallFits: a text item. Assumed, promised and ruled out as there.
abbrev pub ItemFits : Type 0
ItemFits = (s : BulletinState) (k : Key) → Fits (item_sent s k)

-- Assumed: nothing, it holds of every state. Promised: what one call writes fits the buffers that code 1 asks for, so
-- that no other refusal for want of room is needed. Ruled out: padding of more NULs than the wire holds as LITERALs;
-- a text that is sent in spite of code 8. It is a bound: rules that do nothing meet it.
abbrev pub CallFits : Type 0
CallFits = (s : BulletinState) (c : Call) → Fits (called s c).effect
