-- The sizes that every state of a session keeps, and the claims that one call fits its lent buffers.
use Rattle.std.specs.Prelude.{false, ◌&&◌, ◌≡◌, ℕ, ◌≤◌, ◌<◌, length, get_or}
use mathlib.Core.List.{List, Memᴰ}
use Rattle.codes.specs.Answers.{paper_room, wire_room}
use Rattle.codes.specs.Telnet.{DR}
use Rattle.keys.specs.declared.Key.{Key}
use Rattle.codes.specs.declared.Disposition.{Disposition}
use Rattle.disposition.specs.Handled.{suggestion}
use Rattle.negotiation.specs.declared.OptionState.{OptionState}
use Rattle.negotiation.specs.declared.Side.{Side}
use Rattle.reader.specs.Reading.{body_room}
use Rattle.received_macros.specs.Texts.{entry_of}
use Rattle.received_macros.specs.Refinement.{text_of}
use Rattle.rcte.specs.Taking.{gather_room}
use Rattle.rcte.specs.Control.{wait_room, is_full}
use Rattle.printer.specs.State.{PrinterState, fresh, rcte_in_force, Effect, CallEffect}
use Rattle.printer.specs.Network.{side_moved, moved_with_reply, network_read}
use Rattle.printer.specs.Calls.{key_typed}
use Rattle.printer.specs.Session.{Call, network, key, ask, suggest, called, session}

-- a DEFINE's count is one byte
abbrev pub text_limit : ℕ
text_limit = 255

-- the sizes of a state, reached or not
pub record Sized (s : PrinterState) : Type 0 where
  pub waiting : length s.rcte.waiting ≤ wait_room
  pub gathered : length s.rcte.gathered ≤ gather_room
  pub body : length s.reader.body ≤ body_room
  pub texts : (x : ℕ) → length (text_of (entry_of s.table x)) ≤ text_limit

abbrev pub InBytes : List ℕ → Type 0
InBytes ns = (i : ℕ) → get_or ns i 0 < 256

-- what was read is bytes; without this a count could be over 255
pub record Bytewise (s : PrinterState) : Type 0 where
  pub body : InBytes s.reader.body
  pub texts : (x : ℕ) → InBytes (text_of (entry_of s.table x))

pub record Limited (s : PrinterState) : Type 0 where
  pub sized : Sized s
  pub bytewise : Bytewise s

-- what a step writes fits buffers of the sizes that code 1 asks for
pub record Fits (d : Effect) : Type 0 where
  pub paper : length d.paper ≤ paper_room
  pub wire : length d.wire ≤ wire_room

-- A part of CallFits: a network byte. Assumed, promised and ruled out as there.
abbrev pub NetworkFits : Type 0
NetworkFits = (s : PrinterState) (b : ℕ) → Sized s → Fits (network_read s b)

-- A part of CallFits: a key. Assumed, promised and ruled out as there.
abbrev pub KeyFits : Type 0
KeyFits = (s : PrinterState) (k : Key) → Sized s → Fits (key_typed s k)

-- A part of CallFits: a reply or a request, which is three bytes at most, and what follows from it. Assumed, promised
-- and ruled out as there.
abbrev pub MoveFits : Type 0
MoveFits = (s : PrinterState) (side : Side) (q : OptionState) (reply : List ℕ) → length reply ≤ 3 → Sized s → Fits (moved_with_reply s side q reply)

-- A part of CallFits: a suggestion. Assumed, promised and ruled out as there.
abbrev pub SuggestionFits : Type 0
SuggestionFits = (d : Disposition) (v : ℕ) → length (suggestion d DR v) ≤ wire_room

-- Assumed: a state of these sizes, reached or not. Promised: what one call writes fits the buffers that code 1 asks
-- for, so that no other refusal for want of room is needed. Ruled out: a macro's text that overflows the paper;
-- waiting keys that overflow the wire as RCTE ends. It is a bound: rules that do nothing meet it.
abbrev pub CallFits : Type 0
CallFits = (s : PrinterState) (c : Call) → Sized s → Fits (called s c).effect

-- Assumed: nothing. Promised: a fresh end has these sizes. Ruled out: keys that wait at the start; a text that is
-- defined at the start.
abbrev pub FreshLimited : Type 0
FreshLimited = Limited fresh

-- A part of CallKeeps: a network byte. Assumed, promised and ruled out as there.
abbrev pub NetworkKeeps : Type 0
NetworkKeeps = (s : PrinterState) (b : ℕ) → b < 256 → Limited s → Limited (network_read s b).state

-- A part of CallKeeps: a key; with RCTE in force it is not taken while 256 wait. Assumed, promised and ruled out as
-- there.
abbrev pub KeyKeeps : Type 0
KeyKeeps = (s : PrinterState) (k : Key) → (rcte_in_force s && is_full s.rcte) ≡ false → Limited s → Limited (key_typed s k).state

-- A part of CallKeeps: a side that moves. Assumed, promised and ruled out as there.
abbrev pub MoveKeeps : Type 0
MoveKeeps = (s : PrinterState) (side : Side) (q : OptionState) → Limited s → Limited (side_moved s side q).state

-- a network byte is one byte
abbrev pub OfBytes : Call → Type 0
OfBytes (network b p w) = b < 256
OfBytes (key k p w) = Unit {0}
OfBytes (ask o y p w) = Unit {0}
OfBytes (suggest o v p w) = Unit {0}

-- Assumed: a state of these sizes, and that a network byte is a byte. Promised: the state after any call has them.
-- Ruled out: a 257th key that waits, or a 513th byte that is gathered; a body of which more than 260 bytes are kept,
-- or a text of more than 255.
abbrev pub CallKeeps : Type 0
CallKeeps = (s : PrinterState) (c : Call) → OfBytes c → Limited s → Limited (called s c).effect.state

-- every answer of a session fits its buffers, and every state keeps the sizes
pub record Within (a : CallEffect) : Type 0 where
  pub fits : Fits a.effect
  pub state : Limited a.effect.state

-- Assumed: any session whose network bytes are bytes. Promised: every answer of it fits its buffers, and every state
-- has these sizes. Ruled out: a queue, or gathered bytes, that grow from call to call; a call that fits only from a
-- fresh end.
abbrev pub SessionWithin : Type 0
SessionWithin = (cs : List Call) → ((c : Call) → Memᴰ c cs → OfBytes c) → (a : CallEffect) → Memᴰ a (session cs) → Within a
