-- A byte that changes nothing but the sides, the reader's phase and the waits, read from these parts alone.
use Rattle.std.specs.Prelude.{◌≡◌, Option, Some, None, Bool, true, false, cond, List, [], ◌∷◌, ℕ}
use Rattle.lists.specs.Buffers.{Lent, untouched, RoomFor, WroteBothAtStart}
use Rattle.codes.specs.declared.Note.TheVariants.{Clear}
use Rattle.codes.specs.declared.Verb.{Verb}
use Rattle.negotiation.specs.declared.End.{End}
use Rattle.negotiation.specs.declared.Side.{Side}
use Rattle.negotiation.specs.declared.Side.TheVariants.{Echo, BulletinSga, Rcte, Macro, PrinterSga, Disposes, Uncarried}
use Rattle.negotiation.specs.declared.Turn.{Turn}
use Rattle.negotiation.specs.Carried.{moved, reply_bytes, heard_by}
use Rattle.disposition.specs.ByOption.{no_waits}
use Rattle.reader.specs.declared.Phase.{Phase}
use Rattle.reader.specs.declared.Item.{Item}
use Rattle.reader.specs.declared.PhaseRead.{PhaseRead}
use Rattle.reader.specs.Reading.{item_by}
use Rattle.reader.specs.Phases.{phase_read}
use Rattle.bulletin.specs.declared.Bulletin.{Bulletin}
use Rattle.bulletin.specs.declared.in_place.InPlace.{InPlace}
use Rattle.bulletin.specs.declared.in_place.Parts.{Parts}
use Rattle.bulletin.specs.State.{Effect}
use Rattle.bulletin.specs.Network.{network_read}
use Rattle.bulletin.specs.Refinement.{view_bulletin}

-- what such a byte does
pub record InPlaceEffect : Type 0 where
  pub parts : Parts
  pub host : List ℕ
  pub wire : List ℕ

-- a side whose state is all that moves with it: not BM's, which empties its table, nor that of an option about output disposition, which forgets its values
abbrev pub moves_alone : Side → Bool
moves_alone Echo = true
moves_alone BulletinSga = true
moves_alone Rcte = true
moves_alone Macro = false
moves_alone PrinterSga = true
moves_alone (Disposes d) = false
moves_alone Uncarried = true

-- a byte in these parts; next is the phase that it moves the reader to
module _ (p : Parts) where
  -- data goes to the host, and ends every wait
  abbrev pub gives_data : (next : Phase) → ℕ → InPlaceEffect
  gives_data next b = record { parts = record { sides = p.sides; phase = next; waits = no_waits }; host = b ∷ []; wire = [] }

  abbrev pub phase_moves : (next : Phase) → InPlaceEffect
  phase_moves next = record { parts = record { sides = p.sides; phase = next; waits = p.waits }; host = []; wire = [] }

  abbrev pub side_moves : (next : Phase) → Turn → (option : ℕ) → InPlaceEffect
  side_moves next t option = record {
    parts = record { sides = moved p.sides t.side t.next; phase = next; waits = p.waits };
    host = [];
    wire = reply_bytes t.whose t.reply option;
  }

  -- none where the byte needs the rest of the state
  abbrev pub turn_in_place : (next : Phase) → Turn → (option : ℕ) → Option InPlaceEffect
  turn_in_place next t option = cond (moves_alone t.side) (Some (side_moves next t option)) None

  abbrev pub negotiated_in_place : (next : Phase) → Verb → ℕ → Option InPlaceEffect
  negotiated_in_place next v option = turn_in_place next (heard_by End.Bulletin p.sides v option) option

  abbrev pub item_in_place : PhaseRead → Option InPlaceEffect
  item_in_place m = item_by (Some (phase_moves m.phase)) (λ b. Some (gives_data m.phase b)) (negotiated_in_place m.phase) None None m.item

  abbrev pub moved_in_place : Option PhaseRead → Option InPlaceEffect
  moved_in_place None = None
  moved_in_place (Some m) = item_in_place m

  unfoldable pub in_place_read : ℕ → Option InPlaceEffect
  in_place_read b = moved_in_place (phase_read p.phase b)

-- these parts of the code's state, and the state with them, the rest as it was
abbrev pub parts_of : Bulletin → Parts
parts_of s = record { sides = s.sides; phase = s.reader.phase; waits = s.waits }

abbrev pub in_place : Bulletin → Parts → Bulletin
in_place s p = record {
  sides = p.sides;
  reader = record { phase = p.phase; marred = s.reader.marred; body = s.reader.body; len = s.reader.len };
  table = s.table;
  values = s.values;
  waits = p.waits;
  issues = s.issues;
}

-- an effect on parts, as that on the whole state
abbrev pub step_in_place : Bulletin → InPlaceEffect → Effect
step_in_place s e = record { note = Clear; host = e.host; wire = e.wire; state = view_bulletin (in_place s e.parts) }

-- Assumed: any state of the code, reached or not. Promised: a byte that is handled does what a network byte does there, without a
-- note, and leaves all but these parts as it was. Ruled out: data that leaves output waiting; a negotiation that is handled without
-- what follows from it.
abbrev pub ReadInPlace : Type 0
ReadInPlace = (s : Bulletin) (b : ℕ) (e : InPlaceEffect) → in_place_read (parts_of s) b ≡ Some e → network_read (view_bulletin s) b ≡ step_in_place s e

-- there is room for what is written
abbrev pub HasRoom : Option InPlaceEffect → (host wire : List ℕ) → Type 0
HasRoom None host wire = Unit {0}
HasRoom (Some e) host wire = RoomFor e.host host × RoomFor e.wire wire

abbrev pub HasRoomOnWire : Option InPlaceEffect → (wire : List ℕ) → Type 0
HasRoomOnWire None wire = Unit {0}
HasRoomOnWire (Some e) wire = RoomFor e.wire wire

-- the code's answer is the rule's: the parts, the counts, and every byte of the two lent buffers
pub record DoesInPlace (e : InPlaceEffect) (lent_host lent_wire : Lent) (r : InPlace) : Type 0 where
  pub parts : r.parts ≡ e.parts
  pub wrote : WroteBothAtStart e.host e.wire lent_host lent_wire r.host r.wire

-- .. or none, just where the rule has none, and nothing is written
abbrev pub RefinesInPlace : Option InPlaceEffect → (lent_host lent_wire : Lent) → Option InPlace → Type 0
RefinesInPlace None lent_host lent_wire None = WroteBothAtStart [] [] lent_host lent_wire 0 0
RefinesInPlace None lent_host lent_wire (Some r) = ⊥
RefinesInPlace (Some e) lent_host lent_wire None = ⊥
RefinesInPlace (Some e) lent_host lent_wire (Some r) = DoesInPlace e lent_host lent_wire r

-- where one of the buffers is not lent, nothing is written to it
pub record RefinesInPlaceOnHost (e : InPlaceEffect) (lent_host : Lent) (r : InPlace) : Type 0 where
  pub met : (wire : List ℕ) → DoesInPlace e lent_host (untouched wire) r

pub record RefinesInPlaceOnWire (e : Option InPlaceEffect) (lent_wire : Lent) (r : Option InPlace) : Type 0 where
  pub met : (host : List ℕ) → RefinesInPlace e (untouched host) lent_wire r
