-- A byte that is handled in place is read as the rule of a network byte says.
use Rattle.std.proofs.Common.{Option, Some, None, is_some, unwrap_or}
use mathlib.Core.Path.{◌≡◌, refl, ap, ◌∙◌}
use mathlib.Core.Bool.{Bool, true, false, cond, false≢true}
use mathlib.Core.List.{List, []}
use Prim.Native.Nat.{ℕ}
use native.Mathlib.Omega.{arith}
use lib.ListN.{length}
use Rattle.lists.specs.Buffers.{Lent, WroteBothAtStart}
use Rattle.codes.specs.Answers.{no_room}
use Rattle.codes.proofs.Rooms.{both_lent}
use Rattle.negotiation.specs.declared.End.{End}
use Rattle.negotiation.specs.declared.OptionState.{OptionState}
use Rattle.negotiation.specs.declared.Side.{Side}
use Rattle.negotiation.specs.declared.Side.TheVariants.{Echo, BulletinSga, Rcte, Macro, PrinterSga, Disposes, Uncarried}
use Rattle.negotiation.specs.declared.Turn.{Turn}
use Rattle.negotiation.specs.Carried.{moved, heard_by, reply_bytes}
use Rattle.reader.specs.declared.Phase.{Phase}
use Rattle.reader.specs.declared.PhaseRead.{PhaseRead}
use Rattle.reader.specs.declared.Item.{Item}
use Rattle.reader.specs.declared.Item.TheVariants.{Nothing, Data, Negotiated, BodyEnd, StrayCommand}
use Rattle.reader.specs.Reading.{byte_by, in_phase}
use Rattle.reader.specs.Phases.{phase_read}
use Rattle.reader.specs.Refinement.{view_reader}
use Rattle.reader.proofs.PhaseAlone.{phase_alone}
use Rattle.bulletin.specs.declared.Bulletin.{Bulletin}
use Rattle.bulletin.specs.declared.in_place.InPlace.{InPlace}
use Rattle.bulletin.specs.State.{BulletinState, with_sides, with_reader}
use Rattle.bulletin.specs.Network.{data_read, side_state, side_moved, negotiation_read, item_read, network_read}
use Rattle.bulletin.specs.Refinement.{view_bulletin}
use Rattle.bulletin.specs.InPlace.{moves_alone, side_moves, phase_moves, gives_data, turn_in_place, item_in_place, moved_in_place, in_place_read, parts_of, step_in_place, ReadInPlace, InPlaceEffect, HasRoom, HasRoomOnWire, DoesInPlace, RefinesInPlace}
use Rattle.bulletin.proofs.Runs.{byte_fits}

side_alone : (s : BulletinState) (side : Side) (q : OptionState) → moves_alone side ≡ true → side_state s side q ≡ with_sides s (moved s.sides side q)
side_alone s Echo q e = refl
side_alone s BulletinSga q e = refl
side_alone s Rcte q e = refl
side_alone s Macro q e = absurd (false≢true e)
side_alone s PrinterSga q e = refl
side_alone s (Disposes d) q e = absurd (false≢true e)
side_alone s Uncarried q e = refl

-- one that is there is the one that was put there, by a test that held
some_back : {e : InPlaceEffect} (x : InPlaceEffect) → Some x ≡ Some e → x ≡ e
some_back x h = ap (λ (o : Option InPlaceEffect). unwrap_or o x) h

none_there : {e : InPlaceEffect} → ◌≡◌ {A = Option InPlaceEffect} None (Some e) → ⊥
none_there h = false≢true (ap (λ (o : Option InPlaceEffect). is_some o) h)

if_some : (t : Bool) (x : InPlaceEffect) {e : InPlaceEffect} → cond t (Some x) None ≡ Some e → (t ≡ true) × (x ≡ e)
if_some true x h = (refl, some_back x h)
if_some false x h = absurd (none_there h)

module _ (s : Bulletin) (next : Phase) where
  -- the state as the byte left the reader
  abbrev read_on : BulletinState
  read_on = with_reader (view_bulletin s) (in_phase (view_reader s.reader) next)

  turn_handled : (t : Turn) (option : ℕ) (e : InPlaceEffect) → turn_in_place (parts_of s) next t option ≡ Some e
      → side_moved read_on t.side t.next (reply_bytes t.whose t.reply option) ≡ step_in_place s e
  unfolding side_moved
  turn_handled t option e h =
      let both = if_some (moves_alone t.side) (side_moves (parts_of s) next t option) h in
      rw (side_alone read_on t.side t.next both.0) (ap (step_in_place s) both.1)

  item_handled : (i : Item) (e : InPlaceEffect) → item_in_place (parts_of s) (record { item = i; phase = next }) ≡ Some e
      → item_read read_on i ≡ step_in_place s e
  unfolding data_read negotiation_read
  item_handled Nothing e h = ap (step_in_place s) (some_back (phase_moves (parts_of s) next) h)
  item_handled (Data b) e h = ap (step_in_place s) (some_back (gives_data (parts_of s) next b) h)
  item_handled (Negotiated v option) e h = turn_handled (heard_by End.Bulletin s.sides v option) option e h
  item_handled BodyEnd e h = absurd (none_there h)
  item_handled StrayCommand e h = absurd (none_there h)

pub read_in_place : ReadInPlace
unfolding in_place_read network_read
read_in_place s b e h = go (phase_read s.reader.phase b) refl h
  where
    go : (m : Option PhaseRead) → phase_read s.reader.phase b ≡ m → moved_in_place (parts_of s) m ≡ Some e → network_read (view_bulletin s) b ≡ step_in_place s e
    go None q k = absurd (none_there k)
    go (Some m) q k = ap (byte_by with_reader item_read (view_bulletin s)) (phase_alone (view_reader s.reader) b m q) ∙ item_handled s m.phase m.item e k

-- a byte that has room writes no more than that
pub room_in_place : (s : Bulletin) (b : ℕ) (host wire : List ℕ) → no_room (length host) (length wire) ≡ false → HasRoom (in_place_read (parts_of s) b) host wire
room_in_place s b host wire room = go (in_place_read (parts_of s) b) refl
  where
    go : (o : Option InPlaceEffect) → in_place_read (parts_of s) b ≡ o → HasRoom o host wire
    go None q = tt
    go (Some e) q =
        let lent = both_lent (length host) (length wire) room in
        let fits = rw (read_in_place s b e q) at (byte_fits (view_bulletin s) b) in
        (omega (arith, lent.0, fits.0), omega (arith, lent.1, fits.1))

pub room_on_wire : (o : Option InPlaceEffect) (host wire : List ℕ) → HasRoom o host wire → HasRoomOnWire o wire
room_on_wire None host wire r = tt
room_on_wire (Some e) host wire r = r.1

-- what the code's answer tells of the rule
pub refined_none : (o : Option InPlaceEffect) (host wire : Lent) → RefinesInPlace o host wire None → WroteBothAtStart [] [] host wire 0 0
refined_none None host wire r = r
refined_none (Some e) host wire r = absurd r

pub refined_some : (o : Option InPlaceEffect) (host wire : Lent) (r : InPlace) → RefinesInPlace o host wire (Some r)
    → (e : InPlaceEffect) × ((o ≡ Some e) × DoesInPlace e host wire r)
refined_some None host wire r met = absurd met
refined_some (Some e) host wire r met = (e, (refl, met))
