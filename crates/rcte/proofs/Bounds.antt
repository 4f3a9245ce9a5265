-- What RCTE's control writes is bounded by the gathered bytes and the waiting keys that it uses up: each key has at most
-- two bytes of paper and two of wire.
use mathlib.Core.Path.{◌≡◌, refl}
use mathlib.Core.Bool.{Bool, true, false, cond}
use mathlib.Core.List.{List, [], ◌∷◌, ◌++◌}
use Prim.Native.Nat.{ℕ, ◌+◌, ◌*◌, ◌≤◌}
use native.Mathlib.Omega.{arith}
use borrow.Author.Tests.{ltb-false, leb-false}
use lib.Dec.{ltb, lit≤}
use lib.ListN.{length, length-append}
use Rattle.lists.proofs.Lengths.{chosen, either, flat_map_within}
use Rattle.keys.specs.declared.Key.{Key}
use Rattle.keys.specs.Keys.{key_wire}
use Rattle.keys.proofs.Packing.{paper_most, wire_most}
use Rattle.rcte.specs.Taking.{OrdersState, KeyEffect, taken_up, gather_room, overflows, flushes, is_skipped, sent_paper}
use Rattle.rcte.specs.Control.{RcteState, RcteEffect, wait_room, is_full, pressed, stopped_at, taken_first, released, rcte_ended}

abbrev Two : List ℕ → Type 0
Two bytes = length bytes ≤ 2

-- one key taken up
pub record Takes (gathered : List ℕ) (t : KeyEffect) : Type 0 where
  pub paper : length t.paper ≤ 2
  pub wire : length t.wire + length t.gathered ≤ length gathered + 2
  pub room : length gathered ≤ gather_room → length t.gathered ≤ gather_room

module _ (g w : List ℕ) (short : length w ≤ 2) where
  sent_within : (over flush : Bool) → length (cond over g [] ++ cond flush (cond over [] g ++ w) []) + length (cond flush [] (cond over [] g ++ w)) ≤ length g + 2
  sent_within true true = simp length-append (omega arith)
  sent_within true false = simp length-append (omega arith)
  sent_within false true = simp length-append (omega arith)
  sent_within false false = simp length-append (omega arith)

  kept : (over flush : Bool) → ltb gather_room (length g + length w) ≡ over → length (cond flush [] (cond over [] g ++ w)) ≤ gather_room
  kept true true e = lit≤ tt
  kept true false e = omega arith
  kept false true e = lit≤ tt
  kept false false e = simp length-append (ltb-false gather_room (length g + length w) e)

pub takes : (o : OrdersState) (g : List ℕ) (k : Key) → Takes g (taken_up o g k)
unfolding taken_up
takes o g k = record {
  paper = either Two (is_skipped o k) (lit≤ tt) (paper_most k);
  wire = sent_within g (key_wire k) (wire_most k) (overflows g k) (flushes o k);
  room = λ h. kept g (key_wire k) (wire_most k) (overflows g k) (flushes o k) refl;
}

-- what is done with gathered bytes and waiting keys
pub record BoundedBy (gathered : List ℕ) (waiting : List Key) (e : RcteEffect) : Type 0 where
  pub paper : length e.paper + 2 * length e.rcte.waiting ≤ 2 * length waiting
  pub wire : length e.wire + (length e.rcte.gathered + 2 * length e.rcte.waiting) ≤ length gathered + 2 * length waiting
  pub room : length gathered ≤ gather_room → length e.rcte.gathered ≤ gather_room

module _ (o : OrdersState) (g : List ℕ) (k : Key) (ks : List Key) (t : KeyEffect) (h : Takes g t) where
  stops : BoundedBy g (k ∷ ks) (stopped_at o k ks t)
  stops = record {
    paper = omega (arith, h.paper);
    wire = omega (arith, h.wire);
    room = h.room;
  }

  goes_on : (e : RcteEffect) → BoundedBy t.gathered ks e → BoundedBy g (k ∷ ks) (taken_first o k t e)
  goes_on e r = record {
    paper = simp length-append (omega (arith, h.paper, r.paper));
    wire = simp length-append (omega (arith, h.wire, r.wire));
    room = λ l. r.room (h.room l);
  }

pub releases : (o : OrdersState) (g : List ℕ) (ks : List Key) → BoundedBy g ks (released o g ks)
unfolding released
releases o g [] = record { paper = lit≤ tt; wire = omega arith; room = λ l. l }
releases o g (k ∷ ks) =
    let t = taken_up o g k in
    either (BoundedBy g (k ∷ ks)) t.broke (stops o g k ks t (takes o g k)) (goes_on o g k ks t (takes o g k) _ (releases o t.gathered ks))

pub ends : (echoed : Bool) (e : RcteState) → BoundedBy e.gathered e.waiting (rcte_ended echoed e)
unfolding rcte_ended
ends echoed e =
    let paper = flat_map_within (λ k. sent_paper echoed k) 2 (λ k. either Two echoed (lit≤ tt) (paper_most k)) e.waiting in
    let wire = flat_map_within key_wire 2 wire_most e.waiting in
    record { paper = omega arith; wire = simp length-append (omega arith); room = λ l. lit≤ tt }

-- a key pressed: it waits, or it is taken up at once
pub record Presses (e : RcteState) (x : RcteEffect) : Type 0 where
  pub paper : length x.paper ≤ 2
  pub wire : length x.wire ≤ length e.gathered + 2
  pub waits : is_full e ≡ false → length e.waiting ≤ wait_room → length x.rcte.waiting ≤ wait_room
  pub room : length e.gathered ≤ gather_room → length x.rcte.gathered ≤ gather_room

pub presses : (e : RcteState) (k : Key) → Presses e (pressed e k)
unfolding pressed is_full
presses e k =
    let t = takes e.orders e.gathered k in
    chosen (Presses e) e.held
    (λ h. record {
      paper = lit≤ tt;
      wire = omega arith;
      waits = λ f l. simp length-append (omega (arith, leb-false wait_room (length e.waiting) (rw h at f)));
      room = λ l. l;
    })
    (λ h. record { paper = t.paper; wire = omega (arith, t.wire); waits = λ f l. l; room = t.room })
