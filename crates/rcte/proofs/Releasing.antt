-- The taking up of waiting keys: what holds at the loop's head, a turn of it, and its two ways out.
use mathlib.Core.Path.{◌≡◌, refl, sym, ap, ◌∙◌}
use mathlib.Core.Bool.{Bool, true, false, cond}
use mathlib.Core.List.{List, [], ◌∷◌, ◌++◌, append-nil, map}
use Prim.Native.Nat.{ℕ, ◌+◌, ◌≤◌, ◌<◌, min}
use native.Mathlib.Omega.{arith}
use lib.ListN.{length, drop, set, length-set, drop_of_length-le}
use Rattle.lists.specs.Buffers.{Lent, lent_as, untouched, WroteAtStart, WroteBothAtStart, RoomFor}
use Rattle.lists.proofs.Parts.{rest_of, with_rest}
use Rattle.lists.proofs.Filling.{Filling, nothing_filled, all_filled, more_filled, room_next, room_done, still_long}
use Rattle.lists.proofs.Appended.{appended, clean_appended}
use Rattle.keys.specs.declared.Key.{Key}
use Rattle.keys.specs.declared.Key.TheVariants.{Char}
use Rattle.keys.specs.Refinement.{key_of_number}
use Rattle.rcte.specs.declared.Rcte.{Rcte}
use Rattle.rcte.specs.declared.Orders.{Orders}
use Rattle.rcte.specs.declared.Gathered.{Gathered}
use Rattle.rcte.specs.declared.Taken.{Taken}
use Rattle.rcte.specs.Taking.{OrdersState, KeyEffect, taken_up}
use Rattle.rcte.specs.Control.{RcteEffect, released, taken_first, stopped_at}
use Rattle.rcte.specs.Refinement.{numbers_in, view_rcte, order_cells, view_orders, gathered_cells, bytes_in, CleanGathered, Gathers, RefinesTaken, plain_paper, is_plain_key, releasing, left_at, Left, RefinesStep}
use Rattle.rcte.proofs.Cells.{gathered_long}
use Rattle.rcte.proofs.PlainKeys.{plain_taken}

-- a key, and the keys behind it unless it breaks
one_key : (o : OrdersState) (g : List ℕ) (k : Key) (ks : List Key) {b : Bool} → (taken_up o g k).broke ≡ b
    → released o g (k ∷ ks) ≡ cond b (stopped_at o k ks (taken_up o g k)) (taken_first o k (taken_up o g k) (released o (taken_up o g k).gathered ks))
unfolding released
one_key o g k ks e = ap (λ (b : Bool). cond b (stopped_at o k ks (taken_up o g k)) (taken_first o k (taken_up o g k) (released o (taken_up o g k).gathered ks))) e

-- of the waiting keys ks, i are taken up, and p and w bytes written; what is left gives the rest
pub record ReleaseLoop (o : OrdersState) (ks : List Key) (g₀ g : Gathered) (paper wire : Lent) (i p w : ℕ) : Type 0 where
  pub room_paper : RoomFor (released o (bytes_in g₀) ks).paper paper.before
  pub room_wire : RoomFor (released o (bytes_in g₀) ks).wire wire.before
  pub on_paper : Filling (released o (bytes_in g₀) ks).paper (released o (bytes_in g) (drop i ks)).paper paper p
  pub on_wire : Filling (released o (bytes_in g₀) ks).wire (released o (bytes_in g) (drop i ks)).wire wire w
  pub rcte : (released o (bytes_in g) (drop i ks)).rcte ≡ (released o (bytes_in g₀) ks).rcte
  pub clean : CleanGathered g₀ → CleanGathered g
  pub long : length g.cells ≡ 512

pub begun : (e : Rcte) {o : Orders} {g : Gathered} {numbers : List ℕ} (paper wire : List ℕ)
    → o ≡ order_cells e → g ≡ gathered_cells e → numbers ≡ numbers_in e → length g.cells ≡ 512
    → RoomFor (releasing (view_rcte e)).paper paper → RoomFor (releasing (view_rcte e)).wire wire
    → ReleaseLoop (view_orders o) (map key_of_number numbers) g g (untouched paper) (untouched wire) 0 0 0
begun e {o} {g} {numbers} paper wire eo eg en l room_p room_w = record {
  room_paper = rw (eo, eg, en) room_p;
  room_wire = rw (eo, eg, en) room_w;
  on_paper = nothing_filled (released (view_orders o) (bytes_in g) (map key_of_number numbers)).paper paper;
  on_wire = nothing_filled (released (view_orders o) (bytes_in g) (map key_of_number numbers)).wire wire;
  rcte = refl;
  clean = λ h. h;
  long = l;
}

-- the loop was left with so many keys taken up
pub record Gone (o : OrdersState) (ks : List Key) (g₀ g : Gathered) (paper wire : Lent) (p w at : ℕ) (held : Bool) : Type 0 where
  pub wrote : WroteBothAtStart (released o (bytes_in g₀) ks).paper (released o (bytes_in g₀) ks).wire paper wire p w
  pub rcte : (released o (bytes_in g₀) ks).rcte ≡ record { held = held; orders = o; waiting = drop at ks; gathered = bytes_in g }
  pub clean : CleanGathered g₀ → CleanGathered g

-- .. and the state that is left then is the rule's
pub ended : (e : Rcte) {o : Orders} {g₀ g : Gathered} {numbers : List ℕ} {paper wire : Lent} {p w at : ℕ} {held : Bool} {after : Rcte}
    → o ≡ order_cells e → g₀ ≡ gathered_cells e → numbers ≡ numbers_in e
    → Gone (view_orders o) (map key_of_number numbers) g₀ g paper wire p w at held
    → Left (left_at (view_rcte e) (bytes_in g) at held) g e after
    → RefinesStep (releasing (view_rcte e)) e paper wire (record { paper = p; wire = w; rcte = after })
ended e eo eg en so s =
    let own = rw (eo, eg, en) at so in
    record {
      wrote = own.wrote;
      rcte = s.rcte ∙ sym own.rcte;
      clean = λ h. s.clean (own.clean h.gathered) h.numbers;
    }

-- what the keys behind a key give to one of the buffers
abbrev rest : (RcteEffect → List ℕ) → OrdersState → List ℕ → Key → List Key → List ℕ
rest all o g k ks = cond (taken_up o g k).broke [] (all (released o (taken_up o g k).gathered ks))

-- one of the buffers: what a key gives to it, and what a run does
module _ (of : KeyEffect → List ℕ) (all : RcteEffect → List ℕ)
    (last-key : (o : OrdersState) (k : Key) (ks : List Key) (t : KeyEffect) → all (stopped_at o k ks t) ≡ of t)
    (then : (o : OrdersState) (k : Key) (t : KeyEffect) (e : RcteEffect) → all (taken_first o k t e) ≡ of t ++ all e) where
  split : (o : OrdersState) (g : List ℕ) (k : Key) (ks : List Key) → all (released o g (k ∷ ks)) ≡ of (taken_up o g k) ++ rest all o g k ks
  split o g k ks = go (taken_up o g k).broke refl
    where
      go : (b : Bool) → (taken_up o g k).broke ≡ b → all (released o g (k ∷ ks)) ≡ of (taken_up o g k) ++ cond b [] (all (released o (taken_up o g k).gathered ks))
      go true e = ap all (one_key o g k ks e) ∙ last-key o k ks (taken_up o g k) ∙ sym (append-nil (of (taken_up o g k)))
      go false e = ap all (one_key o g k ks e) ∙ then o k (taken_up o g k) (released o (taken_up o g k).gathered ks)

  module _ (o : OrdersState) (ks : List Key) (g₀ g : List ℕ) (i : ℕ) (k : Key) (next : drop i ks ≡ k ∷ drop (i + 1) ks) {out : Lent} {n : ℕ}
      (h : Filling (all (released o g₀ ks)) (all (released o g (drop i ks))) out n) (room : RoomFor (all (released o g₀ ks)) out.before) where
    first_is : Filling (all (released o g₀ ks)) (of (taken_up o g k) ++ rest all o g k (drop (i + 1) ks)) out n
    first_is = rw (next, split o g k (drop (i + 1) ks)) at h

    side_room : RoomFor (of (taken_up o g k)) (rest_of out n)
    side_room = room_next (of (taken_up o g k)) (rest all o g k (drop (i + 1) ks)) first_is room

    side_more : (last : List ℕ) (m : ℕ) → WroteAtStart (of (taken_up o g k)) (lent_as (rest_of out n) last) m
        → Filling (all (released o g₀ ks)) (rest all o g k (drop (i + 1) ks)) (with_rest out n last) (n + m)
    side_more last m w = more_filled (of (taken_up o g k)) (rest all o g k (drop (i + 1) ks)) first_is room last m w

module _ {o : OrdersState} {ks : List Key} {g₀ g : Gathered} {paper wire : Lent} {i p w : ℕ} (so : ReleaseLoop o ks g₀ g paper wire i p w) where
  pub paper_within : p ≤ length paper.after
  paper_within = omega (arith, room_done so.on_paper so.room_paper, still_long so.on_paper so.room_paper)

  pub wire_within : w ≤ length wire.after
  wire_within = omega (arith, room_done so.on_wire so.room_wire, still_long so.on_wire so.room_wire)

  module _ (k : Key) (next : drop i ks ≡ k ∷ drop (i + 1) ks) where
    pub paper_room : RoomFor (taken_up o (bytes_in g) k).paper (rest_of paper p)
    paper_room = side_room (λ t. t.paper) (λ e. e.paper) (λ o k ks t. refl) (λ o k t e. refl) o ks (bytes_in g₀) (bytes_in g) i k next so.on_paper so.room_paper

    pub wire_room : RoomFor (taken_up o (bytes_in g) k).wire (rest_of wire w)
    wire_room = side_room (λ t. t.wire) (λ e. e.wire) (λ o k ks t. refl) (λ o k t e. refl) o ks (bytes_in g₀) (bytes_in g) i k next so.on_wire so.room_wire

    -- a key that does not break, whichever way the code took it up
    went_on : {g' : Gathered} {paper' wire' : Lent} {p' w' : ℕ} → (taken_up o (bytes_in g) k).broke ≡ false
        → Gathers (taken_up o (bytes_in g) k).gathered g g'
        → paper'.before ≡ paper.before → wire'.before ≡ wire.before
        → Filling (released o (bytes_in g₀) ks).paper (rest (λ e. e.paper) o (bytes_in g) k (drop (i + 1) ks)) paper' p'
        → Filling (released o (bytes_in g₀) ks).wire (rest (λ e. e.wire) o (bytes_in g) k (drop (i + 1) ks)) wire' w'
        → ReleaseLoop o ks g₀ g' paper' wire' (i + 1) p' w'
    went_on b m same_p same_w on_paper on_wire = record {
      room_paper = rw same_p so.room_paper;
      room_wire = rw same_w so.room_wire;
      on_paper = rw m.bytes (rw b at on_paper);
      on_wire = rw m.bytes (rw b at on_wire);
      rcte = rw m.bytes (rw (next, one_key o (bytes_in g) k (drop (i + 1) ks) b) at so.rcte);
      clean = λ h. m.clean (so.clean h);
      long = rw m.long so.long;
    }

    module _ {last_p last_w : List ℕ} {g' : Gathered} {r : Taken}
        (m : RefinesTaken (taken_up o (bytes_in g) k) g g' (lent_as (rest_of paper p) last_p) (lent_as (rest_of wire w) last_w) r) where
      on_p : Filling (released o (bytes_in g₀) ks).paper (rest (λ e. e.paper) o (bytes_in g) k (drop (i + 1) ks)) (with_rest paper p last_p) (p + r.paper)
      on_p = side_more (λ t. t.paper) (λ e. e.paper) (λ o k ks t. refl) (λ o k t e. refl) o ks (bytes_in g₀) (bytes_in g) i k next so.on_paper so.room_paper last_p r.paper m.wrote.paper

      on_w : Filling (released o (bytes_in g₀) ks).wire (rest (λ e. e.wire) o (bytes_in g) k (drop (i + 1) ks)) (with_rest wire w last_w) (w + r.wire)
      on_w = side_more (λ t. t.wire) (λ e. e.wire) (λ o k ks t. refl) (λ o k t e. refl) o ks (bytes_in g₀) (bytes_in g) i k next so.on_wire so.room_wire last_w r.wire m.wrote.wire

      -- both sums are within the buffers
      pub paper_sum : p + r.paper ≤ length paper.before
      paper_sum = room_done on_p so.room_paper

      pub wire_sum : w + r.wire ≤ length wire.before
      wire_sum = room_done on_w so.room_wire

      pub turn : r.broke ≡ false
          → ReleaseLoop o ks g₀ g' (with_rest paper p last_p) (with_rest wire w last_w) (i + 1) (p + r.paper) (w + r.wire)
      turn off = went_on (sym m.broke ∙ off) m.gathered refl refl on_p on_w

      -- a key that breaks
      pub broken : r.broke ≡ true
          → Gone o ks g₀ g' (with_rest paper p last_p) (with_rest wire w last_w) (p + r.paper) (w + r.wire) (i + 1) true
      broken on =
          let b : (taken_up o (bytes_in g) k).broke ≡ true = sym m.broke ∙ on in
          record {
            wrote = record { paper = all_filled (rw b at on_p); wire = all_filled (rw b at on_w) };
            rcte = rw m.gathered.bytes (sym (rw (next, one_key o (bytes_in g) k (drop (i + 1) ks) b) at so.rcte));
            clean = λ h. m.gathered.clean (so.clean h);
          }

  -- a plain character that is only gathered
  module _ {n : ℕ} (next : drop i ks ≡ Char n ∷ drop (i + 1) ks) (free : g.filled < 512) (plain : is_plain_key o n ≡ true) where
    takes : taken_up o (bytes_in g) (Char n) ≡ record { paper = plain_paper o n; wire = []; gathered = bytes_in g ++ n ∷ []; broke = false }
    takes =
        let room : length (bytes_in g) < 512 = omega (arith, gathered_long g.cells g.filled so.long) in
        plain_taken o n plain (bytes_in g) room

    pub plain_room : RoomFor (plain_paper o n) (rest_of paper p)
    plain_room = rw (ap (λ (t : KeyEffect). t.paper) takes) at (paper_room (Char n) next)

    module _ {last : List ℕ} {m : ℕ} (wrote : WroteAtStart (plain_paper o n) (lent_as (rest_of paper p) last) m) where
      on_plain : Filling (released o (bytes_in g₀) ks).paper (rest (λ e. e.paper) o (bytes_in g) (Char n) (drop (i + 1) ks)) (with_rest paper p last) (p + m)
      on_plain =
          side_more (λ t. t.paper) (λ e. e.paper) (λ o k ks t. refl) (λ o k t e. refl) o ks (bytes_in g₀) (bytes_in g) i (Char n) next so.on_paper so.room_paper last m
          (rw (ap (λ (t : KeyEffect). t.paper) takes) wrote)

      pub plain_turn : ReleaseLoop o ks g₀ (record { cells = set g.cells g.filled n; filled = g.filled + 1 }) (with_rest paper p last) wire (i + 1) (p + m) w
      plain_turn =
          let inside : g.filled < length g.cells = omega (arith, so.long) in
          let within : min g.filled 512 ≡ g.filled = omega (arith, so.long) in
          went_on (Char n) next (ap (λ (t : KeyEffect). t.broke) takes)
          (record {
            bytes = rw (ap (λ (t : KeyEffect). t.gathered) takes, within) (appended g.cells g.filled n inside 512 so.long);
            clean = clean_appended g.cells g.filled n inside;
            long = simp length-set;
          })
          refl
          refl
          on_plain
          (rw (ap (λ (t : KeyEffect). t.wire) takes) at (first_is (λ t. t.wire) (λ e. e.wire) (λ o k ks t. refl) (λ o k t e. refl) o ks (bytes_in g₀) (bytes_in g) i (Char n) next so.on_wire so.room_wire))

  -- no key is left
  pub all_gone : (at : ℕ) → length ks ≤ i → length ks ≤ at → Gone o ks g₀ g paper wire p w at false
  unfolding released
  all_gone at h past =
      let d : drop i ks ≡ [] = drop_of_length-le ks {i = i} h in
      let n : drop at ks ≡ [] = drop_of_length-le ks {i = at} past in
      record {
        wrote = record { paper = all_filled (rw d at so.on_paper); wire = all_filled (rw d at so.on_wire) };
        rcte = rw n (sym (rw d at so.rcte));
        clean = so.clean;
      }
