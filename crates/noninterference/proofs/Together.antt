-- The states of RCTE in two sessions stay related.
use mathlib.Core.Path.{◌≡◌, refl, sym, ap, ap₂, subst, subst₂, ◌∙◌}
use mathlib.Core.Bool.{Bool, true, false, cond}
use mathlib.Core.List.{List, [], ◌∷◌, ◌++◌, map, append_assoc, flat_map}
use Prim.Native.Nat.{ℕ, suc}
use native.Mathlib.Omega.{arith}
use lib.ListN.{length, length-append}
use Rattle.keys.specs.declared.Key.{Key}
use Rattle.keys.specs.Keys.{key_wire}
use Rattle.bodies.specs.declared.RcteCommand.{RcteCommand}
use Rattle.rcte.specs.Taking.{OrdersState, TakeUp, is_break, taken_up, sent_paper, sent_at_once}
use Rattle.rcte.specs.Control.{RcteState, RcteEffect, started, holding, stopped_at, taken_first, released, commanded, rcte_ended, waits, took_one, pressed, orders_now}
use Rattle.noninterference.specs.TwoSessions.{AllUnprinted, AllSameWidth}
use Rattle.printer.proofs.Acts.{Acts, wrote, with_reply, and_then, acted}
use Rattle.printer.proofs.Acts.Acts.{puts, holds, starts, ends, commands, both}
use Rattle.printer.proofs.Order.{never, never_none, Waits, acts_order}
use Rattle.noninterference.proofs.Pairs.{Beside, same_at_once, pair, same_width_taken}

-- waiting keys, pair by pair, under their marks
pub data Alike : List Bool → List Key → List Key → Type 0 where
  none : Alike [] [] []
  more : {m : Bool} {k l : Key} {ms : List Bool} {ks ls : List Key} → Beside m k l → Alike ms ks ls → Alike (m ∷ ms) (k ∷ ks) (l ∷ ls)

pub alike_count : {ms : List Bool} {ks ls : List Key} → Alike ms ks ls → length ks ≡ length ls
alike_count none = refl
alike_count (more b r) = ap suc (alike_count r)

alike_snoc : (m : Bool) (k l : Key) {ms : List Bool} {ks ls : List Key} → Alike ms ks ls → Beside m k l
    → Alike (ms ++ m ∷ []) (ks ++ k ∷ []) (ls ++ l ∷ [])
alike_snoc m k l none b = more b none
alike_snoc m k l (more c r) b = more c (alike_snoc m k l r b)

no_key_no_mark : {ms : List Bool} {ks ls : List Key} → Alike ms ks ls → ks ≡ [] → ms ≡ []
no_key_no_mark none p = refl
no_key_no_mark (more b r) p = never_none p

abbrev rcte_with : Bool → OrdersState → List Key → List ℕ → RcteState
rcte_with h o ks g = record { held = h; orders = o; waiting = ks; gathered = g }

-- both held or neither, and under the same orders; the gathered bytes may differ
pub data Related (ms : List Bool) : RcteState → RcteState → Type 0 where
  related : {h : Bool} {o : OrdersState} {ks ls : List Key} {g g' : List ℕ} → Alike ms ks ls
      → Related ms (rcte_with h o ks g) (rcte_with h o ls g')

pub related_count : {ms : List Bool} {e f : RcteState} → Related ms e f → length e.waiting ≡ length f.waiting
related_count (related a) = alike_count a

-- where no key waits, no mark does
pub related_none : {ms : List Bool} {e f : RcteState} → Related ms e f → e.waiting ≡ [] → ms ≡ []
related_none (related a) p = no_key_no_mark a p

-- what comes later in the two sessions: the marks of the keys accepted later, and the later take-ups
pub record Later : Type 0 where
  pub marks : List Bool
  pub marks' : List Bool
  pub takes : List TakeUp
  pub takes' : List TakeUp

-- .. seen from before x and y
abbrev pub before : RcteEffect → RcteEffect → Later → Later
before x y n = record { marks = n.marks; marks' = n.marks'; takes = x.taken ++ n.takes; takes' = y.taken ++ n.takes' }

-- the hypotheses, of waiting keys with marks ms, for the take-ups ts and us and all later ones
abbrev pub BothUnprinted : Later → List Bool → List TakeUp → List TakeUp → Type 0
BothUnprinted n ms ts us = AllUnprinted (ms ++ n.marks) (ts ++ n.takes) × AllUnprinted (ms ++ n.marks') (us ++ n.takes')

abbrev pub BothSameWidth : Later → List Bool → List TakeUp → List TakeUp → Type 0
BothSameWidth n ms ts us = AllSameWidth (ms ++ n.marks) (ts ++ n.takes) (us ++ n.takes')

pub record Sent (n : Later) (left : List Bool) (x y : RcteEffect) : Type 0 where
  pub wire : length x.wire ≡ length y.wire
  pub gathered : length x.rcte.gathered ≡ length y.rcte.gathered
  pub same_width_both : BothSameWidth n left [] []

-- what x and y did to waiting keys with marks ms and to the gathered bytes g and g'; left are the marks of those that still wait
pub record Together (n : Later) (ms : List Bool) (g g' : List ℕ) (x y : RcteEffect) : Type 0 where
  pub paper : x.paper ≡ y.paper
  pub left : List Bool
  pub rcte : Related left x.rcte y.rcte
  pub unprinted_both : BothUnprinted n left [] []
  pub sent : length g ≡ length g' → BothSameWidth n ms x.taken y.taken → Sent n left x y

-- two steps leave the states related if the keys that they take up meet the hypothesis
abbrev pub Keeps : Later → List Bool → List ℕ → List ℕ → RcteEffect → RcteEffect → Type 0
Keeps n ms g g' x y = BothUnprinted n ms x.taken y.taken → Together n ms g g' x y

-- the first of the waiting keys is taken up; r is what follows if it does not break
released_first : (n : Later) (o : OrdersState) (m : Bool) (ms : List Bool) (k l : Key) (ks ls : List Key) (g g' : List ℕ)
    → Beside m k l → Alike ms ks ls
    → (let t = taken_up o g k in let u = taken_up o g' l in
    let x = released o t.gathered ks in let y = released o u.gathered ls in
    Keeps n ms t.gathered u.gathered x y → (b c : Bool) → is_break o k ≡ b → is_break o l ≡ c
    → Keeps n (m ∷ ms) g g' (cond b (stopped_at o k ks t) (taken_first o k t x)) (cond c (stopped_at o l ls u) (taken_first o l u y)))
released_first n o m ms k l ks ls g g' i a r true true p q h =
    let f = pair m o k l i h.0.0 h.1.0 in
    record {
      paper = f.paper g g';
      left = ms;
      rcte = related a;
      unprinted_both = (h.0.1, h.1.1);
      sent = λ z v.
          let w = same_width_taken o g g' k l f.broke (f.same_width v.0) z in
          record { wire = w.wire; gathered = w.gathered; same_width_both = v.1 };
    }
released_first n o m ms k l ks ls g g' i a r true false p q h = never p ((pair m o k l i h.0.0 h.1.0).broke ∙ q)
released_first n o m ms k l ks ls g g' i a r false true p q h = never q (sym (pair m o k l i h.0.0 h.1.0).broke ∙ p)
released_first n o m ms k l ks ls g g' i a r false false p q h =
    let f = pair m o k l i h.0.0 h.1.0 in
    let d = r (h.0.1, h.1.1) in
    record {
      paper = ap₂ (λ x y. x ++ y) (f.paper g g') d.paper;
      left = d.left;
      rcte = d.rcte;
      unprinted_both = d.unprinted_both;
      sent = λ z v.
          let w = same_width_taken o g g' k l f.broke (f.same_width v.0) z in
          let s = d.sent w.gathered v.1 in
          record { wire = simp length-append (omega (arith, w.wire, s.wire)); gathered = s.gathered; same_width_both = s.same_width_both };
    }

released_together : (n : Later) (o : OrdersState) {ms : List Bool} {ks ls : List Key} (g g' : List ℕ) → Alike ms ks ls
    → Keeps n ms g g' (released o g ks) (released o g' ls)
unfolding released taken_up
released_together n o g g' none h = record {
  paper = refl;
  left = [];
  rcte = related none;
  unprinted_both = h;
  sent = λ z v. record { wire = refl; gathered = z; same_width_both = v };
}
released_together n o g g' (more {m = m} {k = k} {l = l} {ms = ms} {ks = ks} {ls = ls} i a) h =
    released_first n o m ms k l ks ls g g' i a (released_together n o (taken_up o g k).gathered (taken_up o g' l).gathered a)
    (is_break o k) (is_break o l) refl refl h

-- as RCTE ends, all waiting keys are sent at once, so none of them was replaced
record SentAtOnce (n : Later) (ms : List Bool) (ks ls : List Key) : Type 0 where
  same : ks ≡ ls
  unprinted_both : BothUnprinted n [] [] []
  same_width_both : BothSameWidth n ms (map sent_at_once ks) (map sent_at_once ls) → BothSameWidth n [] [] []

sent_at_once_lem : (n : Later) {ms : List Bool} {ks ls : List Key} → Alike ms ks ls
    → BothUnprinted n ms (map sent_at_once ks) (map sent_at_once ls) → SentAtOnce n ms ks ls
sent_at_once_lem n none h = record { same = refl; unprinted_both = h; same_width_both = λ v. v }
sent_at_once_lem n (more {m = m} b a) h =
    let r = sent_at_once_lem n a (h.0.1, h.1.1) in
    record { same = ap₂ (λ k ks. k ∷ ks) (same_at_once m b h.0.0) r.same; unprinted_both = r.unprinted_both; same_width_both = λ v. r.same_width_both v.1 }

ended_together : (n : Later) (reply : List ℕ) (echoed : Bool) {ms : List Bool} {e f : RcteState} → Related ms e f
    → Keeps n ms e.gathered f.gathered (with_reply reply (rcte_ended echoed e)) (with_reply reply (rcte_ended echoed f))
unfolding rcte_ended
ended_together n reply echoed (related {ks = ks} {ls = ls} {g = g} {g' = g'} a) h =
    let r = sent_at_once_lem n a h in
    record {
      paper = ap (λ xs. flat_map (λ k. sent_paper echoed k) xs) r.same;
      left = [];
      rcte = related none;
      unprinted_both = r.unprinted_both;
      sent = λ z v. record {
        wire = simp length-append (omega (arith, z, ap (λ xs. length (flat_map key_wire xs)) r.same));
        gathered = refl;
        same_width_both = r.same_width_both v;
      };
    }

-- the same bytes written, and nothing taken up
untaken : (n : Later) {ms : List Bool} {e f : RcteState} (paper wire : List ℕ) → Related ms e f
    → Keeps n ms e.gathered f.gathered (wrote paper wire e) (wrote paper wire f)
untaken n {ms} paper wire a h = record {
  paper = refl;
  left = ms;
  rcte = a;
  unprinted_both = h;
  sent = λ z v. record { wire = refl; gathered = z; same_width_both = v };
}

held_too : {ms : List Bool} {e f : RcteState} → Related ms e f → Related ms (holding e) (holding f)
held_too (related a) = related a

started_together : (n : Later) {ms : List Bool} (g g' : List ℕ) (reply : List ℕ) → ms ≡ []
    → Keeps n ms g g' (wrote [] reply started) (wrote [] reply started)
started_together n {ms} g g' reply p h = record {
  paper = refl;
  left = [];
  rcte = related none;
  unprinted_both = subst (λ l. BothUnprinted n l [] []) p h;
  sent = λ z v. record { wire = refl; gathered = refl; same_width_both = subst (λ l. BothSameWidth n l [] []) p v };
}

commanded_together : (n : Later) (c : RcteCommand) {ms : List Bool} {e f : RcteState} → Related ms e f
    → Keeps n ms e.gathered f.gathered (commanded e c) (commanded f c)
unfolding commanded
commanded_together n c (related {o = o} {g = g} {g' = g'} a) h = released_together n (orders_now c o) g g' a h

-- one after the other
in_turn : (n : Later) (ms : List Bool) (g g' : List ℕ) (x y p q : RcteEffect)
    → Together (before p q n) ms g g' x y
    → ((left : List Bool) → Related left x.rcte y.rcte → Keeps n left x.rcte.gathered y.rcte.gathered p q)
    → Together n ms g g' (and_then x p) (and_then y q)
in_turn n ms g g' x y p q r s =
    let t = s r.left r.rcte r.unprinted_both in
    record {
      paper = ap₂ (λ a b. a ++ b) r.paper t.paper;
      left = t.left;
      rcte = t.rcte;
      unprinted_both = t.unprinted_both;
      sent = λ z v.
          let i = append_assoc x.taken p.taken n.takes in
          let j = append_assoc y.taken q.taken n.takes' in
          let u = r.sent z (subst₂ (λ a b. AllSameWidth (ms ++ n.marks) a b) i j v) in
          let w = t.sent u.gathered u.same_width_both in
          record { wire = simp length-append (omega (arith, u.wire, w.wire)); gathered = w.gathered; same_width_both = w.same_width_both };
    }

pub acts_together : (n : Later) {a b : Bool} (x : Acts a b) {ms : List Bool} (e f : RcteState) → Waits a e → Related ms e f
    → Keeps n ms e.gathered f.gathered (acted x e) (acted x f)
unfolding acted
acts_together n (puts p paper wire) e f w s h = untaken n paper wire s h
acts_together n (holds p q paper) e f w s h = untaken n paper [] (held_too s) h
acts_together n (starts p q reply) e f w s h = started_together n e.gathered f.gathered reply (related_none s (w.off p)) h
acts_together n (ends p q reply echoed) e f w s h = ended_together n reply echoed s h
acts_together n (commands p q c) e f w s h = commanded_together n c s h
acts_together n (both x y) {ms} e f w s h =
    let d = acted x e in
    let d' = acted x f in
    let p = acted y d.rcte in
    let p' = acted y d'.rcte in
    in_turn n ms e.gathered f.gathered d d' p p'
    (acts_together (before p p' n) x e f w s (
      subst (λ a. AllUnprinted (ms ++ n.marks) a) (append_assoc d.taken p.taken n.takes) h.0,
      subst (λ a. AllUnprinted (ms ++ n.marks') a) (append_assoc d'.taken p'.taken n.takes') h.1,
    ))
    (λ left r z. acts_together n y d.rcte d'.rcte (acts_order x e w).waits r z)

-- a key of each session, RCTE in force: taken up if nothing is held
pressed_first : (n : Later) (m : Bool) (o : OrdersState) (k l : Key) (g g' : List ℕ) → Beside m k l
    → Keeps n (m ∷ []) g g' (took_one (rcte_with false o [] g) k (taken_up o g k)) (took_one (rcte_with false o [] g') l (taken_up o g' l))
unfolding taken_up
pressed_first n m o k l g g' i h =
    let f = pair m o k l i h.0.0 h.1.0 in
    record {
      paper = f.paper g g';
      left = [];
      rcte = subst (λ b. Related [] (rcte_with (is_break o k) o [] (taken_up o g k).gathered) (rcte_with b o [] (taken_up o g' l).gathered))
          f.broke (related none);
      unprinted_both = (h.0.1, h.1.1);
      sent = λ z v.
          let w = same_width_taken o g g' k l f.broke (f.same_width v.0) z in
          record { wire = w.wire; gathered = w.gathered; same_width_both = v.1 };
    }

-- .. and in any case
pub pressed_together : (n : Later) (m : Bool) (k l : Key) {ms : List Bool} {e f : RcteState}
    → Beside m k l → (e.held ≡ false → e.waiting ≡ []) → Related ms e f
    → Keeps n (ms ++ m ∷ []) e.gathered f.gathered (pressed e k) (pressed f l)
unfolding pressed
pressed_together n m k l {ms} i w (related {h = true} a) h = record {
  paper = refl;
  left = ms ++ m ∷ [];
  rcte = related (alike_snoc m k l a i);
  unprinted_both = h;
  sent = λ z v. record { wire = refl; gathered = z; same_width_both = v };
}
pressed_together n m k l i w (related {h = false} {o = o} {g = g} {g' = g'} none) h = pressed_first n m o k l g g' i h
pressed_together n m k l i w (related {h = false} (more j a)) h = never_none (w refl)
