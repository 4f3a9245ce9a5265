-- Keys wait only while RCTE is in force and holds, and are taken up in the order in which they came.
use mathlib.Core.Path.{◌≡◌, refl, sym, ap, ◌∙◌}
use mathlib.Core.Bool.{Bool, true, false, true≢false, cond}
use mathlib.Core.List.{List, [], ◌∷◌, ◌++◌, map, map-append, append_assoc}
use Prim.Native.Nat.{ℕ}
use native.Mathlib.Omega.{arith}
use Rattle.keys.specs.declared.Key.{Key}
use Rattle.rcte.specs.Taking.{OrdersState, TakeUp, KeyEffect, taken_up, sent_at_once}
use Rattle.rcte.specs.Control.{RcteState, RcteEffect, stopped_at, taken_first, released, commanded, rcte_ended, waits, took_one, pressed, orders_now}
use Rattle.printer.proofs.Acts.{Acts, acted}
use Rattle.printer.proofs.Acts.Acts.{puts, holds, starts, ends, commands, both}

pub record Waits (on : Bool) (e : RcteState) : Type 0 where
  pub off : on ≡ false → e.waiting ≡ []
  pub unheld : e.held ≡ false → e.waiting ≡ []

-- where true is false, or a list both has a first element and none, anything follows
pub never : {A : Type 0} {b : Bool} → b ≡ true → b ≡ false → A
never p q = absurd (true≢false (sym p ∙ q))

pub never_none : {A : Type 0} {k : Key} {ks : List Key} → k ∷ ks ≡ [] → A
never_none p = let z : ◌≡◌ {A = ℕ} 0 1 = cc in absurd (omega arith)

while_held : {on : Bool} {e : RcteState} → on ≡ true → e.held ≡ true → Waits on e
while_held p q = record { off = λ r. never p r; unheld = λ r. never q r }

none_waits : {on : Bool} {e : RcteState} → e.waiting ≡ [] → Waits on e
none_waits p = record { off = λ r. p; unheld = λ r. p }

abbrev pub keys_taken : List TakeUp → List Key
keys_taken ts = map (λ t. t.key) ts

-- of the keys in order, those at the front were taken up and the others wait
pub record Ordered (on : Bool) (keys : List Key) (x : RcteEffect) : Type 0 where
  pub waits : Waits on x.rcte
  pub order : keys_taken x.taken ++ x.rcte.waiting ≡ keys

keys_at_once : (ks : List Key) → keys_taken (map sent_at_once ks) ++ [] ≡ ks
keys_at_once [] = refl
keys_at_once (k ∷ ks) = ap (λ ls. k ∷ ls) (keys_at_once ks)

released_order : {on : Bool} → on ≡ true → (o : OrdersState) (gathered : List ℕ) (ks : List Key) → Ordered on ks (released o gathered ks)
unfolding released
released_order p o gathered [] = record { waits = none_waits refl; order = refl }
released_order {on} p o gathered (k ∷ ks) = go t.broke (released_order p o t.gathered ks)
  where
    t : KeyEffect
    t = taken_up o gathered k

    go : (b : Bool) → Ordered on ks (released o t.gathered ks)
        → Ordered on (k ∷ ks) (cond b (stopped_at o k ks t) (taken_first o k t (released o t.gathered ks)))
    go true r = record { waits = while_held p refl; order = refl }
    go false r = record { waits = r.waits; order = ap (λ ls. k ∷ ls) r.order }

pub acts_order : {a b : Bool} (x : Acts a b) (e : RcteState) → Waits a e → Ordered b e.waiting (acted x e)
unfolding acted commanded rcte_ended
acts_order (puts p paper wire) e w = record { waits = record { off = λ q. w.off (p ∙ q); unheld = w.unheld }; order = refl }
acts_order (holds p q paper) e w = record { waits = while_held q refl; order = refl }
acts_order (starts p q reply) e w = record { waits = none_waits refl; order = sym (w.off p) }
acts_order (ends p q reply echoed) e w = record { waits = none_waits refl; order = keys_at_once e.waiting }
acts_order (commands p q c) e w = released_order q (orders_now c e.orders) e.gathered e.waiting
acts_order (both x y) e w =
    let r = acts_order x e w in
    let d = acted x e in
    let s = acts_order y d.rcte r.waits in
    record { waits = s.waits; order = rw (map-append, append_assoc, s.order) r.order }

pub pressed_order : {on : Bool} → on ≡ true → (e : RcteState) (k : Key) → Waits on e → Ordered on (e.waiting ++ k ∷ []) (pressed e k)
unfolding pressed
pressed_order {on} q e k w = go e.held refl
  where
    t : KeyEffect
    t = taken_up e.orders e.gathered k

    go : (b : Bool) → e.held ≡ b → Ordered on (e.waiting ++ k ∷ []) (cond b (waits e k) (took_one e k t))
    go true p = record { waits = while_held q p; order = refl }
    go false p = record { waits = none_waits (w.unheld p); order = rw (w.unheld p) refl }
