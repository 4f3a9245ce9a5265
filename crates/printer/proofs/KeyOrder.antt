-- Keys in their order, call by call.
use mathlib.Core.Path.{◌≡◌, refl, sym, ap, subst, ◌∙◌}
use mathlib.Core.Bool.{Bool, true, false, ◌&&◌, cond}
use mathlib.Core.List.{List, [], ◌∷◌, ◌++◌, map-append, append-nil, append_assoc, flat_map}
use Prim.Native.Nat.{ℕ}
use Rattle.codes.specs.Answers.{no_room, refused_if, is_done, guarded}
use Rattle.codes.specs.declared.Code.TheVariants.{NoRoom, QueueFull, BadCommand}
use Rattle.keys.specs.declared.Key.{Key}
use Rattle.keys.specs.Keys.{bad_command}
use Rattle.negotiation.specs.declared.Sides.{Sides}
use Rattle.rcte.specs.Control.{RcteState, is_full, pressed}
use Rattle.printer.specs.State.{PrinterState, fresh, rcte_in_force, of_rcte, CallEffect, done, refused}
use Rattle.printer.specs.Calls.{key_sent, key_typed, key_call}
use Rattle.printer.specs.Session.{Call, called, answers_from, reached}
use Rattle.printer.specs.Session.Call.{network, key, ask, suggest}
use Rattle.printer.specs.KeyOrder.{accepts, of_accepted, keys_of, take_ups, InOrder, WaitingHeld}
use Rattle.printer.proofs.Acts.{acted, effect_of}
use Rattle.printer.proofs.Planned.{Answered, network_call_lem, ask_call_lem, suggest_call_lem}
use Rattle.printer.proofs.Order.{never_none, Waits, keys_taken, acts_order, pressed_order}

abbrev pub Held : PrinterState → Type 0
Held s = Waits (rcte_in_force s) s.rcte

-- what a call does to the keys in order, of which it accepts some
pub record Onward (s : PrinterState) (keys : List Key) (a : CallEffect) : Type 0 where
  pub waits : Held a.effect.state
  pub order : keys_taken a.effect.taken ++ a.effect.state.rcte.waiting ≡ s.rcte.waiting ++ keys

-- an answer that is planned is what its plan says
pub as_planned : {x : Sides} {call : RcteState → CallEffect} (r : Answered x call) (e : RcteState)
    → call e ≡ record { code = r.code; effect = effect_of r.step.note r.step.others (acted r.step.acts e) }
as_planned r e = λ i. record { code = r.says e i; effect = r.step.does e i }

planned_onward : (s : PrinterState) {call : RcteState → CallEffect} → Answered s.sides call → Held s → Onward s [] (call s.rcte)
planned_onward s r w =
    let o = acts_order r.step.acts s.rcte w in
    subst (λ a. Onward s [] a) (sym (as_planned r s.rcte))
    (record { waits = o.waits; order = o.order ∙ sym (append-nil s.rcte.waiting) })

key_typed_lem : (s : PrinterState) (k : Key) → Held s → Onward s (k ∷ []) (done (key_typed s k))
unfolding key_typed
key_typed_lem s k w = go (rcte_in_force s) refl
  where
    go : (on : Bool) → rcte_in_force s ≡ on → Onward s (k ∷ []) (done (cond on (of_rcte (pressed s.rcte k) s) (key_sent s k)))
    go true p = let o = pressed_order p s.rcte k w in record { waits = o.waits; order = o.order }
    go false p = record { waits = w; order = rw (w.off p) refl }

key_onward : (s : PrinterState) (k : Key) (p w : ℕ) → Held s
    → Onward s (cond (accepts (key k p w) (called s (key k p w))) (k ∷ []) []) (called s (key k p w))
unfolding called key_call guarded
key_onward s k p w h = go (no_room p w) (bad_command k) (rcte_in_force s && is_full s.rcte)
  where
    given : Bool → Bool → Bool → CallEffect
    given b c d = guarded (refused_if b NoRoom ∷ refused_if c BadCommand ∷ refused_if d QueueFull ∷ []) (refused s) (done (key_typed s k))

    go : (b c d : Bool) → Onward s (cond (is_done (given b c d).code) (k ∷ []) []) (given b c d)
    go true c d = record { waits = h; order = sym (append-nil s.rcte.waiting) }
    go false true d = record { waits = h; order = sym (append-nil s.rcte.waiting) }
    go false false true = record { waits = h; order = sym (append-nil s.rcte.waiting) }
    go false false false = key_typed_lem s k h

pub onward : (s : PrinterState) (c : Call) → Held s → Onward s (cond (accepts c (called s c)) (keys_of c) []) (called s c)
onward s (network b p w) h = planned_onward s (network_call_lem s b p w) h
onward s (key k p w) h = key_onward s k p w h
onward s (ask o y p w) h = planned_onward s (ask_call_lem s o y p w) h
onward s (suggest o v p w) h = planned_onward s (suggest_call_lem s o v p w) h

record Session (s : PrinterState) (cs : List Call) : Type 0 where
  waits : Held (reached s cs)
  order : keys_taken (take_ups (answers_from s cs)) ++ (reached s cs).rcte.waiting
      ≡ s.rcte.waiting ++ flat_map keys_of (of_accepted cs cs (answers_from s cs))

from : (s : PrinterState) (cs : List Call) → Held s → Session s cs
unfolding reached answers_from of_accepted flat_map
from s [] h = record { waits = h; order = sym (append-nil s.rcte.waiting) }
from s (c ∷ cs) h =
    let a = called s c in
    let o = onward s c h in
    let r = from a.effect.state cs o.waits in
    let taken = keys_taken a.effect.taken in
    let accepted = cond (accepts c a) (keys_of c) [] in
    let later = flat_map keys_of (of_accepted cs cs (answers_from a.effect.state cs)) in
    record {
      waits = r.waits;
      order =
          rw (map-append, append_assoc, r.order)
          (sym (append_assoc taken a.effect.state.rcte.waiting later)
          ∙ ap (λ ks. ks ++ later) o.order
          ∙ append_assoc s.rcte.waiting accepted later
          ∙ ap (λ ks. s.rcte.waiting ++ ks) (one (accepts c a)));
    }
  where
    one : (b : Bool) → let later = of_accepted cs cs (answers_from (called s c).effect.state cs) in
        cond b (keys_of c) [] ++ flat_map keys_of later ≡ flat_map keys_of (cond b (c ∷ []) [] ++ later)
    one true = refl
    one false = refl

pub fresh_held : Held fresh
fresh_held = record { off = λ p. refl; unheld = λ p. refl }

pub in_order : InOrder
in_order cs = (from fresh cs fresh_held).order

pub waiting_held : WaitingHeld
waiting_held cs =
    let w = (from fresh cs fresh_held).waits in
    record { off = w.off; held = λ k ks p. go (reached fresh cs).rcte.held (λ q. never_none (sym p ∙ w.unheld q)) }
  where
    go : (b : Bool) → (b ≡ false → b ≡ true) → b ≡ true
    go true f = refl
    go false f = f refl
