-- The state of RCTE, and what a key, a command, a data byte and its end do to it.
use Rattle.std.specs.Prelude.{Bool, true, false, ◌&&◌, cond, Option, Some, None, ℕ, length, leb}
use mathlib.Core.List.{List, [], ◌∷◌, ◌++◌, map, flat_map}
use Rattle.keys.specs.declared.Key.{Key}
use Rattle.keys.specs.Keys.{key_wire}
use Rattle.bodies.specs.declared.RcteCommand.{RcteCommand}
use Rattle.bodies.specs.declared.RcteCommand.TheVariants.{Repeat, Perform}
use Rattle.rcte.specs.Taking.{OrdersState, no_orders, TakeUp, KeyEffect, taken_up, under_rcte, sent_paper, sent_at_once}

pub record RcteState : Type 0 where
  pub held : Bool
  pub orders : OrdersState
  pub waiting : List Key
  pub gathered : List ℕ

-- as RCTE comes in force
abbrev pub started : RcteState
started = record { held = true; orders = no_orders; waiting = []; gathered = [] }

-- paper and wire bytes, the keys taken up, and the state after it
pub record RcteEffect : Type 0 where
  pub paper : List ℕ
  pub wire : List ℕ
  pub taken : List TakeUp
  pub rcte : RcteState

abbrev pub wait_room : ℕ
wait_room = 256

-- 256 keys already wait
unfoldable pub is_full : RcteState → Bool
is_full e = e.held && leb wait_room (length e.waiting)

abbrev pub queued : RcteState → Key → RcteState
queued e k = record { held = e.held; orders = e.orders; waiting = e.waiting ++ k ∷ []; gathered = e.gathered }

-- a key taken up at once, when nothing is held
abbrev pub took_one : RcteState → Key → KeyEffect → RcteEffect
took_one e k t = record {
  paper = t.paper;
  wire = t.wire;
  taken = under_rcte e.orders k ∷ [];
  rcte = record { held = t.broke; orders = e.orders; waiting = e.waiting; gathered = t.gathered };
}

abbrev pub waits : RcteState → Key → RcteEffect
waits e k = record { paper = []; wire = []; taken = []; rcte = queued e k }

-- a key under RCTE
unfoldable pub pressed : RcteState → Key → RcteEffect
pressed e k = cond e.held (waits e k) (took_one e k (taken_up e.orders e.gathered k))

-- a data byte holds
abbrev pub holding : RcteState → RcteState
holding e = record { held = true; orders = e.orders; waiting = e.waiting; gathered = e.gathered }

-- waiting keys are taken up one after the other, the first break being the last; if none breaks, the hold is over
abbrev pub stopped_at : OrdersState → Key → List Key → KeyEffect → RcteEffect
stopped_at o k ks t = record {
  paper = t.paper;
  wire = t.wire;
  taken = under_rcte o k ∷ [];
  rcte = record { held = true; orders = o; waiting = ks; gathered = t.gathered };
}

abbrev pub taken_first : OrdersState → Key → KeyEffect → RcteEffect → RcteEffect
taken_first o k t e = record {
  paper = t.paper ++ e.paper;
  wire = t.wire ++ e.wire;
  taken = under_rcte o k ∷ e.taken;
  rcte = e.rcte;
}

unfoldable pub released : OrdersState → List ℕ → List Key → RcteEffect
released o gathered [] = record { paper = []; wire = []; taken = []; rcte = record { held = false; orders = o; waiting = []; gathered = gathered } }
released o gathered (k ∷ ks) =
    let t = taken_up o gathered k in
    cond t.broke (stopped_at o k ks t) (taken_first o k t (released o t.gathered ks))

-- a command sets actions and classes
abbrev pub classes_now : Option ℕ → ℕ → ℕ
classes_now None n = n
classes_now (Some m) n = m

abbrev pub orders_now : RcteCommand → OrdersState → OrdersState
orders_now Repeat o = o
orders_now (Perform a bc tc) o = record { action = a; breaks = classes_now bc o.breaks; sends = classes_now tc o.sends }

-- .. and then takes up what waits
unfoldable pub commanded : RcteState → RcteCommand → RcteEffect
commanded e c = released (orders_now c e.orders) e.gathered e.waiting

-- what keys that are sent at once print
abbrev pub sent_papers : Bool → List Key → List ℕ
sent_papers echoed ks = flat_map (λ k. sent_paper echoed k) ks

-- as RCTE ends: what was gathered goes out, then each waiting key is taken up as without RCTE
unfoldable pub rcte_ended : Bool → RcteState → RcteEffect
rcte_ended echoed e = record {
  paper = sent_papers echoed e.waiting;
  wire = e.gathered ++ flat_map key_wire e.waiting;
  taken = map sent_at_once e.waiting;
  rcte = started;
}
