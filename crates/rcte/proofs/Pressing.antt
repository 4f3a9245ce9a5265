-- A key under RCTE waits or is taken up at once.
use mathlib.Core.Path.{◌≡◌, refl, ap, ◌∙◌}
use mathlib.Core.Bool.{Bool, true, false, ◌&&◌, cond}
use mathlib.Core.List.{[]}
use lib.ListN.{length}
use lib.Dec.{leb}
use Rattle.keys.specs.declared.Key.{Key}
use Rattle.rcte.specs.Taking.{taken_up}
use Rattle.rcte.specs.Control.{RcteState, RcteEffect, wait_room, is_full, queued, pressed, waits, took_one}
use Rattle.rcte.specs.Refinement.{queued_if_room, pressed_if_room}

pub pressed_by : (e : RcteState) (k : Key) {b : Bool} → e.held ≡ b → pressed e k ≡ cond b (waits e k) (took_one e k (taken_up e.orders e.gathered k))
unfolding pressed
pressed_by e k h = ap (λ (b : Bool). cond b (waits e k) (took_one e k (taken_up e.orders e.gathered k))) h

module _ (e : RcteState) (k : Key) where
  abbrev stays : RcteState → RcteEffect
  stays x = record { paper = []; wire = []; taken = []; rcte = x }

  if_full : (b : Bool) → e.held ≡ b → pressed_if_room e k ≡ cond (b && leb wait_room (length e.waiting)) (stays e) (pressed e k)
  unfolding is_full
  if_full b h = ap (λ (x : Bool). cond (x && leb wait_room (length e.waiting)) (stays e) (pressed e k)) h

  -- held, it waits if there is room
  pub held_waits : e.held ≡ true → pressed_if_room e k ≡ record { paper = []; wire = []; taken = []; rcte = queued_if_room e k }
  held_waits h =
      if_full true h ∙ ap (λ (x : RcteEffect). cond (leb wait_room (length e.waiting)) (stays e) x) (pressed_by e k h) ∙ go (leb wait_room (length e.waiting))
    where
      go : (b : Bool) → cond b (stays e) (waits e k) ≡ record { paper = []; wire = []; taken = []; rcte = cond b e (queued e k) }
      go true = refl
      go false = refl

  -- else it is taken up
  pub free_takes : e.held ≡ false → pressed_if_room e k ≡ took_one e k (taken_up e.orders e.gathered k)
  free_takes h = if_full false h ∙ pressed_by e k h
