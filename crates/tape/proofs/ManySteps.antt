-- Many steps: their number does not matter, once it bounds what is ahead.
use mathlib.Core.Path.{◌≡◌, refl, sym, ap, ◌∙◌}
use mathlib.Core.Bool.{Bool, true, false, not, cond}
use mathlib.Core.List.{List, [], ◌++◌, append_assoc, append-nil}
use Prim.Native.Nat.{ℕ, zero, suc, ◌+◌, ◌-◌, ◌≤◌, ◌<◌}
use native.Mathlib.Omega.{arith}
use borrow.Author.Tests.{leb-false, le-leb, not-true}
use lib.Dec.{leb}
use lib.ListN.{length, length-append}
use Rattle.lists.proofs.Lengths.{chosen}
use Rattle.lists.proofs.Tables.{both_left}
use Rattle.tape.specs.declared.Place.{Place}
use Rattle.tape.specs.Running.{tape_output}
use Rattle.tape.specs.Refinement.Steps.{At, Progress, is_over, stepped, start, remaining, ahead}
use Rattle.tape.specs.Refinement.ManySteps.{goes_on, stays, lines_first, steps_for, ran_for, RanPrints, RanStops, RanFalls, RanWhole}
use Rattle.tape.specs.Whole.{line_room}
use Rattle.tape.proofs.Steps.{step_prints, step_falls, start_prints}

over_then : (tape : List ℕ) (p : Place) → ahead tape p ≤ 0 → is_over p ≡ true
unfolding ahead
over_then tape p h = go (is_over p) h
  where
    go : (b : Bool) → cond b 0 (1 + (length tape - p.next) + p.left) ≤ 0 → b ≡ true
    go true h = refl
    go false h = absurd (omega arith)

pub going_then : (a : At) (room : ℕ) → goes_on a room ≡ true → is_over a.place ≡ false
going_then a room e = not-true _ (both_left (not (is_over a.place)) (leb line_room room) e)

pub over_stays : (a : At) (room : ℕ) → is_over a.place ≡ true → goes_on a room ≡ false
over_stays a room e = rw e

module _ (tape : List ℕ) where
  falls_on : (a : At) (room n : ℕ) → goes_on a room ≡ true → ahead tape a.place ≤ suc n → ahead tape (stepped tape a).at.place ≤ n
  falls_on a room n e h = omega (arith, step_falls tape a (going_then a room e))

  same_behind : (b : Bool) (lines : List ℕ) (g h s : Progress) → (b ≡ true → g ≡ h) → cond b (lines_first lines g) s ≡ cond b (lines_first lines h) s
  same_behind true lines g h s e = ap (lines_first lines) (e refl)
  same_behind false lines g h s e = refl

  same_steps : (n m : ℕ) (a : At) (room : ℕ) → ahead tape a.place ≤ n → ahead tape a.place ≤ m → steps_for n tape a room ≡ steps_for m tape a room
  unfolding steps_for
  same_steps zero zero a room h k = refl
  same_steps zero (suc m) a room h k = rw (over_stays a room (over_then tape a.place h))
  same_steps (suc n) zero a room h k = rw (over_stays a room (over_then tape a.place k))
  same_steps (suc n) (suc m) a room h k =
      let g = stepped tape a in
      same_behind (goes_on a room) g.lines _ _ (stays a)
      (λ e. same_steps n m g.at (room - length g.lines) (falls_on a room n e h) (falls_on a room m e k))

  unrolled : (a : At) (room : ℕ)
      → ran_for tape a room
      ≡ cond (goes_on a room) (lines_first (stepped tape a).lines (steps_for (ahead tape a.place) tape (stepped tape a).at (room - length (stepped tape a).lines))) (stays a)
  unfolding ran_for steps_for
  unrolled a room = same_steps (ahead tape a.place) (suc (ahead tape a.place)) a room (omega arith) (omega arith)

  -- a run stops, or makes a step and goes on
  pub ran_stops : (a : At) (room : ℕ) → goes_on a room ≡ false → ran_for tape a room ≡ stays a
  ran_stops a room e = unrolled a room ∙ rw e

  pub ran_next : (a : At) (room : ℕ) → goes_on a room ≡ true
      → ran_for tape a room ≡ lines_first (stepped tape a).lines (ran_for tape (stepped tape a).at (room - length (stepped tape a).lines))
  unfolding ran_for
  ran_next a room e =
      unrolled a room
      ∙ (rw e
      (ap (lines_first (stepped tape a).lines)
      (same_steps (ahead tape a.place) (ahead tape (stepped tape a).at.place) (stepped tape a).at (room - length (stepped tape a).lines)
      (omega (arith, step_falls tape a (going_then a room e))) (omega arith))))

  -- what holds where a run stops, and of a step in front of a run where it holds of the run, holds of every run
  induct : (P : At → ℕ → Progress → Type 0) → ((a : At) (room : ℕ) → goes_on a room ≡ false → P a room (stays a))
      → ((a : At) (room : ℕ) (g : Progress) → goes_on a room ≡ true → P (stepped tape a).at (room - length (stepped tape a).lines) g → P a room (lines_first (stepped tape a).lines g))
      → (n : ℕ) (a : At) (room : ℕ) → ahead tape a.place ≤ n → P a room (steps_for n tape a room)
  unfolding steps_for
  induct P stop next zero a room h = stop a room (over_stays a room (over_then tape a.place h))
  induct P stop next (suc n) a room h =
      let g = stepped tape a in
      chosen (P a room) (goes_on a room) (λ e. next a room _ e (induct P stop next n g.at (room - length g.lines) (falls_on a room n e h))) (λ e. stop a room e)

  pub every_run : (P : At → ℕ → Progress → Type 0) → ((a : At) (room : ℕ) → goes_on a room ≡ false → P a room (stays a))
      → ((a : At) (room : ℕ) (g : Progress) → goes_on a room ≡ true → P (stepped tape a).at (room - length (stepped tape a).lines) g → P a room (lines_first (stepped tape a).lines g))
      → (a : At) (room : ℕ) → P a room (ran_for tape a room)
  unfolding ran_for
  every_run P stop next a room = induct P stop next (ahead tape a.place) a room (omega arith)

pub ran_prints : RanPrints
ran_prints tape =
    every_run tape (λ a room g. remaining tape a ≡ g.lines ++ remaining tape g.at) (λ a room e. refl)
    (λ a room g e h. step_prints tape a ∙ (rw h (sym (append_assoc (stepped tape a).lines g.lines (remaining tape g.at)))))

-- where a run that is not over stops, a line might not fit
short_then : (a : At) (room : ℕ) → goes_on a room ≡ false → is_over a.place ≡ false → room < line_room
short_then a room e going = leb-false line_room room (rw going at e)

pub ran_stops_short : RanStops
ran_stops_short tape =
    every_run tape (λ a room g. is_over g.at.place ≡ false → room < length g.lines + line_room) (λ a room e going. omega (arith, short_then a room e going))
    (λ a room g e h going. simp length-append (omega (arith, h going)))

-- no more is ahead after a run, and less after a step
not_more : (tape : List ℕ) (a : At) (room : ℕ) → ahead tape (ran_for tape a room).at.place ≤ ahead tape a.place
not_more tape =
    every_run tape (λ a room g. ahead tape g.at.place ≤ ahead tape a.place) (λ a room e. omega arith)
    (λ a room g e h. omega (arith, h, step_falls tape a (going_then a room e)))

pub ran_falls : RanFalls
ran_falls tape a room going fits =
    let g = stepped tape a in
    let on : goes_on a room ≡ true = rw (going, le-leb line_room room fits) in
    rw (ran_next tape a room on) (omega (arith, not_more tape g.at (room - length g.lines), step_falls tape a going))

pub ran_whole : RanWhole
unfolding remaining
ran_whole tape room fits = go (is_over r.at.place) refl
  where
    r : Progress
    r = ran_for tape start room

    all : tape_output tape ≡ r.lines ++ remaining tape r.at
    all = start_prints tape ∙ ran_prints tape start room

    long : length (tape_output tape) ≡ length r.lines + length (remaining tape r.at)
    long = ap length all ∙ length-append r.lines (remaining tape r.at)

    go : (b : Bool) → is_over r.at.place ≡ b → r.lines ≡ tape_output tape
    go true over =
        let none : remaining tape r.at ≡ [] = rw over in
        sym (all ∙ (rw none (append-nil r.lines)))
    go false going = absurd (omega (arith, ran_stops_short tape start room going, long))
