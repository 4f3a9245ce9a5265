-- A run of network bytes step by step, at either end; and that it is its one-byte calls.
use mathlib.Core.Path.{◌≡◌, refl, sym, ap, ap₂, ◌∙◌}
use mathlib.Core.Bool.{Bool, true, false, not, ◌&&◌, false≢true}
use mathlib.Core.List.{List, [], ◌∷◌, ◌++◌}
use Prim.Native.Nat.{ℕ, suc, ◌+◌, ◌-◌, ◌≤◌}
use native.Mathlib.Omega.{arith}
use borrow.Author.Tests.{le-ltb, ne_eqb}
use lib.Dec.{eqb}
use lib.ListN.{length, take, get_or, length-append}
use Rattle.codes.specs.Answers.{first_note, no_room, paper_room, wire_room, is_done, is_clear}
use Rattle.codes.specs.declared.Code.{Code}
use Rattle.codes.specs.declared.Code.TheVariants.{Done, NoRoom}
use Rattle.codes.specs.declared.Note.{Note}
use Rattle.codes.specs.declared.Note.TheVariants.{Clear}
use Rattle.codes.proofs.Notes.{clear_is}
use Rattle.reader.specs.NetworkRun.{OneByte, RunEffect, cannot_begin, stays, further, ran_from, run_from, answers_of, effect_of_all, AllTaken, IsCalls, RunIsCalls, Stops, RunStops}
use Rattle.reader.specs.NetworkEnd.{Lawful, PlainAt}

has_room : (p w : ℕ) → paper_room ≤ p → wire_room ≤ w → no_room p w ≡ false
has_room p w h k = rw (le-ltb p paper_room h, le-ltb w wire_room k)

module _ {S D A : Type 0} {e : OneByte S D A} (l : Lawful e) where
  abbrev next : S → ℕ → D
  next s b = l.read s b

  -- the run with the bytes behind one that was read
  abbrev rest : S → ℕ → List ℕ → ℕ → ℕ → RunEffect D
  rest s b bs p w = ran_from e (e.state (next s b)) bs (p - length (e.first (next s b))) (w - length (e.wire (next s b)))

  pub ran_full : (s : S) (bs : List ℕ) (p w : ℕ) → no_room p w ≡ true → ran_from e s bs p w ≡ stays e s
  unfolding ran_from
  ran_full s [] p w full = refl
  ran_full s (b ∷ bs) p w full = rw (l.refused s b p w full)

  module _ (s : S) (b : ℕ) (bs : List ℕ) (p w : ℕ) (room : no_room p w ≡ false) where
    pub ran_next : is_clear (e.note (next s b)) ≡ true → ran_from e s (b ∷ bs) p w ≡ further e 1 (next s b) (rest s b bs p w)
    unfolding ran_from
    ran_next c = rw ((l.done s b p w room).0, (l.done s b p w room).1, c)

    pub ran_last : is_clear (e.note (next s b)) ≡ false → ran_from e s (b ∷ bs) p w ≡ record { taken = 1; effect = next s b }
    unfolding ran_from
    ran_last c = rw ((l.done s b p w room).0, (l.done s b p w room).1, c)

  pub further_both : (n m : ℕ) (c d : D) (r : RunEffect D) → further e n c (further e m d r) ≡ further e (n + m) (e.followed c d) r
  further_both n m c d r =
      let sums : n + (m + r.taken) ≡ n + m + r.taken = omega arith in
      rw (sums, ← l.assoc c d r.effect)

  pub further_none : (s : S) (r : RunEffect D) → further e 0 (e.nothing s) r ≡ r
  further_none s r =
      let sums : 0 + r.taken ≡ r.taken = omega arith in
      rw (sums, l.none_before s r.effect)

  pub further_stays : (n : ℕ) (d : D) → further e n d (stays e (e.state d)) ≡ record { taken = n; effect = d }
  further_stays n d =
      let sums : n + 0 ≡ n = omega arith in
      rw (sums, l.none_behind d)

  -- a plain stretch, as long as each of its bytes has room, is one step of a run
  PlainRun : S → List ℕ → List ℕ → ℕ → ℕ → Type 0
  PlainRun s xs ys p w = ran_from e s (xs ++ ys) p w ≡ further e (length xs) (l.plain xs s) (ran_from e s ys (p - length xs) w)

  stretch_none : (s : S) (ys : List ℕ) (p w : ℕ) → PlainRun s [] ys p w
  unfolding PlainRun
  stretch_none s ys p w =
      let same : p - 0 ≡ p = omega arith in
      rw (same, l.plain_none s) (sym (further_none s (ran_from e s ys p w)))

  stretch_more : (s : S) (x : ℕ) (xs ys : List ℕ) (p w : ℕ) → next s x ≡ l.plain (x ∷ []) s → paper_room ≤ p → wire_room ≤ w → PlainRun s xs ys (p - 1) w → PlainRun s (x ∷ xs) ys p w
  unfolding PlainRun
  stretch_more s x xs ys p w one room wire more =
      let clear : is_clear (e.note (next s x)) ≡ true = rw (one, l.plain_note (x ∷ []) s) in
      let left : p - 1 - length xs ≡ p - suc (length xs) = omega arith in
      let same : w - 0 ≡ w = omega arith in
      let sums : 1 + length xs ≡ suc (length xs) = omega arith in
      ran_next s x (xs ++ ys) p w (has_room p w room wire) clear
      ∙ (rw (one, l.plain_state (x ∷ []) s, l.plain_first (x ∷ []) s, l.plain_wire (x ∷ []) s, same, more) refl)
      ∙ further_both 1 (length xs) (l.plain (x ∷ []) s) (l.plain xs s) (ran_from e s ys (p - 1 - length xs) w)
      ∙ (rw (sums, left, l.plain_more x xs s) refl)

  ran_stretch : (s : S) (xs ys : List ℕ) (p w : ℕ) → PlainAt l s xs → length xs + 1023 ≤ p → wire_room ≤ w → PlainRun s xs ys p w
  ran_stretch s [] ys p w plain room wire = stretch_none s ys p w
  ran_stretch s (x ∷ xs) ys p w plain room wire =
      stretch_more s x xs ys p w (plain 0 (omega arith)) (omega arith) wire
      (ran_stretch s xs ys (p - 1) w (λ j h. plain (suc j) (omega arith)) (omega arith) wire)

  pub ran_plain : (s : S) (xs ys : List ℕ) (p w : ℕ) → PlainAt l s xs → length xs + 1023 ≤ p → wire_room ≤ w
      → ran_from e s (xs ++ ys) p w ≡ further e (length xs) (l.plain xs s) (ran_from e s ys (p - length xs) w)
  unfolding PlainRun
  ran_plain s xs ys p w plain room wire = ran_stretch s xs ys p w plain room wire

  -- the answers of a run's calls
  abbrev answers : S → List ℕ → ℕ → ℕ → List A
  answers s bs p w = answers_of e s bs p w

  answers_more : (s : S) (b : ℕ) (bs : List ℕ) (p w : ℕ) → no_room p w ≡ false
      → answers s (b ∷ bs) p w
      ≡ e.call s b p w ∷ answers (e.state (next s b)) bs (p - length (e.first (next s b))) (w - length (e.wire (next s b)))
  unfolding answers_of
  answers_more s b bs p w room = rw (l.done s b p w room).1

  none_taken : (s : S) (bs : List ℕ) (p w : ℕ) → IsCalls e s bs p w (stays e s)
  unfolding answers_of effect_of_all AllTaken
  none_taken s bs p w = record { within = omega arith; same = refl; each = tt }

  taken_more : (a : A) (more : List A) → e.code a ≡ Done → e.note (e.effect a) ≡ Clear → AllTaken e more → AllTaken e (a ∷ more)
  unfolding AllTaken
  taken_more a [] d c h = d
  taken_more a (b ∷ more) d c h = (d, c, h)

  module _ (s : S) (b : ℕ) (bs : List ℕ) (p w : ℕ) (room : no_room p w ≡ false) where
    one_taken : IsCalls e s (b ∷ bs) p w (record { taken = 1; effect = next s b })
    unfolding answers_of effect_of_all AllTaken
    one_taken =
        let d = l.done s b p w room in
        record { within = omega arith; same = rw d.1 (sym (l.none_behind (next s b))); each = d.0 }

    effect_more : (more : List A) → effect_of_all e s (e.call s b p w ∷ more) ≡ e.followed (next s b) (effect_of_all e (e.state (next s b)) more)
    unfolding effect_of_all
    effect_more more = ap (λ (d : D). e.followed d (effect_of_all e (e.state d) more)) (l.done s b p w room).1

    more_taken : is_clear (e.note (next s b)) ≡ true → (r : RunEffect D)
        → IsCalls e (e.state (next s b)) bs (p - length (e.first (next s b))) (w - length (e.wire (next s b))) r
        → IsCalls e s (b ∷ bs) p w (further e 1 (next s b) r)
    more_taken c r h =
        let d = l.done s b p w room in
        let sums : 1 + r.taken ≡ suc r.taken = omega arith in
        let all = answers_more s b (take r.taken bs) p w room in
        record {
          within = omega (arith, h.within);
          same = rw (sums, all, effect_more) (ap (λ (x : D). e.followed (next s b) x) h.same);
          each = rw (sums, all) (taken_more (e.call s b p w) _ d.0 (rw d.1 (clear_is (e.note (next s b)) c)) h.each);
        }

  pub ran_none : (s : S) (p w : ℕ) → ran_from e s [] p w ≡ stays e s
  unfolding ran_from
  ran_none s p w = refl

  -- what holds of a run that takes nothing, that goes on, and that ends with a note, holds of every run
  module _ (P : S → List ℕ → ℕ → ℕ → RunEffect D → Type 0)
      (none : (s : S) (p w : ℕ) → P s [] p w (stays e s))
      (full : (s : S) (b : ℕ) (bs : List ℕ) (p w : ℕ) → no_room p w ≡ true → P s (b ∷ bs) p w (stays e s))
      (more : (s : S) (b : ℕ) (bs : List ℕ) (p w : ℕ) → no_room p w ≡ false → is_clear (e.note (next s b)) ≡ true → (r : RunEffect D)
      → P (e.state (next s b)) bs (p - length (e.first (next s b))) (w - length (e.wire (next s b))) r → P s (b ∷ bs) p w (further e 1 (next s b) r))
      (last : (s : S) (b : ℕ) (bs : List ℕ) (p w : ℕ) → no_room p w ≡ false → is_clear (e.note (next s b)) ≡ false
      → P s (b ∷ bs) p w (record { taken = 1; effect = next s b })) where
    of_each : (s : S) (b : ℕ) (bs : List ℕ) (p w : ℕ) (f c : Bool) → no_room p w ≡ f → is_clear (e.note (next s b)) ≡ c
        → P (e.state (next s b)) bs (p - length (e.first (next s b))) (w - length (e.wire (next s b))) (rest s b bs p w)
        → P s (b ∷ bs) p w (ran_from e s (b ∷ bs) p w)
    of_each s b bs p w true c f g h = rw (ran_full s (b ∷ bs) p w f) (full s b bs p w f)
    of_each s b bs p w false true f g h = rw (ran_next s b bs p w f g) (more s b bs p w f g (rest s b bs p w) h)
    of_each s b bs p w false false f g h = rw (ran_last s b bs p w f g) (last s b bs p w f g)

    pub of_run : (s : S) (bs : List ℕ) (p w : ℕ) → P s bs p w (ran_from e s bs p w)
    of_run s [] p w = rw (ran_none s p w) (none s p w)
    of_run s (b ∷ bs) p w =
        of_each s b bs p w (no_room p w) (is_clear (e.note (next s b))) refl refl
        (of_run (e.state (next s b)) bs (p - length (e.first (next s b))) (w - length (e.wire (next s b))))

  pub run_is_calls : RunIsCalls e
  run_is_calls =
      of_run (IsCalls e) (λ s p w. none_taken s [] p w) (λ s b bs p w full. none_taken s (b ∷ bs) p w)
      (λ s b bs p w room c r h. more_taken s b bs p w room c r h) (λ s b bs p w room c. one_taken s b bs p w room)

  -- a run stops only where the next call is refused, or behind a note
  same_test : {s t : S} {p q w v : ℕ} (b : ℕ) → s ≡ t → p ≡ q → w ≡ v → is_done (e.code (e.call t b q v)) ≡ false → is_done (e.code (e.call s b p w)) ≡ false
  same_test b f g h k = rw (f, g, h) k

  stops_full : (s : S) (b : ℕ) (bs : List ℕ) (p w : ℕ) → no_room p w ≡ true → Stops e (b ∷ bs) p w (stays e s)
  stops_full s b bs p w full lt c =
      let first : e.first (e.nothing s) ≡ [] = rw (← l.plain_none s) (l.plain_first [] s) in
      let wire : e.wire (e.nothing s) ≡ [] = rw (← l.plain_none s) (l.plain_wire [] s) in
      let state : e.state (e.nothing s) ≡ s = rw (← l.plain_none s) (l.plain_state [] s) in
      same_test {q = p} {v = w} b state (rw first (omega arith)) (rw wire (omega arith)) (rw (l.refused s b p w full))

  clear_rest : (n m : Note) → n ≡ Clear → first_note n m ≡ Clear → m ≡ Clear
  clear_rest n m c h = rw c at h

  stops_later : (s : S) (b : ℕ) (bs : List ℕ) (p w : ℕ) → no_room p w ≡ false → is_clear (e.note (next s b)) ≡ true → (r : RunEffect D)
      → Stops e bs (p - length (e.first (next s b))) (w - length (e.wire (next s b))) r → Stops e (b ∷ bs) p w (further e 1 (next s b) r)
  stops_later s b bs p w room c r h lt clear =
      let d = next s b in
      let sums : 1 + r.taken ≡ suc r.taken = omega arith in
      let first : p - length (e.first (e.followed d r.effect)) ≡ p - length (e.first d) - length (e.first r.effect) = rw (l.first_both d r.effect) (simp length-append (omega arith)) in
      let wire : w - length (e.wire (e.followed d r.effect)) ≡ w - length (e.wire d) - length (e.wire r.effect) = rw (l.wire_both d r.effect) (simp length-append (omega arith)) in
      rw sums
      (same_test (get_or bs r.taken 0) (l.state_both d r.effect) first wire
      (h (omega arith) (clear_rest (e.note d) (e.note r.effect) (clear_is (e.note d) c) (sym (l.note_both d r.effect) ∙ clear))))

  pub run_stops : RunStops e
  run_stops =
      of_run (λ s bs p w r. Stops e bs p w r) (λ s p w lt c. absurd (omega arith)) stops_full stops_later
      (λ s b bs p w room c lt clear. absurd (false≢true (sym c ∙ ap is_clear clear)))

  -- the run as a whole is refused with its first byte, or begins
  begins : (n : ℕ) (t : Bool) → (not (eqb (suc n) 0) && t) ≡ t
  begins n t = rw (ne_eqb (suc n) 0 (λ h. omega (arith, h)))

  pub run_begun : (s : S) (bs : List ℕ) (p w : ℕ) → cannot_begin (length bs) p w ≡ false → run_from e s bs p w ≡ record { code = Done; ran = ran_from e s bs p w }
  unfolding run_from
  run_begun s [] p w h = refl
  run_begun s (b ∷ bs) p w h =
      ap (λ (c : Code). record { code = c; ran = ran_from e s (b ∷ bs) p w }) (l.done s b p w (sym (begins (length bs) (no_room p w)) ∙ h)).0

  pub run_refused : (s : S) (bs : List ℕ) (p w : ℕ) → cannot_begin (length bs) p w ≡ true → run_from e s bs p w ≡ record { code = NoRoom; ran = stays e s }
  unfolding run_from
  run_refused s [] p w h = absurd (false≢true h)
  run_refused s (b ∷ bs) p w h =
      let full = sym (begins (length bs) (no_room p w)) ∙ h in
      ap₂ (λ (c : Code) (r : RunEffect D). record { code = c; ran = r }) (l.refused s b p w full) (ran_full s (b ∷ bs) p w full)
