-- A run of network bytes in code, at either end: what is taken at the front of it, and the loop's invariant.
use mathlib.Core.Path.{◌≡◌, refl, sym, ap, subst, ◌∙◌}
use mathlib.Core.Bool.{Bool, true, false, cond}
use mathlib.Core.List.{List, [], ◌∷◌, ◌++◌}
use Prim.Native.Nat.{ℕ, ◌+◌, ◌-◌, ◌≤◌, ◌<◌, min}
use native.Mathlib.Omega.{arith}
use lib.ListN.{length, take, drop, get_or, length-append, length-take, length-drop, take-append-drop, drop_of_length-le}
use lib.Seq.{take_all, take-take}
use Rattle.lists.specs.Buffers.{Lent, lent_as, untouched, WroteAtStart, RoomFor}
use Rattle.lists.proofs.Starts.{wrote_none}
use Rattle.lists.proofs.Parts.{rest_of, with_rest, wrote_then, counted, same_long}
use Rattle.codes.specs.Answers.{first_note, no_room, is_clear}
use Rattle.codes.specs.declared.Note.{Note}
use Rattle.codes.specs.declared.Note.TheVariants.{Clear, Unreadable, Inactive, OtherOption, Stray}
use Rattle.codes.specs.contracts.Note.{the_type}
use denote.Enum.Bare.{sameb}
use Rattle.codes.proofs.Notes.{clear_is}
use Rattle.codes.proofs.Rooms.{both_lent}
use Rattle.reader.specs.declared.network_runs.Ran.{Ran}
use Rattle.reader.specs.NetworkRun.{OneByte, RunEffect, stays, further, ran_from}
use Rattle.reader.specs.NetworkEnd.{Lawful, PlainAt, Stepped, Finished, TookFront}
use Rattle.reader.proofs.NetworkRun.{ran_full, ran_none, ran_next, ran_last, ran_plain, further_both, further_none, further_stays}

-- how much of a buffer is unused
abbrev pub left_of : Lent → ℕ → ℕ
left_of out n = length out.after - n

module _ {S D A C : Type 0} {e : OneByte S D A} (l : Lawful e) (view : C → S) (Kept : C → C → Type 0) where
  -- a plain stretch at the front, looked for as far as each of its bytes has room, and copied
  module _ (s : C) (bytes first wire : List ℕ) (room : no_room (length first) (length wire) ≡ false)
      (n reach : ℕ) (reached : reach ≡ min (length bytes) (length first - 1023)) (within : n ≤ length (take reach bytes))
      (plain : PlainAt l (view s) (take n (take reach bytes))) where
    stretch : List ℕ
    stretch = take n bytes

    short : n ≤ reach
    short = omega (arith, simp length-take at within)

    stretch_long : length stretch ≡ n
    unfolding stretch
    stretch_long = simp length-take (omega (arith, simp length-take at within))

    stretch_plain : PlainAt l (view s) stretch
    unfolding stretch
    stretch_plain = subst (λ (xs : List ℕ). PlainAt l (view s) xs) (take-take n reach bytes short) plain

    whole : stretch ++ drop n bytes ≡ bytes
    unfolding stretch
    whole = take-append-drop n bytes

    pub took_stretch : 0 < n → Kept s s → TookFront l view Kept s s bytes (lent_as first (take n bytes ++ drop n first)) (untouched wire) (record { note = Clear; taken = n; first = n; wire = 0 })
    unfolding stretch
    took_stretch some still =
        let lent = both_lent (length first) (length wire) room in
        let same : length wire - 0 ≡ length wire = omega arith in
        record {
          some = some;
          within = omega (arith, simp length-take at within);
          effect = l.plain stretch (view s);
          step = record {
            note = sym (l.plain_note stretch (view s));
            on_first = rw (l.plain_first stretch (view s)) (record { count = sym stretch_long; cells = rw stretch_long refl });
            on_wire = rw (l.plain_wire stretch (view s)) (wrote_none wire);
            sees = sym (l.plain_state stretch (view s));
            kept = still;
          };
          rest = rw (l.plain_state stretch (view s), same) (rw (whole, stretch_long) at (ran_plain l (view s) stretch (drop n bytes) (length first) (length wire) stretch_plain (omega (arith, stretch_long, short, lent.0)) lent.1));
        }

  -- the byte at the front by itself
  module _ (s t : C) (first wire : Lent) (n : Note) (p w : ℕ) (room : no_room (length first.before) (length wire.before) ≡ false) where
    on_from : (b : ℕ) (more : List ℕ) (c : Bool) → is_clear n ≡ c → Stepped l view Kept (l.read (view s) b) s t n first wire p w
        → ran_from e (view s) (b ∷ more) (length first.before) (length wire.before)
        ≡ cond c
        (further e 1 (l.read (view s) b) (ran_from e (e.state (l.read (view s) b)) more (length first.before - p) (length wire.before - w)))
        (record { taken = 1; effect = l.read (view s) b })
    on_from b more true h m = rw (m.on_first.count, m.on_wire.count) (ran_next l (view s) b more (length first.before) (length wire.before) room (rw m.note at h))
    on_from b more false h m = ran_last l (view s) b more (length first.before) (length wire.before) room (rw m.note at h)

    pub took_byte : (bytes : List ℕ) → 0 < length bytes → Stepped l view Kept (l.read (view s) (get_or bytes 0 0)) s t n first wire p w
        → TookFront l view Kept s t bytes first wire (record { note = n; taken = 1; first = p; wire = w })
    took_byte [] some m = absurd (omega (arith, some))
    took_byte (b ∷ more) some m = record {
      some = omega arith;
      within = omega arith;
      effect = l.read (view s) b;
      step = m;
      rest = on_from b more (is_clear n) refl m;
    }

  -- some bytes are read: what they did, and what is still to come, with the rest in the tails that are left
  pub record RunInvariant (s : C) (bytes : List ℕ) (first wire : Lent) (t : C) (rest : List ℕ) (r : Ran) : Type 0 where
    pub count : r.taken + length rest ≡ length bytes
    pub effect : D
    pub step : Stepped l view Kept effect s t r.note first wire r.first r.wire
    pub first_fits : RoomFor (e.first effect) first.before
    pub wire_fits : RoomFor (e.wire effect) wire.before
    pub all : ran_from e (view s) bytes (length first.before) (length wire.before)
        ≡ cond (is_clear r.note)
        (further e r.taken effect (ran_from e (e.state effect) rest (left_of first r.first) (left_of wire r.wire)))
        (record { taken = r.taken; effect = effect })

module _ {S D A C : Type 0} (e : OneByte S D A) (l : Lawful e) (view : C → S) (Kept : C → C → Type 0) where
  pub begun : (s : C) (bytes first wire : List ℕ) → Kept s s
      → RunInvariant l view Kept s bytes (untouched first) (untouched wire) s bytes (record { note = Clear; taken = 0; first = 0; wire = 0 })
  begun s bytes first wire still =
      let a : length first - 0 ≡ length first = omega arith in
      let b : length wire - 0 ≡ length wire = omega arith in
      let none = l.plain_none (view s) in
      let on_first : e.first (e.nothing (view s)) ≡ [] = rw (← none) (l.plain_first [] (view s)) in
      let on_wire : e.wire (e.nothing (view s)) ≡ [] = rw (← none) (l.plain_wire [] (view s)) in
      let state : e.state (e.nothing (view s)) ≡ view s = rw (← none) (l.plain_state [] (view s)) in
      let clear : e.note (e.nothing (view s)) ≡ Clear = rw (← none) (l.plain_note [] (view s)) in
      record {
        count = omega arith;
        effect = e.nothing (view s);
        step = record { note = sym clear; on_first = rw on_first (wrote_none first); on_wire = rw on_wire (wrote_none wire); sees = sym state; kept = still };
        first_fits = rw on_first (omega arith);
        wire_fits = rw on_wire (omega arith);
        all = rw (a, b, state) (sym (further_none l (view s) (ran_from e (view s) bytes (length first) (length wire))));
      }

-- what was written of a buffer that kept its length fits it
written : {bytes : List ℕ} {out : Lent} {n : ℕ} → WroteAtStart bytes out n → length out.after ≡ length out.before → RoomFor bytes out.before
written {bytes} {out} w same =
    let long : length out.after ≡ length bytes + (length out.before - length bytes) = rw w.cells (simp (length-append, length-drop) refl) in
    omega (arith, long, same)

rest_long : (out : Lent) (n : ℕ) → length (rest_of out n) ≡ left_of out n
rest_long out n = simp (length-take, length-drop) (omega arith)

module _ {S D A C : Type 0} {e : OneByte S D A} {l : Lawful e} {view : C → S} {Kept : C → C → Type 0} {s : C} {bytes : List ℕ} {first wire : Lent} {t : C}
    {rest : List ℕ} {r : Ran} (g : RunInvariant l view Kept s bytes first wire t rest r) where
  pub first_in : r.first ≤ length first.after
  first_in = omega (arith, counted g.step.on_first g.first_fits, same_long g.step.on_first g.first_fits)

  pub wire_in : r.wire ≤ length wire.after
  wire_in = omega (arith, counted g.step.on_wire g.wire_fits, same_long g.step.on_wire g.wire_fits)

  -- nothing more is taken: behind a note, with no byte left, or with no room for one
  is_over : (ran_from e (view s) bytes (length first.before) (length wire.before)) ≡ record { taken = r.taken; effect = g.effect } → Finished l view Kept (ran_from e (view s) bytes (length first.before) (length wire.before)) s t first wire r
  is_over h = rw h (record { taken = refl; step = g.step })

  stays_so : ran_from e (e.state g.effect) rest (left_of first r.first) (left_of wire r.wire) ≡ stays e (e.state g.effect) → Finished l view Kept (ran_from e (view s) bytes (length first.before) (length wire.before)) s t first wire r
  stays_so h = go (is_clear r.note) g.all
    where
      go : (c : Bool) → (ran_from e (view s) bytes (length first.before) (length wire.before)) ≡ cond c (further e r.taken g.effect (ran_from e (e.state g.effect) rest (left_of first r.first) (left_of wire r.wire))) (record { taken = r.taken; effect = g.effect }) → Finished l view Kept (ran_from e (view s) bytes (length first.before) (length wire.before)) s t first wire r
      go true k = is_over (k ∙ ap (λ (x : RunEffect D). further e r.taken g.effect x) h ∙ further_stays l r.taken g.effect)
      go false k = is_over k

  pub over_empty : length rest ≡ 0 → Finished l view Kept (ran_from e (view s) bytes (length first.before) (length wire.before)) s t first wire r
  over_empty none =
      let empty : rest ≡ [] = drop_of_length-le rest {i = 0} (omega (arith, none)) in
      stays_so (ap (λ (xs : List ℕ). ran_from e (e.state g.effect) xs (left_of first r.first) (left_of wire r.wire)) empty ∙ ran_none l (e.state g.effect) (left_of first r.first) (left_of wire r.wire))

  pub over_full : no_room (left_of first r.first) (left_of wire r.wire) ≡ true → Finished l view Kept (ran_from e (view s) bytes (length first.before) (length wire.before)) s t first wire r
  over_full full = stays_so (ran_full l (e.state g.effect) rest (left_of first r.first) (left_of wire r.wire) full)

  -- bytes at the front of the rest were taken
  module _ (clear : is_clear r.note ≡ true) {t' : C} {last_first last_wire : List ℕ} {f : Ran}
      (m : TookFront l view Kept t t' rest (lent_as (rest_of first r.first) last_first) (lent_as (rest_of wire r.wire) last_wire) f)
      (first_long : length last_first ≡ length (rest_of first r.first)) (wire_long : length last_wire ≡ length (rest_of wire r.wire))
      (onward : (a b c : C) → Kept a b → Kept b c → Kept a c) where
    both : D
    both = e.followed g.effect m.effect

    both_step : Stepped l view Kept both s t' f.note (with_rest first r.first last_first) (with_rest wire r.wire last_wire) (r.first + f.first) (r.wire + f.wire)
    unfolding both
    both_step =
        let was : e.note g.effect ≡ Clear = sym g.step.note ∙ clear_is r.note clear in
        record {
          note = m.step.note ∙ sym (l.note_both g.effect m.effect ∙ ap (λ (x : Note). first_note x (e.note m.effect)) was);
          on_first = rw (l.first_both g.effect m.effect) (wrote_then g.step.on_first g.first_fits (e.first m.effect) last_first f.first m.step.on_first);
          on_wire = rw (l.wire_both g.effect m.effect) (wrote_then g.step.on_wire g.wire_fits (e.wire m.effect) last_wire f.wire m.step.on_wire);
          sees = m.step.sees ∙ sym (l.state_both g.effect m.effect);
          kept = onward s t t' g.step.kept m.step.kept;
        }

    first_both : RoomFor (e.first both) first.before
    unfolding both
    first_both =
        let part : length (e.first m.effect) ≤ length (rest_of first r.first) = written m.step.on_first first_long in
        rw (l.first_both g.effect m.effect) (simp length-append (omega (arith, part, rest_long first r.first, g.step.on_first.count, first_in, same_long g.step.on_first g.first_fits)))

    wire_both : RoomFor (e.wire both) wire.before
    unfolding both
    wire_both =
        let part : length (e.wire m.effect) ≤ length (rest_of wire r.wire) = written m.step.on_wire wire_long in
        rw (l.wire_both g.effect m.effect) (simp length-append (omega (arith, part, rest_long wire r.wire, g.step.on_wire.count, wire_in, same_long g.step.on_wire g.wire_fits)))

    first_left : length (rest_of first r.first) - f.first ≡ left_of (with_rest first r.first last_first) (r.first + f.first)
    first_left = omega (arith, rest_long first r.first, same_long both_step.on_first first_both, same_long g.step.on_first g.first_fits)

    wire_left : length (rest_of wire r.wire) - f.wire ≡ left_of (with_rest wire r.wire last_wire) (r.wire + f.wire)
    wire_left = omega (arith, rest_long wire r.wire, same_long both_step.on_wire wire_both, same_long g.step.on_wire g.wire_fits)

    -- the run from here on
    onward_from : ran_from e (view t) rest (length (rest_of first r.first)) (length (rest_of wire r.wire)) ≡ ran_from e (e.state g.effect) rest (left_of first r.first) (left_of wire r.wire)
    onward_from = rw (g.step.sees, rest_long first r.first, rest_long wire r.wire) refl

    goes_on : (c : Bool) → is_clear f.note ≡ c
        → ran_from e (view s) bytes (length first.before) (length wire.before)
        ≡ cond c
        (further e (r.taken + f.taken) both (ran_from e (e.state both) (drop f.taken rest) (left_of (with_rest first r.first last_first) (r.first + f.first)) (left_of (with_rest wire r.wire last_wire) (r.wire + f.wire))))
        (record { taken = r.taken + f.taken; effect = both })
    unfolding both
    goes_on true h =
        let now = rw clear at g.all in
        let here = rw h at m.rest in
        now ∙ ap (λ (x : RunEffect D). further e r.taken g.effect x) (sym onward_from ∙ here) ∙ further_both l r.taken f.taken g.effect m.effect _ ∙ (rw (l.state_both g.effect m.effect, first_left, wire_left) refl)
    goes_on false h =
        let now = rw clear at g.all in
        let here = rw h at m.rest in
        now ∙ ap (λ (x : RunEffect D). further e r.taken g.effect x) (sym onward_from ∙ here)

    pub turn : RunInvariant l view Kept s bytes (with_rest first r.first last_first) (with_rest wire r.wire last_wire) t' (take (length rest - f.taken) (drop f.taken rest))
        (record { note = f.note; taken = r.taken + f.taken; first = r.first + f.first; wire = r.wire + f.wire })
    turn =
        let all : take (length rest - f.taken) (drop f.taken rest) ≡ drop f.taken rest = take_all (length rest - f.taken) (drop f.taken rest) (simp length-drop (omega arith)) in
        rw all (record {
          count = simp length-drop (omega (arith, g.count, m.within));
          effect = both;
          step = both_step;
          first_fits = first_both;
          wire_fits = wire_both;
          all = goes_on (is_clear f.note) refl;
        })

-- a note is compared with Clear
pub same_clear : (n : Note) → sameb the_type n Clear ≡ is_clear n
same_clear Clear = refl
same_clear Unreadable = refl
same_clear Inactive = refl
same_clear OtherOption = refl
same_clear Stray = refl
