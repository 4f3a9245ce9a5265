-- An end that reads runs of network bytes: the laws of its rule, and how the code meets it, whatever keeps the end's state.
use Rattle.std.specs.Prelude.{◌≡◌, true, false, cond, List, [], ◌∷◌, ◌++◌, ℕ, ◌-◌, ◌≤◌, ◌<◌, length, drop, get_or}
use Rattle.lists.specs.Buffers.{Lent, WroteAtStart}
use Rattle.codes.specs.Answers.{first_note, no_room, is_clear}
use Rattle.codes.specs.declared.Code.TheVariants.{Done, NoRoom}
use Rattle.codes.specs.declared.Note.{Note}
use Rattle.codes.specs.declared.Note.TheVariants.{Clear}
use Rattle.reader.specs.declared.network_runs.Ran.{Ran}
use Rattle.reader.specs.NetworkRun.{OneByte, RunEffect, further, ran_from}

-- What a run needs of an end: a byte is refused where a buffer is too small, else read; steps one behind the other write their bytes
-- so; and a plain step writes bytes to the first buffer, and nothing else happens.
pub record Lawful {S D A : Type 0} (e : OneByte S D A) : Type 0 where
  pub read : S → ℕ → D
  pub plain : List ℕ → S → D
  pub refused : (s : S) (b p w : ℕ) → no_room p w ≡ true → e.code (e.call s b p w) ≡ NoRoom
  pub done : (s : S) (b p w : ℕ) → no_room p w ≡ false → (e.code (e.call s b p w) ≡ Done) × (e.effect (e.call s b p w) ≡ read s b)
  pub note_both : (c d : D) → e.note (e.followed c d) ≡ first_note (e.note c) (e.note d)
  pub first_both : (c d : D) → e.first (e.followed c d) ≡ e.first c ++ e.first d
  pub wire_both : (c d : D) → e.wire (e.followed c d) ≡ e.wire c ++ e.wire d
  pub state_both : (c d : D) → e.state (e.followed c d) ≡ e.state d
  pub assoc : (c d f : D) → e.followed (e.followed c d) f ≡ e.followed c (e.followed d f)
  pub none_before : (s : S) (d : D) → e.followed (e.nothing s) d ≡ d
  pub none_behind : (d : D) → e.followed d (e.nothing (e.state d)) ≡ d
  pub plain_none : (s : S) → plain [] s ≡ e.nothing s
  pub plain_more : (x : ℕ) (xs : List ℕ) (s : S) → e.followed (plain (x ∷ []) s) (plain xs s) ≡ plain (x ∷ xs) s
  pub plain_note : (xs : List ℕ) (s : S) → e.note (plain xs s) ≡ Clear
  pub plain_first : (xs : List ℕ) (s : S) → e.first (plain xs s) ≡ xs
  pub plain_wire : (xs : List ℕ) (s : S) → e.wire (plain xs s) ≡ []
  pub plain_state : (xs : List ℕ) (s : S) → e.state (plain xs s) ≡ s

-- each byte is plain in the state s
abbrev pub PlainAt : {S D A : Type 0} {e : OneByte S D A} → Lawful e → S → List ℕ → Type 0
PlainAt l s xs = (j : ℕ) → j < length xs → l.read s (get_or xs j 0) ≡ l.plain (get_or xs j 0 ∷ []) s

-- C are what keeps the end's state in code, each seen as a state of the rule; Kept is what bytes keep of it besides
module _ {S D A C : Type 0} {e : OneByte S D A} (l : Lawful e) (view : C → S) (Kept : C → C → Type 0) where
  -- a step of the code did d, and wrote p and w bytes at the start of two buffers
  pub record Stepped (d : D) (s t : C) (n : Note) (first wire : Lent) (p w : ℕ) : Type 0 where
    pub note : n ≡ e.note d
    pub on_first : WroteAtStart (e.first d) first p
    pub on_wire : WroteAtStart (e.wire d) wire w
    pub sees : view t ≡ e.state d
    pub kept : Kept s t

  -- the code did what a run does
  pub record Finished (x : RunEffect D) (s t : C) (first wire : Lent) (r : Ran) : Type 0 where
    pub taken : r.taken ≡ x.taken
    pub step : Stepped x.effect s t r.note first wire r.first r.wire

  -- it took some bytes at the front of a run's, which then goes on with the rest, or is over with their note
  pub record TookFront (s t : C) (bytes : List ℕ) (first wire : Lent) (r : Ran) : Type 0 where
    pub some : 0 < r.taken
    pub within : r.taken ≤ length bytes
    pub effect : D
    pub step : Stepped effect s t r.note first wire r.first r.wire
    pub rest : ran_from e (view s) bytes (length first.before) (length wire.before)
        ≡ cond (is_clear r.note)
        (further e r.taken effect (ran_from e (e.state effect) (drop r.taken bytes) (length first.before - r.first) (length wire.before - r.wire)))
        (record { taken = r.taken; effect = effect })
