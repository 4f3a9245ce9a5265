-- A run of network bytes, at either end: the call with one byte over a list of them, each in the unused tails of the two lent
-- buffers. It stops before a byte that would be refused, and after one that gave a note.
use Rattle.std.specs.Prelude.{◌≡◌, Bool, false, not, ◌&&◌, cond, List, [], ◌∷◌, ℕ, ◌+◌, ◌-◌, ◌≤◌, ◌<◌, eqb, length, take, get_or}
use Rattle.codes.specs.Answers.{no_room, is_done, is_clear}
use Rattle.codes.specs.declared.Code.{Code}
use Rattle.codes.specs.declared.Code.TheVariants.{Done}
use Rattle.codes.specs.declared.Note.{Note}
use Rattle.codes.specs.declared.Note.TheVariants.{Clear}

-- An end's call with one byte, by its parts: S are the end's states, D what a step does, A the answers. The first buffer is the paper
-- at the printer end and the host's data at the bulletin end.
pub record OneByte (S D A : Type 0) : Type 0 where
  pub call : S → (byte first wire : ℕ) → A
  pub code : A → Code
  pub effect : A → D
  pub note : D → Note
  pub first : D → List ℕ
  pub wire : D → List ℕ
  pub state : D → S
  pub nothing : S → D
  pub followed : D → D → D

-- what came of a run: the number of its bytes that were read, and all that these did
pub record RunEffect (D : Type 0) : Type 0 where
  pub taken : ℕ
  pub effect : D

-- a run's answer; its code is that of the call with its first byte
pub record RunCallEffect (D : Type 0) : Type 0 where
  pub code : Code
  pub ran : RunEffect D

-- a run of so many bytes is refused: it has a first byte, and that would be
abbrev pub cannot_begin : (count first wire : ℕ) → Bool
cannot_begin count first wire = not (eqb count 0) && no_room first wire

module _ {S D A : Type 0} (e : OneByte S D A) where
  abbrev pub stays : S → RunEffect D
  stays s = record { taken = 0; effect = e.nothing s }

  -- the same where a step d, of n bytes, went before
  abbrev pub further : ℕ → D → RunEffect D → RunEffect D
  further n d r = record { taken = n + r.taken; effect = e.followed d r.effect }

  unfoldable pub ran_from : S → List ℕ → (first wire : ℕ) → RunEffect D
  ran_from s [] first wire = stays s
  ran_from s (b ∷ bs) first wire =
      let a = e.call s b first wire in
      let d = e.effect a in
      cond (is_done (e.code a))
      (cond (is_clear (e.note d))
      (further 1 d (ran_from (e.state d) bs (first - length (e.first d)) (wire - length (e.wire d))))
      (record { taken = 1; effect = d }))
      (stays s)

  abbrev pub first_code : S → List ℕ → (first wire : ℕ) → Code
  first_code s [] first wire = Done
  first_code s (b ∷ bs) first wire = e.code (e.call s b first wire)

  unfoldable pub run_from : S → List ℕ → (first wire : ℕ) → RunCallEffect D
  run_from s bs first wire = record { code = first_code s bs first wire; ran = ran_from s bs first wire }

  -- the one-byte calls with these bytes, each in the tails that the one before left: their answers, and as calls of a session
  unfoldable pub answers_of : S → List ℕ → (first wire : ℕ) → List A
  answers_of s [] first wire = []
  answers_of s (b ∷ bs) first wire =
      let a = e.call s b first wire in
      let d = e.effect a in
      a ∷ answers_of (e.state d) bs (first - length (e.first d)) (wire - length (e.wire d))

  unfoldable pub calls_by : {C : Type 0} → ((byte first wire : ℕ) → C) → S → List ℕ → (first wire : ℕ) → List C
  calls_by network s [] first wire = []
  calls_by network s (b ∷ bs) first wire =
      let d = e.effect (e.call s b first wire) in
      network b first wire ∷ calls_by network (e.state d) bs (first - length (e.first d)) (wire - length (e.wire d))

  -- what answers did, one after the other
  unfoldable pub effect_of_all : S → List A → D
  effect_of_all s [] = e.nothing s
  effect_of_all s (a ∷ rest) = e.followed (e.effect a) (effect_of_all (e.state (e.effect a)) rest)

  -- each has code 0, and none but the last a note
  unfoldable pub AllTaken : List A → Type 0
  AllTaken [] = Unit {0}
  AllTaken (a ∷ []) = e.code a ≡ Done
  AllTaken (a ∷ b ∷ rest) = (e.code a ≡ Done) × (e.note (e.effect a) ≡ Clear) × AllTaken (b ∷ rest)

  -- a run did what the calls with the bytes that it took do
  pub record IsCalls (s : S) (bs : List ℕ) (room wire_room : ℕ) (r : RunEffect D) : Type 0 where
    pub within : r.taken ≤ length bs
    pub same : r.effect ≡ effect_of_all s (answers_of s (take r.taken bs) room wire_room)
    pub each : AllTaken (answers_of s (take r.taken bs) room wire_room)

  abbrev pub RunIsCalls : Type 0
  RunIsCalls = (s : S) (bs : List ℕ) (first wire : ℕ) → IsCalls s bs first wire (ran_from s bs first wire)

  -- the call with the byte behind those that a run took, in the tails that are left
  abbrev pub next_call : List ℕ → (first wire : ℕ) → RunEffect D → A
  next_call bs first wire r = e.call (e.state r.effect) (get_or bs r.taken 0) (first - length (e.first r.effect)) (wire - length (e.wire r.effect))

  -- a run that left bytes and gave no note: that call is refused
  abbrev pub Stops : List ℕ → (first wire : ℕ) → RunEffect D → Type 0
  Stops bs first wire r = r.taken < length bs → e.note r.effect ≡ Clear → is_done (e.code (next_call bs first wire r)) ≡ false

  abbrev pub RunStops : Type 0
  RunStops = (s : S) (bs : List ℕ) (first wire : ℕ) → Stops bs first wire (ran_from s bs first wire)
