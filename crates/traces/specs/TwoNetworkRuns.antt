-- Demand 3 where network bytes come in runs.
use Rattle.std.specs.Prelude.{◌≡◌, Bool, true, false, List, [], ◌∷◌, ◌++◌, map, ℕ, length}
use Rattle.keys.specs.declared.Key.{Key}
use Rattle.reader.specs.NetworkRun.{RunCallEffect}
use Rattle.printer.specs.State.{PrinterState, Effect, fresh}
use Rattle.printer.specs.Calls.{waiting_count}
use Rattle.printer.specs.Session.Call.{key}
use Rattle.noninterference.specs.TwoSessions.{Typed, UnprintedIn, SameWidthIn}
use Rattle.traces.specs.Chains.{Beside}
use Rattle.traces.specs.NetworkRuns.{Part, one, run, after_part, answered_from, calls_in, one_by_one}

-- The parts agree one by one, runs included, except that at some key calls a typed character is replaced by another. The marks say of
-- each part whether its key was replaced.
pub data AgreeInParts : List Bool → List Part → List Part → Type 0 where
  none : AgreeInParts [] [] []
  same : {x : Part} {ms : List Bool} {xs ys : List Part} → AgreeInParts ms xs ys → AgreeInParts (false ∷ ms) (x ∷ xs) (x ∷ ys)
  replaced : {k l : Key} {p w : ℕ} {ms : List Bool} {xs ys : List Part} → Typed k → Typed l → AgreeInParts ms xs ys
      → AgreeInParts (true ∷ ms) (one (key k p w) ∷ xs) (one (key l p w) ∷ ys)

-- the marks of the one-byte calls: no byte of a run is a key
abbrev pub marks_in : PrinterState → Bool → Part → List Bool
marks_in s m (one c) = m ∷ []
marks_in s m (run r) = map (λ c. false) (calls_in s (run r))

unfoldable pub marks_over : PrinterState → List Bool → List Part → List Bool
marks_over s [] xs = []
marks_over s (m ∷ ms) [] = []
marks_over s (m ∷ ms) (x ∷ xs) = marks_in s m x ++ marks_over (after_part s x) ms xs

-- the hypotheses of demand 3, about the one-byte calls
abbrev pub UnprintedInParts : List Bool → List Part → Type 0
UnprintedInParts ms xs = UnprintedIn (marks_over fresh ms xs) (one_by_one fresh xs)

abbrev pub SameWidthInParts : List Bool → List Part → List Part → Type 0
SameWidthInParts ms xs ys = SameWidthIn (marks_over fresh ms xs) (one_by_one fresh xs) (one_by_one fresh ys)

pub record SameRun (a b : RunCallEffect Effect) : Type 0 where
  pub code : a.code ≡ b.code
  pub note : a.ran.effect.note ≡ b.ran.effect.note
  pub taken : a.ran.taken ≡ b.ran.taken
  pub paper : a.ran.effect.paper ≡ b.ran.effect.paper
  pub wire : length a.ran.effect.wire ≡ length b.ran.effect.wire
  pub waiting : waiting_count a.ran.effect.state ≡ waiting_count b.ran.effect.state

-- Demand 3 in runs. Assumed: two sessions in parts that agree but for marked characters, with both hypotheses of TwoSessions on their
-- one-byte calls. Promised, part by part: the same code, note, bytes taken, paper, number of wire bytes and number of waiting keys.
-- Pairs alike in width and as transmission characters are assumed for all of it: how many bytes a run takes depends on how much of the
-- wire buffer is left. Ruled out: a skipped character on paper; one that shows in how far a run gets.
abbrev pub RunsTwoSessions : Type 0
RunsTwoSessions =
    (ms : List Bool) (xs ys : List Part) → AgreeInParts ms xs ys → UnprintedInParts ms xs → UnprintedInParts ms ys → SameWidthInParts ms xs ys
    → Beside SameRun (answered_from fresh xs) (answered_from fresh ys)
