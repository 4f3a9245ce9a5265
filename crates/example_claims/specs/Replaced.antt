-- Pairs of sessions that the claim about two sessions speaks of: a typed character of one is replaced by another. Both are taken
-- up unprinted under an order that skips text, at once or after waiting for it, or neither is taken up.
use Rattle.std.specs.Prelude.{◌≡◌, Bool, true, false, List, [], ◌∷◌, ◌++◌, map, ℕ}
use Rattle.keys.specs.declared.Key.{Key}
use Rattle.keys.specs.declared.Key.TheVariants.{Char, Line}
use Rattle.printer.specs.Session as PS
use Rattle.printer.specs.KeyOrder.{take_ups}
use Rattle.noninterference.specs.TwoSessions.{Agree, UnprintedIn, SameWidthIn, Each, SameSeen, SameSent}
use Rattle.example_claims.specs.Bytes.{reads, wire_behind, waiting_behind}

-- WILL RCTE; an order to skip text; one besides with the digits, class 3, as transmission characters
abbrev pub starts : List ℕ
starts = 0xff ∷ 0xfb ∷ 7 ∷ []

abbrev pub skips : List ℕ
skips = 0xff ∷ 0xfa ∷ 7 ∷ 5 ∷ 0xff ∷ 0xf0 ∷ []

abbrev pub skips_and_sends : List ℕ
skips_and_sends = 0xff ∷ 0xfa ∷ 7 ∷ 21 ∷ 0 ∷ 4 ∷ 0xff ∷ 0xf0 ∷ []

-- a key between network bytes, and the marks of the calls if it is replaced
abbrev pub typed : List ℕ → Key → List ℕ → List PS.Call
typed before k later = reads before ++ PS.key k 1024 4096 ∷ reads later

abbrev pub marks : List ℕ → List ℕ → List Bool
marks before later = map (λ b. false) before ++ true ∷ map (λ b. false) later

-- the claim's hypotheses, of k in one session where l stands in the other
pub record Instance (before : List ℕ) (k l : Key) (later : List ℕ) : Type 0 where
  pub agree : Agree (marks before later) (typed before k later) (typed before l later)
  pub unprinted : UnprintedIn (marks before later) (typed before k later)
  pub other : UnprintedIn (marks before later) (typed before l later)

abbrev pub SameWidthPair : List ℕ → Key → Key → List ℕ → Type 0
SameWidthPair before k l later = SameWidthIn (marks before later) (typed before k later) (typed before l later)

-- Assumed: nothing. Promised: five pairs of sessions meet the hypotheses of TwoSessions. Under the order, `1` for a
-- Line and for `2`; `1` for `2` as a transmission character, which is sent; `1` for `2` that waits for the order,
-- which takes it up; `1` for a Line that waits to the end and is never taken up. Ruled out: hypotheses that no
-- session meets; rules by which every key is a break.
pub record Replaced : Type 0 where
  pub uneven : Instance (starts ++ skips) (Char 49) Line []
  pub same_width : Instance (starts ++ skips) (Char 49) (Char 50) [] × SameWidthPair (starts ++ skips) (Char 49) (Char 50) []
  pub sends : Instance (starts ++ skips_and_sends) (Char 49) (Char 50) [] × SameWidthPair (starts ++ skips_and_sends) (Char 49) (Char 50) []
  pub sent : wire_behind (reads (starts ++ skips_and_sends)) (typed [] (Char 49) []) ≡ 49 ∷ []
  pub waits : Instance starts (Char 49) (Char 50) skips × SameWidthPair starts (Char 49) (Char 50) skips
  pub waiting : waiting_behind (reads starts) (typed [] (Char 49) skips) ≡ 1 ∷ 1 ∷ 1 ∷ 1 ∷ 1 ∷ 1 ∷ 0 ∷ []
  pub stays : Instance starts (Char 49) Line []
  pub never : take_ups (PS.session (typed starts (Char 49) [])) ≡ []

-- the claim's conclusions
abbrev pub Seen : List ℕ → Key → Key → List ℕ → Type 0
Seen before k l later = Each SameSeen (PS.session (typed before k later)) (PS.session (typed before l later))

abbrev pub Counted : List ℕ → Key → Key → List ℕ → Type 0
Counted before k l later = Each SameSent (PS.session (typed before k later)) (PS.session (typed before l later))

-- Assumed: nothing. Promised: what TwoSessions concludes of these five: of those alike in width, equal counts too.
-- Ruled out: a skipped key that is seen; one that makes a call send more bytes than its counterpart.
pub record Concluded : Type 0 where
  pub uneven : Seen (starts ++ skips) (Char 49) Line []
  pub same_width : Seen (starts ++ skips) (Char 49) (Char 50) [] × Counted (starts ++ skips) (Char 49) (Char 50) []
  pub sends : Seen (starts ++ skips_and_sends) (Char 49) (Char 50) [] × Counted (starts ++ skips_and_sends) (Char 49) (Char 50) []
  pub waits : Seen starts (Char 49) (Char 50) skips × Counted starts (Char 49) (Char 50) skips
  pub stays : Seen starts (Char 49) Line []
