-- Calls made one after the other, at either end: S are the states of the code, M the calls as they were made.
use Rattle.std.specs.Prelude.{List, [], ◌∷◌}

-- from state s on, each call is handed the state that the last one returned, refused or not; Meets says what is known of a call
-- made in a state, and after is the state that it returned
pub data Chain {S M : Type 0} (Meets : S → M → Type 0) (after : M → S) : S → List M → Type 0 where
  none : {s : S} → Chain Meets after s []
  more : {s : S} {m : M} {ms : List M} → Meets s m → Chain Meets after (after m) ms → Chain Meets after s (m ∷ ms)

-- two lists of one length, related one by one
pub data Beside {X Y : Type 0} (R : X → Y → Type 0) : List X → List Y → Type 0 where
  none : Beside R [] []
  more : {x : X} {y : Y} {xs : List X} {ys : List Y} → R x y → Beside R xs ys → Beside R (x ∷ xs) (y ∷ ys)

-- a chain of other calls from state s on, related one by one to the calls of a list
pub record BesideChain {S M N : Type 0} (Meets : S → N → Type 0) (after : N → S) (R : M → N → Type 0) (s : S) (ms : List M) : Type 0 where
  pub calls : List N
  pub chain : Chain Meets after s calls
  pub related : Beside R ms calls

-- the state behind the calls
unfoldable pub last_of : {S M : Type 0} → (M → S) → S → List M → S
last_of after s [] = s
last_of after s (m ∷ ms) = last_of after (after m) ms
