-- In every session keys are taken up in the order in which they were accepted, and wait only while RCTE holds.
use Rattle.std.specs.Prelude.{◌≡◌, Bool, true, false, cond}
use mathlib.Core.List.{List, [], ◌∷◌, ◌++◌, map, flat_map}
use Rattle.codes.specs.Answers.{is_done}
use Rattle.keys.specs.declared.Key.{Key}
use Rattle.rcte.specs.Taking.{TakeUp}
use Rattle.printer.specs.State.{PrinterState, fresh, rcte_in_force, CallEffect}
use Rattle.printer.specs.Session.{Call, reached, session}
use Rattle.printer.specs.Session.Call.{network, key, ask, suggest}

-- a key is accepted by a key call with code 0
abbrev pub accepts : Call → CallEffect → Bool
accepts (network b p w) a = false
accepts (key k p w) a = is_done a.code
accepts (ask o y p w) a = false
accepts (suggest o v p w) a = false

-- of a list with an element for each call, those of the calls that accepted a key
unfoldable pub of_accepted : {X : Type 0} → List X → List Call → List CallEffect → List X
of_accepted [] cs answers = []
of_accepted (x ∷ xs) [] answers = []
of_accepted (x ∷ xs) (c ∷ cs) [] = []
of_accepted (x ∷ xs) (c ∷ cs) (a ∷ answers) = cond (accepts c a) (x ∷ []) [] ++ of_accepted xs cs answers

abbrev pub keys_of : Call → List Key
keys_of (network b p w) = []
keys_of (key k p w) = k ∷ []
keys_of (ask o y p w) = []
keys_of (suggest o v p w) = []

-- the keys that a session accepted
abbrev pub accepted_keys : List Call → List Key
accepted_keys cs = flat_map keys_of (of_accepted cs cs (session cs))

-- the take-ups of a session, in order
abbrev pub take_ups : List CallEffect → List TakeUp
take_ups answers = flat_map (λ a. a.effect.taken) answers

-- Assumed: any session. Promised: the keys taken up, and after them those that still wait, are the accepted keys in
-- their order; so the n-th take-up is of the n-th accepted key. Ruled out: a key that is dropped or taken up twice;
-- one that overtakes another.
abbrev pub InOrder : Type 0
InOrder = (cs : List Call) → map (λ t. t.key) (take_ups (session cs)) ++ (reached fresh cs).rcte.waiting ≡ accepted_keys cs

-- keys wait only while RCTE is in force, and only while it holds
pub record Waiting (s : PrinterState) : Type 0 where
  pub off : rcte_in_force s ≡ false → s.rcte.waiting ≡ []
  pub held : (k : Key) (ks : List Key) → s.rcte.waiting ≡ k ∷ ks → s.rcte.held ≡ true

-- Assumed: any session. Promised: keys wait only while RCTE is in force, and only while it holds. Ruled out: keys
-- that wait where nothing would take them up; a command that lifts the hold and leaves keys waiting.
abbrev pub WaitingHeld : Type 0
WaitingHeld = (cs : List Call) → Waiting (reached fresh cs)
