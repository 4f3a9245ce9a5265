-- Noninterference, the secrecy of typed characters: two sessions whose calls agree except for typed characters, each of them never
-- taken up or taken up unprinted, show the same.
use Rattle.std.specs.Prelude.{◌≡◌, Bool, true, false, List, [], ◌∷◌, ℕ, length, drop}
use Rattle.lists.specs.Buffers.{Lent, WroteAtStart}
use Rattle.keys.specs.declared.Key.{Key}
use Rattle.keys.specs.declared.Key.TheVariants.{Char, Line}
use Rattle.keys.specs.Keys.{key_wire}
use Rattle.rcte.specs.Taking.{How, TakeUp}
use Rattle.rcte.specs.Taking.How.{at_once, under}
use Rattle.printer.specs.State.{CallEffect}
use Rattle.printer.specs.Calls.{waiting_count}
use Rattle.printer.specs.Session.{Call, session}
use Rattle.printer.specs.Session.Call.{key}
use Rattle.printer.specs.KeyOrder.{of_accepted, take_ups}

-- the typed characters
pub data Typed : Key → Type 0 where
  char : (b : ℕ) → Typed (Char b)
  line : Typed Line

-- The calls agree one by one, sizes of the lent buffers included, except that at some key calls a typed character is replaced
-- by another. The marks say of each call whether its key was replaced.
pub data Agree : List Bool → List Call → List Call → Type 0 where
  none : Agree [] [] []
  same : {c : Call} {ms : List Bool} {cs ds : List Call} → Agree ms cs ds → Agree (false ∷ ms) (c ∷ cs) (c ∷ ds)
  replaced : {k l : Key} {p w : ℕ} {ms : List Bool} {cs ds : List Call} → Typed k → Typed l → Agree ms cs ds
      → Agree (true ∷ ms) (key k p w ∷ cs) (key l p w ∷ ds)

-- under RCTE with text skipping on, breaking nothing
pub data Unprinted : How → Type 0 where
  unprinted : {is_send : Bool} → Unprinted (under true false is_send)

abbrev pub UnprintedIf : Bool → TakeUp → Type 0
UnprintedIf true t = Unprinted t.how
UnprintedIf false t = Unit {0}

-- each take-up of a key that is marked as replaced is quiet; the n-th take-up is of the n-th accepted key (printer/KeyOrder.InOrder),
-- and a key that is never taken up meets no condition
abbrev pub AllUnprinted : List Bool → List TakeUp → Type 0
AllUnprinted [] ts = Unit {0}
AllUnprinted (m ∷ ms) [] = Unit {0}
AllUnprinted (m ∷ ms) (t ∷ ts) = UnprintedIf m t × AllUnprinted ms ts

-- the hypothesis about one session
abbrev pub UnprintedIn : List Bool → List Call → Type 0
UnprintedIn ms cs = AllUnprinted (of_accepted ms cs (session cs)) (take_ups (session cs))

-- as it was taken up under RCTE, the TC pair had its class
abbrev pub is_transmission : How → Bool
is_transmission at_once = false
is_transmission (under skiptext is_break is_send) = is_send

-- of the two, both or neither are transmission characters, and both have as many bytes on the wire
pub record SameWidth (t u : TakeUp) : Type 0 where
  pub send : is_transmission t.how ≡ is_transmission u.how
  pub long : length (key_wire t.key) ≡ length (key_wire u.key)

abbrev pub SameWidthIf : Bool → TakeUp → TakeUp → Type 0
SameWidthIf true t u = SameWidth t u
SameWidthIf false t u = Unit {0}

-- each pair of replaced characters that are taken up is even; the n-th take-ups of the two sessions are a pair
abbrev pub AllSameWidth : List Bool → List TakeUp → List TakeUp → Type 0
AllSameWidth [] ts us = Unit {0}
AllSameWidth (m ∷ ms) [] us = Unit {0}
AllSameWidth (m ∷ ms) (t ∷ ts) [] = Unit {0}
AllSameWidth (m ∷ ms) (t ∷ ts) (u ∷ us) = SameWidthIf m t u × AllSameWidth ms ts us

-- the second hypothesis, about both
abbrev pub SameWidthIn : List Bool → List Call → List Call → Type 0
SameWidthIn ms cs ds = AllSameWidth (of_accepted ms cs (session cs)) (take_ups (session cs)) (take_ups (session ds))

-- answers related one by one
pub data Each (R : CallEffect → CallEffect → Type 0) : List CallEffect → List CallEffect → Type 0 where
  none : Each R [] []
  more : {a b : CallEffect} {xs ys : List CallEffect} → R a b → Each R xs ys → Each R (a ∷ xs) (b ∷ ys)

pub record SameSeen (a b : CallEffect) : Type 0 where
  pub paper : a.effect.paper ≡ b.effect.paper
  pub code : a.code ≡ b.code
  pub note : a.effect.note ≡ b.effect.note
  pub waiting : waiting_count a.effect.state ≡ waiting_count b.effect.state

-- equal lent buffers, written with xs in one session and ys in the other, have equal tails behind what was written
abbrev pub SameTails : List ℕ → List ℕ → Type 0
SameTails xs ys = (one other : Lent) (n k : ℕ) → one.before ≡ other.before → WroteAtStart xs one n → WroteAtStart ys other k → drop n one.after ≡ drop k other.after

pub record SameSent (a b : CallEffect) : Type 0 where
  pub count : length a.effect.wire ≡ length b.effect.wire
  pub paper : SameTails a.effect.paper b.effect.paper
  pub wire : SameTails a.effect.wire b.effect.wire

pub record SameObserved (ms : List Bool) (cs ds : List Call) : Type 0 where
  pub seen : Each SameSeen (session cs) (session ds)
  pub sent : SameWidthIn ms cs ds → Each SameSent (session cs) (session ds)

-- Demand 3: one claim about two lists of calls, each from a fresh end. Assumed: they agree but for marked typed
-- characters, and in each session a marked one that is taken up is skipped under RCTE and breaks nothing. Promised:
-- the same paper, code, note and number of waiting keys, call by call; where the pairs are alike in width and as
-- transmission characters, equally many bytes and equal tails. Ruled out: a skipped character on paper; one that
-- shows in a later code or count.
abbrev pub TwoSessions : Type 0
TwoSessions = (ms : List Bool) (cs ds : List Call) → Agree ms cs ds → UnprintedIn ms cs → UnprintedIn ms ds → SameObserved ms cs ds
