-- One key taken up: what it prints, what it sends, and how it was taken up.
use Rattle.std.specs.Prelude.{Bool, false, ◌||◌, cond, List, [], ◌++◌, ℕ, ◌+◌, length, ltb}
use Rattle.keys.specs.declared.Key.{Key}
use Rattle.keys.specs.Keys.{key_class, key_paper, key_wire, is_command, in_classes}
use Rattle.bodies.specs.declared.Action.{Action}

-- RCTE's orders: the action in force, the break classes and the transmission classes
pub record OrdersState : Type 0 where
  pub action : Action
  pub breaks : ℕ
  pub sends : ℕ

-- without classes or last action; a repeated action that was never given is 1, which prints all
abbrev pub no_orders : OrdersState
no_orders = record { action = record { skipbreak = false; skiptext = false }; breaks = 0; sends = 0 }

-- how a key was taken up: at once, without RCTE or as it ends; or under RCTE, with text skipping on or off, as a break
-- or not, as a transmission character or not
pub data How : Type 0 where
  at_once : How
  under : Bool → Bool → Bool → How

pub record TakeUp : Type 0 where
  pub key : Key
  pub how : How

-- its class is set, or it is a Command
unfoldable pub is_break : OrdersState → Key → Bool
is_break o k = is_command k || in_classes o.breaks (key_class k)

unfoldable pub is_send : OrdersState → Key → Bool
is_send o k = in_classes o.sends (key_class k)

-- a break is skipped by bit 1, other keys by bit 2
abbrev pub is_skipped : OrdersState → Key → Bool
is_skipped o k = cond (is_break o k) o.action.skipbreak o.action.skiptext

-- a taken key: its paper, the bytes that go out, those that stay gathered, and whether it breaks
pub record KeyEffect : Type 0 where
  pub paper : List ℕ
  pub wire : List ℕ
  pub gathered : List ℕ
  pub broke : Bool

abbrev pub gather_room : ℕ
gather_room = 512

-- gathered bytes that the key's would take past 512 are sent first
abbrev pub overflows : List ℕ → Key → Bool
overflows gathered k = ltb gather_room (length gathered + length (key_wire k))

abbrev pub sent_first : List ℕ → Key → List ℕ
sent_first gathered k = cond (overflows gathered k) gathered []

abbrev pub gathered_with : List ℕ → Key → List ℕ
gathered_with gathered k = cond (overflows gathered k) [] gathered ++ key_wire k

-- a break or a transmission character sends all gathered bytes
abbrev pub flushes : OrdersState → Key → Bool
flushes o k = is_break o k || is_send o k

unfoldable pub taken_up : OrdersState → List ℕ → Key → KeyEffect
taken_up o gathered k = record {
  paper = cond (is_skipped o k) [] (key_paper k);
  wire = sent_first gathered k ++ cond (flushes o k) (gathered_with gathered k) [];
  gathered = cond (flushes o k) [] (gathered_with gathered k);
  broke = is_break o k;
}

abbrev pub under_rcte : OrdersState → Key → TakeUp
under_rcte o k = record { key = k; how = under o.action.skiptext (is_break o k) (is_send o k) }

-- the paper of a key that goes out as it is typed: none if the other end echoes
abbrev pub sent_paper : Bool → Key → List ℕ
sent_paper echoed k = cond echoed [] (key_paper k)

abbrev pub sent_at_once : Key → TakeUp
sent_at_once k = record { key = k; how = at_once }
