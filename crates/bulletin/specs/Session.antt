-- A session: calls on a bulletin end from its fresh state, each on the state that the last one returned.
use Rattle.std.specs.Prelude.{List, [], ◌∷◌, ℕ}
use Rattle.keys.specs.declared.Key.{Key}
use Rattle.bulletin.specs.State.{BulletinState, fresh, CallEffect}
use Rattle.bulletin.specs.Calls.{network_call, ask_call, suggest_call, order_call, define_call, use_call, text_call, issue_call}

-- the lent buffers' sizes are a call's last arguments: of network the host's data and the wire, of the others the wire
pub data Call : Type 0 where
  network : (byte host wire : ℕ) → Call
  ask : (option way wire : ℕ) → Call
  suggest : (option value wire : ℕ) → Call
  order : (cmd breaks sends wire : ℕ) → Call
  define : (byte : ℕ) → List ℕ → (wire : ℕ) → Call
  use_macro : (byte wire : ℕ) → Call
  text : Key → (wire : ℕ) → Call
  issue : (number wire : ℕ) → Call

unfoldable pub called : BulletinState → Call → CallEffect
called s (network b h w) = network_call s b h w
called s (ask o y w) = ask_call s o y w
called s (suggest o v w) = suggest_call s o v w
called s (order c bc tc w) = order_call s c bc tc w
called s (define x t w) = define_call s x t w
called s (use_macro x w) = use_call s x w
called s (text k w) = text_call s k w
called s (issue n w) = issue_call s n w

unfoldable pub answers_from : BulletinState → List Call → List CallEffect
answers_from s [] = []
answers_from s (c ∷ cs) = let a = called s c in a ∷ answers_from a.effect.state cs

abbrev pub session : List Call → List CallEffect
session cs = answers_from fresh cs
