-- A session: calls on a printer end from its fresh state, each on the state that the last one returned.
use Rattle.std.specs.Prelude.{List, [], ◌∷◌, ℕ}
use Rattle.keys.specs.declared.Key.{Key}
use Rattle.printer.specs.State.{PrinterState, fresh, CallEffect}
use Rattle.printer.specs.Calls.{network_call, key_call, ask_call, suggest_call}

-- the lent buffers' sizes, paper and wire, are a call's last two arguments
pub data Call : Type 0 where
  network : (byte paper wire : ℕ) → Call
  key : Key → (paper wire : ℕ) → Call
  ask : (option way paper wire : ℕ) → Call
  suggest : (option value paper wire : ℕ) → Call

unfoldable pub called : PrinterState → Call → CallEffect
called s (network b p w) = network_call s b p w
called s (key k p w) = key_call s k p w
called s (ask o y p w) = ask_call s o y p w
called s (suggest o v p w) = suggest_call s o v p w

unfoldable pub answers_from : PrinterState → List Call → List CallEffect
answers_from s [] = []
answers_from s (c ∷ cs) = let a = called s c in a ∷ answers_from a.effect.state cs

-- the state that they leave
unfoldable pub reached : PrinterState → List Call → PrinterState
reached s [] = s
reached s (c ∷ cs) = reached (called s c).effect.state cs

abbrev pub session : List Call → List CallEffect
session cs = answers_from fresh cs
