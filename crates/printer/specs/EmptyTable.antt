-- The printer end's table is empty while BM is not in force.
use Rattle.std.specs.Prelude.{◌≡◌, false}
use mathlib.Core.List.{List, Memᴰ}
use Rattle.received_macros.specs.Texts.{no_macros}
use Rattle.printer.specs.State.{PrinterState, bm_in_force, CallEffect}
use Rattle.printer.specs.Session.{Call, session}

abbrev pub EmptyWhileOff : PrinterState → Type 0
EmptyWhileOff s = bm_in_force s ≡ false → s.table ≡ no_macros

-- Assumed: any session. Promised: each call leaves an empty table, or BM in force. Ruled out: a text that outlives
-- the BM for which it was defined; a DEFINE that is taken while BM is not in force.
abbrev pub TableEmptied : Type 0
TableEmptied = (cs : List Call) (a : CallEffect) → Memᴰ a (session cs) → EmptyWhileOff a.effect.state
