-- The bulletin end's table is empty while BM is not in force.
use Rattle.std.specs.Prelude.{◌≡◌, false}
use mathlib.Core.List.{List, Memᴰ}
use Rattle.sent_macros.specs.Sending.{no_definitions}
use Rattle.bulletin.specs.State.{BulletinState, bm_in_force, CallEffect}
use Rattle.bulletin.specs.Session.{Call, session}

abbrev pub EmptyWhileOff : BulletinState → Type 0
EmptyWhileOff s = bm_in_force s ≡ false → s.table ≡ no_definitions

-- Assumed: any session. Promised: each call leaves an empty table, or BM in force. Ruled out: a text that outlives
-- the BM for which it was accepted; an ACCEPT that is believed while BM is not in force.
abbrev pub TableEmptied : Type 0
TableEmptied = (cs : List Call) (a : CallEffect) → Memᴰ a (session cs) → EmptyWhileOff a.effect.state
