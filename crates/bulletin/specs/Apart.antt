-- ECHO and RCTE stay apart at the bulletin end.
use mathlib.Core.List.{List, Memᴰ}
use Rattle.negotiation.specs.Apart.{Apart}
use Rattle.bulletin.specs.State.{CallEffect}
use Rattle.bulletin.specs.Session.{Call, session}

-- Assumed: any session. Promised: ECHO or RCTE is at NO in the state that each call leaves. Ruled out: an end that
-- agrees to RCTE beside ECHO; one that asks for ECHO beside RCTE.
abbrev pub StayApart : Type 0
StayApart = (cs : List Call) (a : CallEffect) → Memᴰ a (session cs) → Apart a.effect.state.sides
