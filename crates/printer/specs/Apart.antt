-- ECHO and RCTE stay apart at the printer end.
use mathlib.Core.List.{List, Memᴰ}
use Rattle.negotiation.specs.Apart.{Apart}
use Rattle.printer.specs.State.{CallEffect}
use Rattle.printer.specs.Session.{Call, session}

-- Assumed: any session of a printer end. Promised: ECHO or RCTE is at NO in the state that it leaves, and so at every
-- call, as each first part of a list is a list. Ruled out: an end that agrees to RCTE beside ECHO; one that asks for
-- ECHO beside RCTE.
abbrev pub StayApart : Type 0
StayApart = (cs : List Call) (a : CallEffect) → Memᴰ a (session cs) → Apart a.effect.state.sides
