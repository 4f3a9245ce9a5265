-- For which options output waits, and what ends such a wait.
use Rattle.std.specs.Prelude.{◌≡◌, true, false, ◌⊎◌}
use mathlib.Core.List.{List, [], Memᴰ}
use Rattle.codes.specs.declared.Disposition.{Disposition}
use Rattle.disposition.specs.ByOption.{wait_of}
use Rattle.disposition.specs.Handled.{handling_in}
use Rattle.disposition.specs.ItemData.{awaits}
use Rattle.bulletin.specs.State.{BulletinState, Effect, CallEffect}
use Rattle.bulletin.specs.Session.{Call, called, session}

-- an option's outcome is the sender's 254
abbrev pub OwnOutcomeWaits : BulletinState → Disposition → Type 0
OwnOutcomeWaits s d = awaits (handling_in s.sides s.values d) ≡ true

abbrev pub WaitsSo : BulletinState → Type 0
WaitsSo s = (d : Disposition) → wait_of s.waits d ≡ true → OwnOutcomeWaits s d

-- Assumed: any session. Promised: in the state that each call leaves, output waits for an option only while that option's
-- own outcome is the sender's 254. Ruled out: a wait that outlives its option or the value that began it; a Line that
-- waits for line feeds by NAOCRD's 254.
abbrev pub WaitsByOwnOutcome : Type 0
WaitsByOwnOutcome = (cs : List Call) (a : CallEffect) → Memᴰ a (session cs) → WaitsSo a.effect.state

-- what may end the wait for an option: data for the host, or another outcome of that option
abbrev pub EndsSo : Effect → Disposition → Type 0
EndsSo e d = (e.host ≡ [] → ⊥) ⊎ (awaits (handling_in e.state.sides e.state.values d) ≡ false)

-- Assumed: any state, reached or not, any call, and an option for which output waits before the call and not behind it.
-- Promised: the call gave the host data, or that option's own outcome is another now. Ruled out: a wait of one option
-- that the outcome of another ends; one that an order, a DEFINE or a refused call ends.
abbrev pub WaitEndsRightly : Type 0
WaitEndsRightly = (s : BulletinState) (c : Call) (d : Disposition) → let e = (called s c).effect in
    wait_of s.waits d ≡ true → wait_of e.state.waits d ≡ false → EndsSo e d
