-- Two sessions whose buffers are lent as a program over a tape lends them (printer/UnusedTails).
use Rattle.std.specs.Prelude.{Bool, List}
use Rattle.printer.specs.Session.{Call, session}
use Rattle.printer.specs.UnusedTails.{Tails, Enough, lent_session}
use Rattle.noninterference.specs.TwoSessions.{Agree, UnprintedIn, SameWidthIn, Each, SameSeen, SameSent}

pub record LentAlike (ms : List Bool) (cs ds : List Call) : Type 0 where
  pub seen : Each SameSeen (session cs) (session ds)
  pub sizes : SameWidthIn ms cs ds → Agree ms cs ds
  pub sent : SameWidthIn ms cs ds → Each SameSent (session cs) (session ds)

-- Demand 3 where each call gets the unused tails of the buffers of the last one. Assumed: as of TwoSessions, the
-- sessions being those of the calls as they are made; fresh buffers have at least the sizes of code 1. Promised:
-- code, note, paper and number of waiting keys are the same; where the pairs are alike in width and as transmission
-- characters, equal tails at every call and equally many bytes. Ruled out: a skipped character whose length makes a
-- later call meet code 1; tails that tell its length though the pairs are alike.
abbrev pub TwoLent : Type 0
TwoLent =
    (whole : Tails) → Enough whole → (ms : List Bool) (cs ds : List Call) → Agree ms cs ds
    → UnprintedIn ms (lent_session whole cs) → UnprintedIn ms (lent_session whole ds) → LentAlike ms (lent_session whole cs) (lent_session whole ds)
