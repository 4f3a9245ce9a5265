-- The claim about two sessions, on sessions that meet its hypotheses.
use mathlib.Core.List.{List}
use Prim.Native.Nat.{ℕ}
use Rattle.keys.specs.declared.Key.{Key}
use Rattle.noninterference.specs.TwoSessions.{SameObserved}
use Rattle.noninterference.proofs.Sessions.{two_sessions}
use Rattle.example_claims.specs.Replaced.{typed, marks, Instance, SameWidthPair, Seen, Counted, Concluded}
use Rattle.example_claims.proofs.Replaced.{hypotheses_met}

outside : {before later : List ℕ} {k l : Key} → Instance before k l later → SameObserved (marks before later) (typed before k later) (typed before l later)
outside {before} {later} {k} {l} m =
    two_sessions (marks before later) (typed before k later) (typed before l later) m.agree m.unprinted m.other

both : {before later : List ℕ} {k l : Key} → Instance before k l later × SameWidthPair before k l later → Seen before k l later × Counted before k l later
both m = let o = outside m.0 in (o.seen, o.sent m.1)

pub concluded : Concluded
concluded = record {
  uneven = (outside hypotheses_met.uneven).seen;
  same_width = both hypotheses_met.same_width;
  sends = both hypotheses_met.sends;
  waits = both hypotheses_met.waits;
  stays = (outside hypotheses_met.stays).seen;
}
