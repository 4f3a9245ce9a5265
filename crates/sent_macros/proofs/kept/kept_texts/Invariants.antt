use Rattle.sent_macros.proofs.Keeping.{KeptTo}
use Rattle.sent_macros.proofs.kept.kept_texts.Given as goal

abbrev pub invariant-loop-x : goal.invariant-loop-x
invariant-loop-x l = KeptTo l.t.texts.marks l.t.statuses l.x l.mark-items
