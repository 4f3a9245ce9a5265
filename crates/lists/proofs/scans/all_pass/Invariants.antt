use Rattle.std.proofs.Common.{◌≡◌, true, ℕ, Bool}
use Rattle.lists.specs.Fronts.{Pass, Computes}
use Rattle.lists.proofs.scans.all_pass.Given as goal

abbrev pub invariant-loop-b : goal.invariant-loop-b
invariant-loop-b g l = (test : ℕ → Bool) → Computes (goal.F-post g l.passes) test → l.all ≡ true → Pass test l.block 0 l.b-index
