use Rattle.std.proofs.Common.{◌≡◌, ℕ, Bool, ◌-◌, ◌≤◌, length, drop}
use Rattle.lists.specs.Fronts.{Scanned, Computes}
use Rattle.lists.proofs.scans.blocks_front.Given as goal

abbrev pub invariant-loop-block : goal.invariant-loop-block
invariant-loop-block g l =
    (l.rest ≡ drop (length l.bytes - length l.rest) l.bytes)
    × (length l.rest ≤ length l.bytes)
    × ((test : ℕ → Bool) → Computes (goal.F-post g l.passes) test → Scanned test l.bytes (length l.bytes - length l.rest))

abbrev pub decreases-loop-block : goal.decreases-loop-block
decreases-loop-block g l = length l.rest
