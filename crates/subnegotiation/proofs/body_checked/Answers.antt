use mathlib.Core.Path.{◌≡◌}
use Prim.Native.Nat.{◌≤◌}
use native.Mathlib.Omega.{arith}
use lib.ListN.{length, take, length-take}
use lib.Seq.{get_or-take}
use Rattle.reader.proofs.Bodies.{by_first}
use Rattle.reader.specs.Reading.{by_option}
use Rattle.subnegotiation.specs.Checks.{checked}
use borrow.Author.Rules.{rules}
use Rattle.subnegotiation.proofs.body_checked.Goals.{then-kept-via-then-kept, then-kept-via-else-kept+then-body_len-eq0}
use Rattle.subnegotiation.proofs.body_checked.Goals as goal

pub returns-then-kept : goal.returns-then-kept
unfolding checked by_option
returns-then-kept c =
    elim c.then-kept.branch [
      | then-kept-via-then-kept w ↦ rw w.if-kept.true
      | then-kept-via-else-kept+then-body_len-eq0 w ↦ rw (w.if-kept.false, ← w.body_len.ensures, w.if-body_len-eq0.true)
    ]

pub returns : goal.returns
unfolding checked
returns c =
    let kept = c.args.kept in
    let n = c.body_len.result in
    let l : length kept.body ≡ 260 = search rules in
    let used : n ≤ 260 = omega (arith, c.body_len.ensures) in
    let pos : 1 ≤ length (take n kept.body) = simp length-take (omega (arith, c.if-body_len-eq0.false)) in
    rw (c.if-kept.false, ← c.body_len.ensures, by_first (take n kept.body) _ _ pos, get_or-take n kept.body 0 0 (omega (arith, c.if-body_len-eq0.false)))
    c.option_checked.ensures
