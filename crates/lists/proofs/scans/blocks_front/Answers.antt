use Rattle.std.proofs.Common.{◌≡◌, ◌+◌, ◌-◌, length, drop, take, arith}
use Rattle.std.proofs.Math.Seq.{drop-drop}
use Rattle.lists.proofs.Fronts.{scan_further, pass_in_part}
use Rattle.lists.proofs.scans.blocks_front.Goals as goal

pub loop-block-preserved : goal.loop-block-preserved
loop-block-preserved g c =
    let bytes = c.args.bytes.now in
    let rest = c.loop-block.rest.now in
    let block = c.in-Some.block.now in
    let behind = c.in-Some.behind.now in
    let loop = c.loop-block.invariant in
    let is_behind : behind ≡ drop 32 rest = c.in-Some.ensures.cases.1 in
    let is_block : block ≡ take 32 rest = c.in-Some.ensures.cases.0 in
    let long : length behind + 32 ≡ length rest = c.in-Some.ensures.cases.2 in
    let le = loop.1 in
    let n = length bytes - length rest in
    let next : length bytes - length behind ≡ n + 32 = omega arith in (
      rw (next, ← drop-drop 32 n bytes, ← loop.0) is_behind,
      omega arith,
      λ test computes. rw next (scan_further (loop.2 test computes) (omega arith) (pass_in_part test bytes n 32 (rw (← loop.0, ← is_block) (c.all_pass.ensures test computes c.if-not-all_pass.false)))),
    )
