use mathlib.Core.Path.{◌≡◌, sym, ◌∙◌}
use native.Mathlib.Omega.{arith}
use lib.ListN.{length}
use Rattle.reader.specs.Refinement.{view_reader}
use Rattle.mending.proofs.FirstFound.{found_here, found_further, found_end}
use Rattle.mending.proofs.pieces.first_found.Goals as goal

pub returns-then-is_between : goal.returns-then-is_between
returns-then-is_between c =
    let loop = c.loop-i in
    let ends = sym c.is_between.ensures ∙ c.if-is_between.true in
    let found = found_here c.args.rest.now loop.r loop.i c.read_byte-x.result (omega arith) c.read_byte-x.ensures ends in
    rw c.item_judged.ensures (sym found ∙ loop.invariant)

pub loop-i-preserved : goal.loop-i-preserved
loop-i-preserved c =
    let loop = c.loop-i in
    let inside = sym c.is_between.ensures ∙ c.if-is_between.false in
    let found = found_further c.args.rest.now loop.r loop.i c.read_byte-x.result (omega arith) c.read_byte-x.ensures inside in
    sym found ∙ loop.invariant

pub returns : goal.returns
returns c =
    let loop = c.loop-i in
    let all : loop.i ≡ length c.args.rest.now = omega arith in
    rw all at (sym (found_end (view_reader loop.r) loop.i c.args.rest.now (omega arith)) ∙ loop.invariant)
