use mathlib.Core.Path.{◌≡◌, sym, ◌∙◌}
use mathlib.Core.Bool.{true}
use native.Mathlib.Omega.{arith}
use lib.ListN.{length}
use Rattle.std.proofs.lemmas.Grind.{common_steps}
use Rattle.codes.specs.Answers.{is_clear}
use Rattle.reader.proofs.RunLoop.{begun, turn, over_empty, over_full, same_clear}
use Rattle.reader.proofs.network_runs.read_bytes.Goals as goal

pub loop-ran-init : goal.loop-ran-init
loop-ran-init g c =
    let end = g.E.ReadsNetwork in
    begun end.rule end.laws end.view end.Kept c.args.end.now c.args.bytes.now c.args.first.now c.args.wire.now (g.met.E.ReadsNetwork.still c.args.end.now)

pub loop-ran-preserved : goal.loop-ran-preserved
loop-ran-preserved g c =
    let clear : is_clear c.loop-ran.ran.note ≡ true = sym (same_clear c.loop-ran.ran.note) ∙ sym c.eq.ensures ∙ c.if-eq.true in
    turn c.loop-ran.invariant clear c.read_front-front.ensures c.read_front-front.auto.first c.read_front-front.auto.wire g.met.E.ReadsNetwork.onward

pub returns-after-loop-ran : goal.returns-after-loop-ran
returns-after-loop-ran g c =
    let none : length c.loop-ran.rest.now ≡ 0 = grind (arith, common_steps, c.is_empty.ensures, c.loop-ran-test.false) in
    over_empty c.loop-ran.invariant none

pub returns-then-no_room : goal.returns-then-no_room
returns-then-no_room g c = over_full c.loop-ran.invariant (sym c.no_room.ensures ∙ c.if-no_room.true)
