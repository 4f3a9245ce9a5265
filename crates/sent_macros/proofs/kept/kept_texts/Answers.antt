use mathlib.Core.Path.{◌≡◌}
use native.Mathlib.Omega.{arith}
use borrow.Author.Rules.{rules}
use lib.ListN.{length}
use Rattle.sent_macros.proofs.Keeping.{none_kept, kept_more, all_kept}
use Rattle.sent_macros.proofs.kept.kept_texts.Goals as goal

pub loop-x-init : goal.loop-x-init
loop-x-init c = none_kept c.args.t.texts.marks c.args.t.statuses

pub loop-x-preserved : goal.loop-x-preserved
loop-x-preserved c =
    let t = c.args.t in
    let long : length t.texts.marks ≡ 256 = search rules in
    rw c.kept_mark.ensures (kept_more t.texts.marks t.statuses c.loop-x.x c.loop-x.mark-items (omega arith) c.loop-x.invariant)

pub returns : goal.returns
returns c =
    let t = c.args.t in
    let long : length t.texts.marks ≡ 256 = search rules in
    let all : c.loop-x.x ≡ length t.texts.marks = omega arith in
    rw (all_kept t.texts.marks t.statuses c.loop-x.mark-items (rw all at c.loop-x.invariant))
