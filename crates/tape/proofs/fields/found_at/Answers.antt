use mathlib.Core.Path.{sym, ◌∙◌}
use native.Mathlib.Omega.{arith}
use lib.ListN.{length-take, length-drop}
use Rattle.tape.proofs.Heads.{reads, only_bad, cut, unknown, odd, even}
use Rattle.tape.proofs.fields.found_at.Goals as goal

pub returns-then-body-size : goal.returns-then-body-size
returns-then-body-size c =
    let r = reads c.args.tape.now c.args.c.at _ (omega arith) c.in-len3-up.len_at_least c.from_be_bytes-size.ensures in
    let short = simp (length-take, length-drop) at c.if-body-size.true in
    sym (cut _ _ r (omega arith))

pub returns-in_err-tag : goal.returns-in_err-tag
returns-in_err-tag c =
    let r = reads c.args.tape.now c.args.c.at _ (omega arith) c.in-len3-up.len_at_least c.from_be_bytes-size.ensures in
    let whole = simp (length-take, length-drop) at c.if-body-size.false in
    only_bad _ c.from_residual.ensures.0 ∙ sym (unknown _ _ r (omega arith) _ (sym c.try_from.ensures ∙ c.in_err-tag.was))

pub returns-then-not-fits : goal.returns-then-not-fits
returns-then-not-fits c =
    let r = reads c.args.tape.now c.args.c.at _ (omega arith) c.in-len3-up.len_at_least c.from_be_bytes-size.ensures in
    let whole = simp (length-take, length-drop) at c.if-body-size.false in
    sym (odd _ _ r (omega arith) _ (sym c.try_from.ensures ∙ c.in_ok-tag.was) (sym c.fits.ensures ∙ c.if-not-fits.true))

pub returns : goal.returns
returns c =
    let r = reads c.args.tape.now c.args.c.at _ (omega arith) c.in-len3-up.len_at_least c.from_be_bytes-size.ensures in
    let whole = simp (length-take, length-drop) at c.if-body-size.false in
    sym (even _ _ r (omega arith) _ (sym c.try_from.ensures ∙ c.in_ok-tag.was) (sym c.fits.ensures ∙ c.if-not-fits.false))
