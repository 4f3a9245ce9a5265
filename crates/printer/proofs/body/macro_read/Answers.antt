use Rattle.printer.proofs.Bodies.{readable_long, rest_all}
use Rattle.bodies.specs.declared.MacroCommand.{MacroCommand}
use Rattle.std.specs.Prelude.{Some}
use native.Mathlib.Omega.{arith}
use mathlib.Core.Path.{sym, ap, ◌∙◌}
use Rattle.printer.proofs.body.macro_read.Goals as goal

pub slice_bounds-define_read-count : goal.slice_bounds-define_read-count
slice_bounds-define_read-count c =
    let macro-body = c.macro_body in
    omega (arith, readable_long _ _ (sym macro-body.ensures ∙ c.in-Some.is ∙ ap (λ (x : MacroCommand). Some x) c.in-Define.is))

pub slice_bounds-define_read-start : goal.slice_bounds-define_read-start
slice_bounds-define_read-start c =
    let macro-body = c.macro_body in
    omega (arith, readable_long _ _ (sym macro-body.ensures ∙ c.in-Some.is ∙ ap (λ (x : MacroCommand). Some x) c.in-Define.is))

pub returns-in-Define : goal.returns-in-Define
returns-in-Define c =
    let macro-body = c.macro_body in
    rw (sym macro-body.ensures ∙ c.in-Some.is ∙ ap (λ (x : MacroCommand). Some x) c.in-Define.is) ((rw (rest_all c.args.body.now 3) at c.define_read.ensures).met _)

pub returns-in-Literal : goal.returns-in-Literal
returns-in-Literal c =
    let macro-body = c.macro_body in
    rw (sym macro-body.ensures ∙ c.in-Some.is ∙ ap (λ (x : MacroCommand). Some x) c.in-Literal.is) (c.data_read.ensures.met _)
