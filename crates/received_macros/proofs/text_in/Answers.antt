use native.Mathlib.Omega.{arith}
use Rattle.received_macros.proofs.View.{none_unmarked, none_over, text_within, some_text}
use Rattle.received_macros.proofs.text_in.Goals as goal
use Rattle.received_macros.proofs.text_in.Goals.{then-mark-eq0-via-then-mark-eq0, then-mark-eq0-via-else-mark-eq0+then-start_of-gt-ROOM}

pub returns-then-mark-eq0 : goal.returns-then-mark-eq0
returns-then-mark-eq0 c = elim c.then-mark-eq0.branch [
  | then-mark-eq0-via-then-mark-eq0 w ↦ none_unmarked _ _ _ w.if-mark-eq0.true
  | then-mark-eq0-via-else-mark-eq0+then-start_of-gt-ROOM w ↦ none_over _ _ _ c.told-marks (omega arith)
]

pub overflow_add-result : goal.overflow_add-result
overflow_add-result c =
    let a = c.args in
    omega (arith, text_within a.marks.now a.cells.now a.x c.if-mark-eq0.false c.told-marks (omega arith) (omega arith))

pub slice_bounds-result-end : goal.slice_bounds-result-end
slice_bounds-result-end c =
    let a = c.args in
    omega (arith, text_within a.marks.now a.cells.now a.x c.if-mark-eq0.false c.told-marks (omega arith) (omega arith))

pub returns : goal.returns
returns c =
    let a = c.args in
    some_text a.marks.now a.cells.now a.x c.if-mark-eq0.false c.told-marks (omega arith) (omega arith) _ _ c.start_of-start.ensures c.length_of.ensures
