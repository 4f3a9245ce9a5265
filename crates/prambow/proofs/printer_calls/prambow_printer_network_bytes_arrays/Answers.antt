use Rattle.std.proofs.Common.{rules}
use mathlib.Core.Path.{sym, ◌∙◌}
use lib.ListN.{length}
use Rattle.reader.proofs.NetworkRun.{run_begun}
use Rattle.printer.specs.NetworkEnd.{lawful}
use Rattle.session_arrays.specs.PrinterArrays.{arrays_of_printer}
use Rattle.session_arrays.proofs.PrinterRuns.{view_arrays, refines_refused, refines_one}
use Rattle.prambow.proofs.printer_calls.prambow_printer_network_bytes_arrays.Goals as goal

pub returns-then-cannot_begin : goal.returns-then-cannot_begin
returns-then-cannot_begin c =
    let a = c.args in
    let arrays = arrays_of_printer a.small.now a.classes.now a.counts.now a.body.now a.marks.now a.cells.now a.waiting.now a.gathered.now in
    rw c.run_outcome.ensures (refines_refused arrays a.bytes.now a.paper.now a.wire.now (sym c.cannot_begin.ensures ∙ c.if-cannot_begin.true))

pub returns-then-is_plain : goal.returns-then-is_plain
returns-then-is_plain c =
    let a = c.args in
    let arrays = arrays_of_printer a.small.now a.classes.now a.counts.now a.body.now a.marks.now a.cells.now a.waiting.now a.gathered.now in
    rw c.run_outcome-then-is_plain.ensures (refines_one arrays a.bytes.now a.paper.now a.wire.now c.if-bytes-eq1.true (sym c.cannot_begin.ensures ∙ c.if-cannot_begin.false) (sym c.is_plain.ensures ∙ c.if-is_plain.true))

pub returns : goal.returns
returns c =
    let a = c.args in
    let arrays = arrays_of_printer a.small.now a.classes.now a.counts.now a.body.now a.marks.now a.cells.now a.waiting.now a.gathered.now in
    let begun = run_begun lawful (view_arrays arrays) a.bytes.now (length a.paper.now) (length a.wire.now) (sym c.cannot_begin.ensures ∙ c.if-cannot_begin.false) in
    let reads = c.read_bytes.ensures.reads in
    rw begun (search rules)
