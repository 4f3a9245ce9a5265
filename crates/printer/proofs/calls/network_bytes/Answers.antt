use mathlib.Core.Path.{sym, ◌∙◌}
use lib.ListN.{length}
use Rattle.reader.proofs.NetworkRun.{run_begun}
use Rattle.printer.specs.Refinement.{view_printer}
use Rattle.printer.specs.NetworkEnd.{lawful}
use Rattle.printer.proofs.Runs.{refines_refused}
use Rattle.printer.proofs.calls.network_bytes.Goals as goal

pub returns-then-cannot_begin : goal.returns-then-cannot_begin
returns-then-cannot_begin c =
    let a = c.args in
    rw c.refused.ensures (refines_refused a.s a.bytes.now a.paper.now a.wire.now (sym c.cannot_begin.ensures ∙ c.if-cannot_begin.true))

pub returns : goal.returns
returns c =
    let a = c.args in
    rw (run_begun lawful (view_printer a.s) a.bytes.now (length a.paper.now) (length a.wire.now) (sym c.cannot_begin.ensures ∙ c.if-cannot_begin.false)) c.read_bytes.ensures
