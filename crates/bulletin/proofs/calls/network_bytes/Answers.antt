use mathlib.Core.Path.{sym, ◌∙◌}
use lib.ListN.{length}
use Rattle.reader.proofs.NetworkRun.{run_begun}
use Rattle.bulletin.specs.Refinement.{view_bulletin}
use Rattle.bulletin.specs.NetworkEnd.{lawful}
use Rattle.bulletin.proofs.Runs.{refines_refused}
use Rattle.bulletin.proofs.calls.network_bytes.Goals as goal

pub returns-then-cannot_begin : goal.returns-then-cannot_begin
returns-then-cannot_begin c =
    let a = c.args in
    rw c.refused.ensures (refines_refused a.s a.bytes.now a.host.now a.wire.now (sym c.cannot_begin.ensures ∙ c.if-cannot_begin.true))

pub returns : goal.returns
returns c =
    let a = c.args in
    rw (run_begun lawful (view_bulletin a.s) a.bytes.now (length a.host.now) (length a.wire.now) (sym c.cannot_begin.ensures ∙ c.if-cannot_begin.false)) c.read_bytes.ensures
