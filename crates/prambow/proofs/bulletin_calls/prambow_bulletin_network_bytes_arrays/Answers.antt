use Rattle.std.proofs.Common.{rules}
use mathlib.Core.Path.{sym, ◌∙◌}
use lib.ListN.{length}
use Rattle.reader.proofs.NetworkRun.{run_begun}
use Rattle.bulletin.specs.NetworkEnd.{lawful}
use Rattle.session_arrays.specs.BulletinArrays.{arrays_of_bulletin}
use Rattle.session_arrays.proofs.BulletinRuns.{view_arrays, refines_refused, refines_one}
use Rattle.prambow.proofs.bulletin_calls.prambow_bulletin_network_bytes_arrays.Goals as goal

pub returns-then-cannot_begin : goal.returns-then-cannot_begin
returns-then-cannot_begin c =
    let a = c.args in
    let arrays = arrays_of_bulletin a.small.now a.counts.now a.body.now a.statuses.now a.marks.now a.cells.now a.issue.now a.kept.now in
    rw c.run_outcome.ensures (refines_refused arrays a.bytes.now a.host.now a.wire.now (sym c.cannot_begin.ensures ∙ c.if-cannot_begin.true))

pub returns-then-is_plain : goal.returns-then-is_plain
returns-then-is_plain c =
    let a = c.args in
    let arrays = arrays_of_bulletin a.small.now a.counts.now a.body.now a.statuses.now a.marks.now a.cells.now a.issue.now a.kept.now in
    rw c.run_outcome-then-is_plain.ensures (refines_one arrays a.bytes.now a.host.now a.wire.now c.if-bytes-eq1.true (sym c.cannot_begin.ensures ∙ c.if-cannot_begin.false) (sym c.is_plain.ensures ∙ c.if-is_plain.true))

pub returns : goal.returns
returns c =
    let a = c.args in
    let arrays = arrays_of_bulletin a.small.now a.counts.now a.body.now a.statuses.now a.marks.now a.cells.now a.issue.now a.kept.now in
    let begun = run_begun lawful (view_arrays arrays) a.bytes.now (length a.host.now) (length a.wire.now) (sym c.cannot_begin.ensures ∙ c.if-cannot_begin.false) in
    let reads = c.read_bytes.ensures.reads in
    rw begun (search rules)
