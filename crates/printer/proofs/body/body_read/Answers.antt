use mathlib.Core.Path.{ap}
use Rattle.reader.specs.Refinement.{view_reader}
use Rattle.printer.specs.Refinement.{view_printer}
use Rattle.printer.proofs.Bodies.{body_end}
use Rattle.reader.proofs.IdleReader.{idle_clean}
use Rattle.printer.proofs.body.body_read.Goals as goal

pub handled-requires : goal.handled-requires
handled-requires c =
    let idle = c.idle in
    rw (body_end (view_printer c.args.s) (view_reader idle.result) c.body_checked-subject.result (ap view_reader idle.ensures) c.body_checked-subject.ensures, ← c.body_len.ensures) at c.requires

pub returns : goal.returns
returns c =
    let idle = c.idle in
    let e = c.handled.ensures in
    rw (body_end (view_printer c.args.s) (view_reader idle.result) c.body_checked-subject.result (ap view_reader idle.ensures) c.body_checked-subject.ensures, ← c.body_len.ensures)
    (record { note = e.note; wrote = e.wrote; view = e.view; clean = λ k. e.clean (record { reader = rw idle.ensures idle_clean; table = k.table; rcte = k.rcte }) })
