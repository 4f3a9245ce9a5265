use mathlib.Core.Path.{ap}
use Rattle.reader.specs.Refinement.{view_reader}
use Rattle.reader.proofs.IdleReader.{idle_clean}
use Rattle.bulletin.specs.Refinement.{view_bulletin}
use Rattle.bulletin.proofs.Bodies.{body_end}
use Rattle.bulletin.proofs.body.body_read.Goals as goal

pub handled-requires : goal.handled-requires
handled-requires c =
    rw (body_end (view_bulletin c.args.s) (view_reader c.idle.result) c.body_checked-subject.result (ap view_reader c.idle.ensures) c.body_checked-subject.ensures, ← c.kept_body.ensures) at c.requires

pub returns : goal.returns
returns c =
    rw (body_end (view_bulletin c.args.s) (view_reader c.idle.result) c.body_checked-subject.result (ap view_reader c.idle.ensures) c.body_checked-subject.ensures, ← c.kept_body.ensures)
    (record {
      met = λ host.
          let e = c.handled.ensures.met host in
          record { note = e.note; given = e.given; sent = e.sent; view = e.view; clean = λ k. e.clean (record { reader = rw c.idle.ensures idle_clean; table = k.table }) };
    })
