use Rattle.reader.proofs.RunLoop.{took_stretch, took_byte}
use Rattle.reader.proofs.network_runs.read_front.Goals as goal

pub returns-then-n-gt0 : goal.returns-then-n-gt0
returns-then-n-gt0 g c =
    let end = g.E.ReadsNetwork in
    let a = c.args in
    let n = c.plain_front-n in
    let took = took_stretch end.laws end.view end.Kept a.end.now a.bytes.now a.first.now a.wire.now c.requires.room n.result c.min-reach.result c.min-reach.ensures n.ensures.within n.ensures.plain c.if-n-gt0.true (g.met.E.ReadsNetwork.still a.end.now) in
    rw c.copy_from_slice.ensures.after took

pub returns : goal.returns
returns g c =
    let end = g.E.ReadsNetwork in
    took_byte end.laws end.view end.Kept _ _ _ _ _ _ _ c.requires.room c.args.bytes.now c.requires.some c.read-read.ensures
