use Rattle.bulletin.proofs.PlainBytes.{data_within, data_plain}
use Rattle.session_arrays.specs.BulletinRuns.{view_lent}
use Rattle.session_arrays.proofs.bulletin_runs.LentBulletinArraysReadsNetwork.plain_front.Goals as goal

pub returns : goal.returns
returns c =
    let state = view_lent c.args.self.now in
    record { within = data_within state c.args.bytes.now _ c.stretch_in.ensures; plain = data_plain state c.args.bytes.now _ c.stretch_in.ensures }
