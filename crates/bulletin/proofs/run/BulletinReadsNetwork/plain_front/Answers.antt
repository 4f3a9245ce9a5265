use Rattle.bulletin.specs.Refinement.{view_bulletin}
use Rattle.bulletin.proofs.PlainBytes.{data_within, data_plain}
use Rattle.bulletin.proofs.run.BulletinReadsNetwork.plain_front.Goals as goal

pub returns : goal.returns
returns c =
    let end = c.args.self.now in
    let bytes = c.args.bytes.now in
    record { within = data_within (view_bulletin end) bytes _ c.data_stretch.ensures; plain = data_plain (view_bulletin end) bytes _ c.data_stretch.ensures }
