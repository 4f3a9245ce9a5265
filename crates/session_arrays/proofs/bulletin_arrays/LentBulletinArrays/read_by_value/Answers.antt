use Rattle.session_arrays.proofs.BulletinRuns.{byte_by_value}
use Rattle.session_arrays.proofs.bulletin_arrays.LentBulletinArrays.read_by_value.Goals as goal

pub returns-clause-reads : goal.returns-clause-reads
returns-clause-reads c =
    byte_by_value c.args.b c.requires c.decoded.ensures c.network_byte-a.ensures c.store.ensures.stored
