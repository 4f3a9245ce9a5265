use Rattle.sent_macros.proofs.DataBytes.{data_same}
use Rattle.sent_macros.proofs.put_data.Goals as goal

pub put_run-requires : goal.put_run-requires
put_run-requires c =
    rw (data_same c.args.t c.args.bytes.now) at c.requires

pub returns : goal.returns
returns c =
    let a = c.args in
    rw (data_same a.t a.bytes.now) c.put_run.ensures
