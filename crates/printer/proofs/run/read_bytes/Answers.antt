use Rattle.printer.proofs.Runs.{refines_run}
use Rattle.printer.proofs.run.read_bytes.Goals as goal

pub returns : goal.returns
returns c = refines_run c.read_bytes-ran.ensures
