use Rattle.session_arrays.proofs.PrinterRuns.{refines_run}
use Rattle.session_arrays.proofs.printer_arrays.LentPrinterArrays.read_bytes.Goals as goal

pub returns-clause-reads : goal.returns-clause-reads
returns-clause-reads c = rw c.into.ensures (refines_run c.read_bytes.ensures)
