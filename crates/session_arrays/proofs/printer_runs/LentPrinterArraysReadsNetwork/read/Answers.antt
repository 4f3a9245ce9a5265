use Rattle.std.proofs.Common.{rules}
use Rattle.session_arrays.specs.PrinterArrays.{arrays_in, SameArrays}
use Rattle.session_arrays.specs.PrinterRuns.{in_place_of}
use Rattle.session_arrays.proofs.PrinterRuns.{stepped_then}
use Rattle.session_arrays.proofs.printer_runs.LentPrinterArraysReadsNetwork.read.Goals as goal

pub returns-in-None : goal.returns-in-None
returns-in-None c =
    let same : SameArrays c.args.self.now c.read_by_value.new.self = search rules in
    stepped_then c.args.b c.args.self.now (in_place_of (arrays_in c.args.self.now) c.args.b) c.in-None.ensures.reads same c.read_by_value.ensures.reads
