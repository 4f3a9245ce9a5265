use Rattle.printer.proofs.PlainBytes.{data_within, data_plain}
use Rattle.session_arrays.specs.PrinterArrays.{decoded_printer, arrays_in}
use Rattle.session_arrays.proofs.printer_runs.LentPrinterArraysReadsNetwork.plain_front.Goals as goal

pub returns : goal.returns
returns c =
    let state = decoded_printer (arrays_in c.args.self.now) in
    record { within = data_within state c.args.bytes.now _ c.stretch_in.ensures; plain = data_plain state c.args.bytes.now _ c.stretch_in.ensures }
