use Rattle.printer.proofs.PlainBytes.{data_within, data_plain}
use Rattle.printer.proofs.run.PrinterReadsNetwork.plain_front.Goals as goal

pub returns : goal.returns
returns c =
    let end = c.args.self.now in
    let bytes = c.args.bytes.now in
    let plain = rw c.parts.ensures at c.data_stretch.ensures in
    record { within = data_within end bytes _ plain; plain = data_plain end bytes _ plain }
