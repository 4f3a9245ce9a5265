use Rattle.printer.proofs.network.item_read.Goals as goal

pub returns-in-Data : goal.returns-in-Data
returns-in-Data c = rw c.in-Data.is (c.data_read.ensures.met _)
