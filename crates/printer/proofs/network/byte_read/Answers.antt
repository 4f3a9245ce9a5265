use Rattle.printer.proofs.Bodies.{byte_item}
use Rattle.printer.proofs.Choosing.{data_byte}
use Rattle.printer.specs.Refinement.{view_printer}
use Rattle.reader.specs.Refinement.{view_reader}
use mathlib.Core.Path.{sym, ◌∙◌}
use Rattle.printer.proofs.network.byte_read.Goals as goal

pub data_read-requires : goal.data_read-requires
data_read-requires c =
    let x = c.args in
    rw (data_byte (view_printer x.s) x.b (sym c.is_data.ensures ∙ c.if-is_data.true)) at c.requires.room_for

pub returns-then-is_data : goal.returns-then-is_data
returns-then-is_data c =
    let x = c.args in
    rw (data_byte (view_printer x.s) x.b (sym c.is_data.ensures ∙ c.if-is_data.true)) (c.data_read.ensures.met x.wire.now)

pub item_read-requires : goal.item_read-requires
item_read-requires c =
    let x = c.args in
    let read = c.read_byte-read in
    rw (byte_item (view_printer x.s) x.b read.result.item (view_reader read.result.reader) read.ensures.item read.ensures.view) at c.requires

pub returns : goal.returns
returns c =
    let x = c.args in
    let read = c.read_byte-read in
    let e = c.item_read.ensures in
    rw (byte_item (view_printer x.s) x.b read.result.item (view_reader read.result.reader) read.ensures.item read.ensures.view)
    (record { note = e.note; wrote = e.wrote; view = e.view; clean = λ k. e.clean (record { reader = read.ensures.clean k.reader; table = k.table; rcte = k.rcte }) })
