use Rattle.reader.specs.Refinement.{view_reader}
use Rattle.bulletin.specs.Refinement.{view_bulletin}
use Rattle.bulletin.proofs.Bodies.{byte_item}
use Rattle.bulletin.proofs.network.network_read.Goals as goal

pub item_read-requires : goal.item_read-requires
item_read-requires c =
    let r = c.read_byte-read.result in
    rw (byte_item (view_bulletin c.args.s) c.args.b r.item (view_reader r.reader) c.read_byte-read.ensures.item c.read_byte-read.ensures.view) at c.requires

pub returns : goal.returns
returns c =
    let r = c.read_byte-read.result in
    let e = c.item_read.ensures in
    rw (byte_item (view_bulletin c.args.s) c.args.b r.item (view_reader r.reader) c.read_byte-read.ensures.item c.read_byte-read.ensures.view)
    (record {
      note = e.note;
      given = e.given;
      sent = e.sent;
      view = e.view;
      clean = λ k. e.clean (record { reader = c.read_byte-read.ensures.clean k.reader; table = k.table });
    })
