use Rattle.lists.proofs.ReadOff.{read_off}
use Rattle.bulletin.specs.Calls.{order_bytes}
use Rattle.bulletin.proofs.items.put_order.Goals as goal

pub put_frame-requires : goal.put_frame-requires
unfolding order_bytes
put_frame-requires c =
    rw (read_off c.put_order_body-n.ensures) c.requires

pub returns : goal.returns
unfolding order_bytes
returns c =
    rw (read_off c.put_order_body-n.ensures) at c.put_frame.ensures
