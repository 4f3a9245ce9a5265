use Rattle.sent_macros.specs.Sending.{define_bytes}
use Rattle.sent_macros.proofs.DefineBodies.{stored_room_lem, body_is}
use Rattle.sent_macros.proofs.sent.put_define.Goals as goal

pub put_run-n-requires : goal.put_run-n-requires
put_run-n-requires c = stored_room_lem c.args.text.now c.requires.0

pub put_frame-requires : goal.put_frame-requires
unfolding define_bytes
put_frame-requires c =
    rw (c.copy_from_slice.ensures.after, body_is c.args.text.now c.put_run-n.ensures c.args.x) c.requires.1

pub returns : goal.returns
unfolding define_bytes
returns c =
    rw (c.copy_from_slice.ensures.after, body_is c.args.text.now c.put_run-n.ensures c.args.x) at c.put_frame.ensures
