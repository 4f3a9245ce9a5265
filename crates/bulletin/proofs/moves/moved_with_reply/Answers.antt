use Rattle.codes.specs.declared.Note.TheVariants.{Clear}
use Rattle.bulletin.specs.Network.{side_moved}
use Rattle.bulletin.proofs.Meeting.{met_step}
use Rattle.bulletin.proofs.moves.moved_with_reply.Goals as goal

pub put_reply-n-requires : goal.put_reply-n-requires
unfolding side_moved
put_reply-n-requires c = c.requires

pub returns : goal.returns
unfolding side_moved
returns c = rw c.sends.ensures (met_step Clear c.side_moved.ensures c.put_reply-n.ensures)
