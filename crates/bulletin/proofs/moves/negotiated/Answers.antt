use Rattle.bulletin.specs.Network.{negotiation_read}
use Rattle.bulletin.proofs.moves.negotiated.Goals as goal

pub moved_with_reply-requires : goal.moved_with_reply-requires
unfolding negotiation_read
moved_with_reply-requires c = rw (← c.heard_by-turn.ensures) at c.requires

pub returns : goal.returns
unfolding negotiation_read
returns c = rw (← c.heard_by-turn.ensures) c.moved_with_reply.ensures
