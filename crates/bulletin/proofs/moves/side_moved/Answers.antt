use Rattle.bulletin.proofs.Meeting.{met_sides}
use Rattle.bulletin.proofs.moves.side_moved.Goals as goal

pub returns-in_default : goal.returns-in_default
returns-in_default c = rw c.moved.ensures (met_sides c.args.side c.args.q c.in_default.not-Macro c.in_default.not-Disposes)
