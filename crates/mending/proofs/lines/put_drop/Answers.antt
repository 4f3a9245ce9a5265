use mathlib.Core.List.{flat_map}
use Rattle.lists.proofs.FlatMap.{flat_map_one}
use Rattle.lists.proofs.Starts.{wrote_none}
use Rattle.mending.proofs.lines.put_drop.Goals as goal

pub put_line-requires : goal.put_line-requires
put_line-requires c =
    rw (c.in-Err.is, flat_map_one) at c.requires

pub returns-in-Ok : goal.returns-in-Ok
unfolding flat_map
returns-in-Ok c = rw c.in-Ok.is (wrote_none _)

pub returns-in-Err : goal.returns-in-Err
returns-in-Err c =
    rw (c.in-Err.is, flat_map_one) c.put_line.ensures
