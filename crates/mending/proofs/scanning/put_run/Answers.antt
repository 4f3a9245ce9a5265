use native.Mathlib.Omega.{arith}
use lib.ListN.{take, length-take}
use Rattle.lists.proofs.Fronts.{front_within}
use Rattle.codes.specs.Telnet.{not_iac}
use Rattle.mending.proofs.scanning.put_run.Goals as goal

pub slice_bounds-put_bytes-end : goal.slice_bounds-put_bytes-end
slice_bounds-put_bytes-end c =
    simp length-take (omega (arith, c.text_within-n.ensures, front_within not_iac (take c.args.part c.args.rest.now), length-take c.args.part c.args.rest.now))
