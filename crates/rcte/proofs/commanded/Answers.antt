use mathlib.Core.Path.{ap}
use Rattle.rcte.specs.Refinement.{releasing}
use Rattle.rcte.specs.Control.{commanded}
use Rattle.rcte.proofs.commanded.Goals as goal

pub release-requires : goal.release-requires
unfolding commanded
release-requires c =
    rw (ap releasing c.ordered.ensures.rcte) record { room_for = c.requires.room_for; room_for_2 = c.requires.room_for_2 }

pub returns : goal.returns
unfolding commanded
returns c =
    let order = c.ordered in
    let met = rw (ap releasing order.ensures.rcte) at c.release.ensures in
    record { wrote = met.wrote; rcte = met.rcte; clean = λ h. met.clean (order.ensures.clean h) }
