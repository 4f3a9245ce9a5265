-- The rules of mending, opened for computation.
use Rattle.decimals.specs.Decimals.{digits, number_then}
use Rattle.mending.specs.Judging.{body_judged}
use Rattle.mending.specs.Pieces.{pieces_from}
use Rattle.mending.specs.Mending.{drops_at, drop_line}
use Rattle.example_claims.specs.Opened.{layer_rules}

unfoldable pub mending_rules : Unit {0}
unfolding layer_rules digits number_then body_judged pieces_from drops_at drop_line
mending_rules = tt
