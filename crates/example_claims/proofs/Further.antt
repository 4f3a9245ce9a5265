-- The dozen further examples, by computation.
use mathlib.Core.Path.{refl}
use Rattle.example_claims.specs.Opened.{tape_rules}
use Rattle.example_claims.specs.OpenedBulletin.{bulletin_rules}
use Rattle.example_claims.specs.Showing.{same_bytes}
use Rattle.example_claims.specs.Further.{further, FurtherHold}
use Rattle.example_claims.proofs.Examples.{all_same, all_hold}

pub further_hold : FurtherHold
unfolding tape_rules bulletin_rules same_bytes all_same
further_hold = all_hold further refl
