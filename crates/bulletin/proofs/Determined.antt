-- Clean states with the same view.
use mathlib.Core.Path.{ap}
use Rattle.reader.proofs.Determined.{same_reader}
use Rattle.sent_macros.proofs.Determined.{clean_determined}
use Rattle.bulletin.specs.Determined.{DeterminedToTheByte}

pub determined_to_the_byte : DeterminedToTheByte
determined_to_the_byte p q wp wq cp cq e =
    let sides = ap (λ v. v.sides) e in
    let reader = same_reader p.reader q.reader wp.body wq.body cp.reader cq.reader (ap (λ v. v.reader) e) in
    let table = clean_determined p.table q.table wp.table wq.table cp.table cq.table (ap (λ v. v.table) e) in
    let values = ap (λ v. v.values) e in
    let waits = ap (λ v. v.waits) e in
    let issues = ap (λ v. v.issues) e in
    λ i. record { sides = sides i; reader = reader i; table = table i; values = values i; waits = waits i; issues = issues i }
