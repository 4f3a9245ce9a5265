-- A clean reader is known to the byte by its view.
use mathlib.Core.Path.{◌≡◌, ap}
use lib.ListN.{length}
use Rattle.lists.proofs.Known.{same_array}
use Rattle.reader.specs.Reading.{body_room}
use Rattle.reader.specs.Refinement.{view_reader, CleanReader}
use Rattle.reader.specs.declared.Reader.{Reader}

pub same_reader : (p q : Reader) → length p.body ≡ body_room → length q.body ≡ body_room → CleanReader p → CleanReader q
    → view_reader p ≡ view_reader q → p ≡ q
same_reader p q lp lq cp cq e =
    let phase = ap (λ v. v.phase) e in
    let marred = ap (λ v. v.marred) e in
    let body = same_array body_room p.body q.body p.len q.len lp lq cp cq (ap (λ v. v.body) e) in
    λ i. record { phase = phase i; marred = marred i; body = body.1 i; len = body.0 i }
