use Rattle.std.proofs.Common.{drop, ◌∙◌, not, rules, tests}
use Rattle.std.proofs.lemmas.Iterator.{YieldsList-from_slice}
use Rattle.std.proofs.lemmas.Iterator.Search.{position_from_yields_List}
use Rattle.std.proofs.lemmas.List.{take_rest}
use Rattle.lists.proofs.Fronts.{front_found}
use Rattle.lists.proofs.scans.front.Goals as goal

pub returns : goal.returns
returns g c = λ test computes.
    let bytes = c.args.bytes.now in
    let n = c.blocks_front-scanned.result in
    let found = position_from_yields_List (λ x. not (test x)) _ _ c.position-more.result c.position-more.ensures.ran (YieldsList-from_slice (drop n bytes) (c.iter.ensures.rest ∙ take_rest bytes n)) (λ x b q k. search (rules, tests, computes)) in
    rw (c.unwrap_or.ensures, found, take_rest bytes n) (front_found test bytes n (c.blocks_front-scanned.ensures.passed test computes))
