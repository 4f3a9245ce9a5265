-- `reader::kept` meets its contract. The byte is put behind the kept ones where the body has room, and dropped where it has not.
use Prim.Native.Nat.{◌≤◌, ◌<◌, min}
use native.Mathlib.Omega.{arith}
use borrow.Author.Tests.{lt-ltb, le-ltb}
use lib.ListN.{length, take, length-take}
use Rattle.lists.proofs.Appended.{appended, clean_appended}
use Rattle.reader.specs.Reading.{keeping}
use borrow.Author.Rules.{rules}
use Rattle.reader.proofs.kept.Goals as goal
use mathlib.Core.Path.{◌≡◌, refl}

pub returns-then-fits : goal.returns-then-fits
unfolding keeping
returns-then-fits c =
    let r = c.args.r in
    let l : length r.body ≡ 260 = search rules in
    let free : r.len < length r.body = omega arith in
    let n : min r.len 260 ≡ r.len = omega arith in
    let short : length (take r.len r.body) < 260 = simp length-take (omega arith) in
    rw (n, lt-ltb _ _ short)
    (record { item = refl; view = rw (appended r.body r.len c.args.b free 260 l); clean = clean_appended r.body r.len c.args.b free })

pub returns-else-fits : goal.returns-else-fits
unfolding keeping
returns-else-fits c =
    let r = c.args.r in
    let l : length r.body ≡ 260 = search rules in
    let full : 260 ≤ length (take (min r.len 260) r.body) = simp length-take (omega arith) in
    rw (le-ltb _ _ full) (record { item = refl; view = refl; clean = λ h. h })
