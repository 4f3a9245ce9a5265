use mathlib.Core.Path.{◌≡◌}
use Prim.Native.Nat.{◌-◌}
use native.Mathlib.Omega.{arith}
use lib.ListN.{length, take, drop, length-drop}
use borrow.Author.Rules.{rules}
use Rattle.std.proofs.lemmas.List.{take_all}
use Rattle.rcte.proofs.Cells.{left_keys, left_clean, left_numbers}
use Rattle.rcte.proofs.waiting.left.Goals as goal

pub returns : goal.returns
returns c =
    let e = c.args.e in
    let numbers = c.waiting_numbers-numbers.result.now in
    let rest = take (length numbers - c.min.result) (drop c.min.result numbers) in
    let l : length e.waiting ≡ 256 = search rules in
    let whole : rest ≡ drop c.min.result numbers = take_all (length numbers - c.min.result) (drop c.min.result numbers) (rw length-drop (omega arith)) in
    let of = c.waiting_numbers-numbers.ensures in
    rw c.cells_of-waiting.ensures
    (record {
      rcte = rw (left_keys e numbers rest c.args.taken c.min.result l of c.min.ensures whole);
      clean = λ h k. record { waiting = left_clean e numbers rest c.args.taken c.min.result l of c.min.ensures whole; numbers = left_numbers e numbers rest c.args.taken c.min.result l of c.min.ensures whole k; gathered = h };
    })
