use mathlib.Core.Path.{◌≡◌}
use Prim.Native.Nat.{◌≤◌, ◌+◌, min}
use native.Mathlib.Omega.{arith}
use lib.ListN.{length, length-append, length-take, length-drop}
use borrow.Author.Rules.{rules}
use Rattle.lists.proofs.Grown.{grown, clean_grown}
use Rattle.keys.specs.Keys.{key_wire}
use Rattle.rcte.proofs.Cells.{gathered_long, clean_within}
use Rattle.rcte.proofs.Gathered.push.Goals as goal

pub returns : goal.returns
returns c =
    let g = c.args.self.now in
    let n = length c.bytes-n.result.now in
    let l : length g.cells ≡ 512 = search rules in
    let within : n ≡ min g.filled 512 = rw c.bytes-n.ensures (gathered_long g.cells g.filled l) in
    let fits : n + length (key_wire c.args.k) ≤ 512 = omega (arith, gathered_long g.cells g.filled l, c.requires) in
    rw (← within)
    (record {
      bytes = grown g.cells (key_wire c.args.k) c.put_key.new.out 512 n c.put_key.result l fits c.put_key.ensures;
      clean = λ h. clean_grown g.cells (key_wire c.args.k) c.put_key.new.out 512 n c.put_key.result l fits c.put_key.ensures (rw (within, clean_within g.cells g.filled l h) h);
      long = simp (length-append, length-take, length-drop) (omega (arith, c.put_key.auto.out));
    })
