-- What was written, and the hex of the bytes that are left, are the hex of all.
use mathlib.Core.Path.{◌≡◌}
use mathlib.Core.List.{◌∷◌}
use Prim.Native.Nat.{◌+◌}
use native.Mathlib.Numerals.{add-one}
use native.Mathlib.Omega.{arith}
use lib.ListN.{drop, get_or}
use lib.Seq.{drop-cons}
use Rattle.lists.proofs.Filling.{run_room, run_more, run_done}
use Rattle.tape.specs.Lines.{hex_byte}
use Rattle.tape.proofs.lines.put_hex_bytes.Goals as goal

pub put_hex_byte-n-requires : goal.put_hex_byte-n-requires
put_hex_byte-n-requires c =
    let bytes = c.args.bytes.now in
    let i = c.loop-b.b-index in
    let next : drop i bytes ≡ get_or bytes i 0 ∷ drop (i + 1) bytes = rw (add-one i) (drop-cons bytes i 0 c.loop-b-test.true) in
    run_room hex_byte bytes i _ next c.loop-b.invariant.1 c.requires

pub loop-b-preserved : goal.loop-b-preserved
loop-b-preserved c =
    let bytes = c.args.bytes.now in
    let i = c.loop-b.b-index in
    let next : drop i bytes ≡ get_or bytes i 0 ∷ drop (i + 1) bytes = rw (add-one i) (drop-cons bytes i 0 c.loop-b-test.true) in
    (omega arith, run_more hex_byte bytes i _ next c.loop-b.invariant.1 c.requires _ _ c.put_hex_byte-n.ensures)

pub returns : goal.returns
returns c = run_done hex_byte c.args.bytes.now c.loop-b.b-index c.loop-b-test.false c.loop-b.invariant.1
