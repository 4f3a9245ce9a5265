-- What was written, and the bytes of the data that is left, are those of all data.
use mathlib.Core.Path.{◌≡◌}
use mathlib.Core.List.{◌∷◌}
use Prim.Native.Nat.{◌+◌}
use native.Mathlib.Numerals.{add-one}
use lib.ListN.{drop, get_or}
use lib.Seq.{drop-cons}
use Rattle.lists.proofs.Filling.{run_room, run_more, run_done}
use Rattle.sent_macros.specs.Sending.{data_bytes}
use Rattle.sent_macros.specs.Refinement.{bare_table}
use Rattle.sent_macros.proofs.sent.put_run.Goals as goal

pub put_byte-n-requires : goal.put_byte-n-requires
put_byte-n-requires c =
    let bytes = c.args.bytes.now in
    let i = c.loop-b.b-index in
    let next : drop i bytes ≡ get_or bytes i 0 ∷ drop (i + 1) bytes = rw (add-one i) (drop-cons bytes i 0 c.loop-b-test.true) in
    run_room (data_bytes (bare_table c.args.numbers.now)) bytes i _ next c.loop-b.invariant c.requires

pub loop-b-preserved : goal.loop-b-preserved
loop-b-preserved c =
    let bytes = c.args.bytes.now in
    let i = c.loop-b.b-index in
    let next : drop i bytes ≡ get_or bytes i 0 ∷ drop (i + 1) bytes = rw (add-one i) (drop-cons bytes i 0 c.loop-b-test.true) in
    run_more (data_bytes (bare_table c.args.numbers.now)) bytes i _ next c.loop-b.invariant c.requires _ _ c.put_byte-n.ensures

pub returns : goal.returns
returns c = run_done (data_bytes (bare_table c.args.numbers.now)) c.args.bytes.now c.loop-b.b-index c.loop-b-test.false c.loop-b.invariant
