use Prim.Native.Nat.{◌≤◌}
use native.Mathlib.Omega.{arith}
use lib.ListN.{length, length-take}
use Rattle.keys.proofs.Packing.{wire_most}
use Rattle.rcte.specs.Refinement.{bytes_in}
use Rattle.rcte.proofs.Gathered.make_room.Goals as goal

pub overflow_add-bytes : goal.overflow_add-bytes
overflow_add-bytes c =
    let long : length (bytes_in c.args.self.now) ≤ 512 = simp length-take (omega arith) in
    rw c.bytes.ensures (omega (arith, c.wire_length.ensures, wire_most c.args.k))
