use mathlib.Core.List.{flat_map}
use Prim.Native.Nat.{◌≤◌}
use lib.ListN.{length, drop}
use Rattle.lists.specs.Buffers.{lent_as}
use Rattle.lists.proofs.Filling.{Filling}
use Rattle.tape.specs.Lines.{hex_byte}
use Rattle.tape.proofs.lines.put_hex_bytes.Given as goal

abbrev pub invariant-loop-b : goal.invariant-loop-b
invariant-loop-b l = (l.b-index ≤ length l.bytes) × Filling (flat_map hex_byte l.bytes) (flat_map hex_byte (drop l.b-index l.bytes)) (lent_as l.initial.out l.out) l.n
