-- A byte on the wire is one byte, or two if it is 255.
use mathlib.Core.Path.{◌≡◌}
use mathlib.Core.Bool.{false}
use mathlib.Core.List.{List}
use Prim.Native.Nat.{ℕ, ◌≤◌}
use lib.ListN.{length}
use lib.Dec.{eqb, lit≤}
use Rattle.lists.proofs.Lengths.{either}
use Rattle.codes.specs.Telnet.{IAC}
use Rattle.wire.specs.Frames.{coded}

pub coded_long : (b : ℕ) → length (coded b) ≤ 2
unfolding coded
coded_long b = either (λ (l : List ℕ). length l ≤ 2) (eqb b IAC) (lit≤ tt) (lit≤ tt)

pub coded_one : (b : ℕ) → eqb b IAC ≡ false → length (coded b) ≡ 1
unfolding coded
coded_one b e = rw e
