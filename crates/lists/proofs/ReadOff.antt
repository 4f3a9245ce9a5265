-- What was written, read off the start of the buffer.
use mathlib.Core.Path.{◌≡◌, refl}
use mathlib.Core.List.{List}
use Prim.Native.Nat.{ℕ}
use lib.ListN.{length, take, drop}
use lib.Seq.{take_at}
use Rattle.lists.specs.Buffers.{Lent, WroteAtStart}

module _ {bytes : List ℕ} {out : Lent} {n : ℕ} (w : WroteAtStart bytes out n) where
  pub read_off : take n out.after ≡ bytes
  read_off = rw (w.count, w.cells) (take_at bytes (drop (length bytes) out.before) (length bytes) refl)
