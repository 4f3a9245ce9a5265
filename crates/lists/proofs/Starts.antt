-- Stores at the start of a buffer, as bytes written there.
use mathlib.Core.Path.{◌≡◌, refl}
use mathlib.Core.List.{List, []}
use Prim.Native.Nat.{ℕ, ◌+◌}
use native.Mathlib.Nat.{zero-add}
use lib.ListN.{length}
use lib.Seq.{sets, sets-eq}
use Rattle.lists.specs.Buffers.{lent_as, untouched, WroteAtStart, RoomFor}

pub wrote_none : (l : List ℕ) → WroteAtStart [] (untouched l) 0
wrote_none l = record { count = refl; cells = refl }

-- bytes stored one after the other, the first at 0
pub wrote_start : (bytes l : List ℕ) → RoomFor bytes l → WroteAtStart bytes (lent_as l (sets l 0 bytes)) (length bytes)
wrote_start bytes l room =
    let e : 0 + length bytes ≡ length bytes = zero-add (length bytes) in
    record { count = refl; cells = rw e at (sets-eq bytes l 0 (rw e room)) }
