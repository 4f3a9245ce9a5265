-- A character that is neither dropped nor replaced goes out with its NULs, and so does a Line.
use mathlib.Core.Path.{◌≡◌}
use mathlib.Core.Bool.{false}
use mathlib.Core.List.{List, [], ◌∷◌, ◌++◌}
use Prim.Native.Nat.{ℕ, ◌+◌, ◌≤◌}
use native.Mathlib.Omega.{arith}
use lib.ListN.{length, length-append}
use Rattle.lists.specs.Buffers.{lent_as, WroteAtStart, RoomFor}
use Rattle.lists.proofs.Parts.{same_long, counted}
use Rattle.codes.specs.Telnet.{LF, CR}
use Rattle.codes.specs.declared.Disposition.{Disposition}
use Rattle.disposition.specs.declared.Handling.{Handling}
use Rattle.disposition.specs.Handled.{handled_by}
use Rattle.disposition.specs.ItemData.{drops, replaces, character_bytes, nul_count, nuls, character_data, line_data}

pub character_padded : (d : Disposition) (h : Handling) → handled_by drops h ≡ false → handled_by replaces h ≡ false
    → character_data d h ≡ character_bytes d ++ nuls (nul_count h)
unfolding character_data
character_padded d h kept same = rw (kept, same)

pub line_padded : (returns feeds : Handling) → handled_by drops returns ≡ false → handled_by drops feeds ≡ false
    → line_data returns feeds ≡ (CR ∷ LF ∷ []) ++ nuls (nul_count returns + nul_count feeds)
unfolding line_data
line_padded returns feeds one two = rw (one, two)

-- bytes that are written at the start, with room for NULs behind them
module _ (bytes : List ℕ) (n : ℕ) (out : List ℕ) (room : RoomFor (bytes ++ nuls n) out) where
  pub room_first : RoomFor bytes out
  room_first = omega (arith, simp length-append at room)

  pub first_within : {after : List ℕ} {k : ℕ} → WroteAtStart bytes (lent_as out after) k → k ≤ length after
  first_within wrote = rw (same_long wrote room_first) (counted wrote room_first)
