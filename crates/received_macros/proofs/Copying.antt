-- The cells that copies one behind the other leave.
use mathlib.Core.Path.{◌≡◌, sym}
use mathlib.Core.List.{List, ◌++◌, append_assoc}
use Prim.Native.Nat.{ℕ, ◌+◌, ◌-◌, ◌≤◌}
use native.Mathlib.Omega.{arith}
use lib.ListN.{length, take, drop, replicate, length-append, length-take, length-drop}
use lib.Seq.{take_at, drop_at}
use borrow.Rule.Slice.PartMut.{put_mid}
use Rattle.lists.proofs.Zeros.{drop-replicate}
use Rattle.received_macros.specs.Texts.{text_room}
use Rattle.received_macros.specs.Refinement.{cells_with}

-- a copy behind what is there, over zeros
copied_behind : (head s : List ℕ) (n at m : ℕ) → length head ≡ at → m ≡ length s → put_mid at m (head ++ replicate n 0) s ≡ head ++ s ++ replicate (n - length s) 0
copied_behind head s n at m long is =
    rw (take_at head (replicate n 0) at long, drop_at head (replicate n 0) at long, is, drop-replicate) (sym (append_assoc head s (replicate (n - length s) 0)))

-- the copies of the texts before, of the new one, and of those behind
pub packed : (cells s : List ℕ) (start end last : ℕ) → length cells ≡ text_room → start ≤ end → end ≤ last → last ≤ text_room → start + length s + (last - end) ≤ text_room
    → let behind = start + length s in
    put_mid behind (behind + (last - end) - behind) (put_mid start (behind - start) (take start cells ++ drop start (replicate text_room 0)) s) (take (last - end) (drop end cells))
    ≡ cells_with cells start end last s
unfolding cells_with
packed cells s start end last long h₁ h₂ h₃ room =
    let head = take start cells in
    let mid = take (last - end) (drop end cells) in
    let head-long : length head ≡ start = simp length-take (omega arith) in
    let both_long : length (head ++ s) ≡ start + length s = simp length-append (omega arith) in
    let mid-long : length mid ≡ last - end = simp (length-take, length-drop) (omega arith) in
    let left : text_room - start - length s - length mid ≡ text_room - (start + length s + (last - end)) = omega arith in
    rw (
      drop-replicate,
      copied_behind head s (text_room - start) start (start + length s - start) head-long (omega arith),
      copied_behind (head ++ s) mid (text_room - start - length s) (start + length s) (start + length s + (last - end) - (start + length s)) both_long (omega arith),
      left,
    )
