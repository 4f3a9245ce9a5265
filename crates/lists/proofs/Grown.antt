-- Bytes put behind those of an array that are in use.
use mathlib.Core.Path.{◌≡◌, sym}
use mathlib.Core.List.{List, ◌++◌}
use Prim.Native.Nat.{ℕ, ◌+◌, ◌-◌, ◌≤◌, min}
use native.Mathlib.Omega.{arith}
use lib.ListN.{length, take, drop, take-append-drop}
use lib.Seq.{take_at, drop-drop, length-take-le}
use borrow.Rule.Slice.PartMut.{put_mid}
use Rattle.lists.specs.Buffers.{lent_as, untouched, WroteAtStart, RoomFor, Clean}
use Rattle.lists.proofs.Parts.{wrote_then, same_long, unused}
use Rattle.lists.proofs.Zeros.{drop-replicate}

-- an array has its own beginning written in it
own_start : (cells : List ℕ) (n : ℕ) → n ≤ length cells → WroteAtStart (take n cells) (untouched cells) n
own_start cells n h =
    let len : length (take n cells) ≡ n = length-take-le n cells h in
    record { count = sym len; cells = rw len (sym (take-append-drop n cells)) }

module _ (cells bytes last : List ℕ) (cap n m : ℕ) (l : length cells ≡ cap) (room : n + length bytes ≤ cap) (w : WroteAtStart bytes (lent_as (take (cap - n) (drop n cells)) last) m) where
  grown_wrote : WroteAtStart (take n cells ++ bytes) (lent_as cells (put_mid n (cap - n) cells last)) (n + m)
  grown_wrote =
      let h : n ≤ length cells = omega arith in
      let len : length (take n cells) ≡ n = length-take-le n cells h in
      rw (← l) (wrote_then (own_start cells n h) (omega arith) bytes last m (rw (← l) at w))

  grown_long : length (take n cells ++ bytes) ≡ n + m
  grown_long = sym grown_wrote.count

  pub grown : take (min (n + m) cap) (put_mid n (cap - n) cells last) ≡ take n cells ++ bytes
  grown =
      let e : min (n + m) cap ≡ n + m = omega (arith, w.count) in
      rw (e, grown_wrote.cells) (take_at (take n cells ++ bytes) _ (n + m) grown_long)

  pub clean_grown : Clean cells n → Clean (put_mid n (cap - n) cells last) (n + m)
  clean_grown clean =
      let fits : RoomFor (take n cells ++ bytes) cells = omega (arith, grown_long, w.count) in
      let long : length (put_mid n (cap - n) cells last) ≡ length cells = same_long grown_wrote fits in
      let past : drop (length (take n cells ++ bytes)) cells ≡ drop m (drop n cells) = rw (grown_long, drop-drop) in
      let zeros : length cells - n - m ≡ length cells - (n + m) = omega arith in
      record {
        within = omega (arith, w.count);
        zeros = rw (long, unused grown_wrote, past, clean.zeros, drop-replicate {X = ℕ} m (length cells - n) 0, zeros);
      }
