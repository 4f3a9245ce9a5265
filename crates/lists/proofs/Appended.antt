-- An element put behind those of an array that are in use.
use mathlib.Core.Path.{◌≡◌}
use mathlib.Core.List.{List, [], ◌∷◌, ◌++◌}
use Prim.Native.Nat.{ℕ, suc, ◌+◌, ◌-◌, ◌<◌, min}
use native.Mathlib.Omega.{arith}
use lib.ListN.{length, take, drop, set, replicate, length-set}
use lib.Seq.{take-suc-set, drop-set-lt, drop-drop}
use Rattle.lists.specs.Buffers.{Clean}

module _ (cells : List ℕ) (n v : ℕ) (free : n < length cells) where
  -- where cap is the array's length, the elements in use are those before and the new one
  pub appended : (cap : ℕ) → length cells ≡ cap → take (min (n + 1) cap) (set cells n v) ≡ take n cells ++ v ∷ []
  appended cap l =
      let e : min (n + 1) cap ≡ suc n = omega arith in
      rw (e, take-suc-set)

  pub clean_appended : Clean cells n → Clean (set cells n v) (n + 1)
  clean_appended clean =
      let e : length cells - n ≡ suc (length cells - (n + 1)) = omega arith in
      let tail : drop (n + 1) cells ≡ drop 1 (replicate (length cells - n) 0) = rw (← drop-drop 1 n cells, clean.zeros) in
      let past : n < n + 1 = omega arith in
      record {
        within = simp length-set (omega arith);
        zeros = rw (length-set, drop-set-lt, tail, e);
      }
