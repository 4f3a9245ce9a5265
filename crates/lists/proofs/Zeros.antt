-- Bytes at the start of an array whose other cells are 0.
use mathlib.Core.Path.{◌≡◌}
use mathlib.Core.List.{List, ◌++◌}
use Prim.Native.Nat.{ℕ, zero, suc, ◌+◌, ◌-◌}
use native.Mathlib.Omega.{arith}
use lib.ListN.{length, drop, replicate, length-append, length-replicate}
use lib.Seq.{drop_at}
use Rattle.lists.specs.Buffers.{Clean}

pub drop-replicate : {X : Type 0} (n m : ℕ) (x : X) → drop n (replicate m x) ≡ replicate (m - n) x
drop-replicate zero m x =
    let e : m - 0 ≡ m = omega arith in
    rw e
drop-replicate (suc n) zero x =
    let e : 0 - suc n ≡ 0 = omega arith in
    rw e
drop-replicate (suc n) (suc m) x =
    let e : suc m - suc n ≡ m - n = omega arith in
    rw e (drop-replicate n m x)

pub clean_append : (bytes : List ℕ) (n m : ℕ) → length bytes ≡ n → Clean (bytes ++ replicate m 0) n
clean_append bytes n m h =
    let long : length (bytes ++ replicate m 0) ≡ length bytes + m = rw (length-append, length-replicate) in
    let left : length (bytes ++ replicate m 0) - n ≡ m = omega arith in
    record {
      within = omega arith;
      zeros = rw (left, drop_at bytes (replicate m 0) n h);
    }
