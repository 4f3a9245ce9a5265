-- A buffer that one writer after the other fills, each lent what the last left unused.
use mathlib.Core.Path.{◌≡◌, refl, ap}
use mathlib.Core.List.{List, [], ◌∷◌, ◌++◌, append_assoc, append-nil, flat_map}
use Prim.Native.Nat.{ℕ, ◌+◌, ◌≤◌}
use native.Mathlib.Omega.{arith}
use lib.ListN.{length, drop, length-append, drop_of_length-le}
use Rattle.lists.specs.Buffers.{Lent, lent_as, untouched, WroteAtStart, RoomFor}
use Rattle.lists.proofs.Parts.{rest_of, with_rest, same_long, part_room, wrote_then}

-- what was written, n bytes, and rest are the whole
pub record Filling (whole rest : List ℕ) (out : Lent) (n : ℕ) : Type 0 where
  pub done : List ℕ
  pub wrote : WroteAtStart done out n
  pub is : done ++ rest ≡ whole

pub nothing_filled : (whole before : List ℕ) → Filling whole whole (untouched before) 0
nothing_filled whole before = record { done = []; wrote = record { count = refl; cells = refl }; is = refl }

pub all_filled : {whole : List ℕ} {out : Lent} {n : ℕ} → Filling whole [] out n → WroteAtStart whole out n
all_filled f =
    let e = simp append-nil at f.is in
    rw e at f.wrote

-- the whole had room, so what was written has
pub room_done : {whole rest : List ℕ} {out : Lent} {n : ℕ} → Filling whole rest out n → RoomFor whole out.before → n ≤ length out.before
room_done f r =
    let e = simp length-append at (ap length f.is) in
    omega (arith, f.wrote.count)

pub still_long : {whole rest : List ℕ} {out : Lent} {n : ℕ} → Filling whole rest out n → RoomFor whole out.before → length out.after ≡ length out.before
still_long f r =
    let h = room_done f r in
    same_long f.wrote (omega (arith, f.wrote.count))

module _ (cs rest : List ℕ) {whole : List ℕ} {out : Lent} {n : ℕ} (f : Filling whole (cs ++ rest) out n) (r : RoomFor whole out.before) where
  room_both : RoomFor (f.done ++ cs) out.before
  room_both =
      let e = simp length-append at (ap length f.is) in
      simp length-append (omega arith)

  room_first : RoomFor f.done out.before
  room_first = omega (arith, simp length-append at room_both)

  -- the next writer has room
  pub room_next : RoomFor cs (rest_of out n)
  room_next = part_room f.wrote room_first cs room_both

  pub more_filled : (last : List ℕ) (m : ℕ) → WroteAtStart cs (lent_as (rest_of out n) last) m
      → Filling whole rest (with_rest out n last) (n + m)
  more_filled last m w = record {
    done = f.done ++ cs;
    wrote = wrote_then f.wrote room_first cs last m w;
    is = rw append_assoc f.is;
  }

-- a run of writers, one for each element: x is the next
module _ {X : Type 0} (f : X → List ℕ) (xs : List X) (i : ℕ) (x : X) (next : drop i xs ≡ x ∷ drop (i + 1) xs) {out : Lent} {n : ℕ}
    (h : Filling (flat_map f xs) (flat_map f (drop i xs)) out n) (r : RoomFor (flat_map f xs) out.before) where
  first_is : Filling (flat_map f xs) (f x ++ flat_map f (drop (i + 1) xs)) out n
  unfolding flat_map
  first_is = rw next at h

  pub run_room : RoomFor (f x) (rest_of out n)
  run_room = room_next (f x) (flat_map f (drop (i + 1) xs)) first_is r

  pub run_more : (last : List ℕ) (m : ℕ) → WroteAtStart (f x) (lent_as (rest_of out n) last) m
      → Filling (flat_map f xs) (flat_map f (drop (i + 1) xs)) (with_rest out n last) (n + m)
  run_more last m w = more_filled (f x) (flat_map f (drop (i + 1) xs)) first_is r last m w

pub run_done : {X : Type 0} (f : X → List ℕ) (xs : List X) (i : ℕ) {out : Lent} {n : ℕ} → length xs ≤ i
    → Filling (flat_map f xs) (flat_map f (drop i xs)) out n → WroteAtStart (flat_map f xs) out n
unfolding flat_map
run_done f xs i le h =
    let d : drop i xs ≡ [] = drop_of_length-le xs {i = i} le in
    all_filled (rw d at h)
