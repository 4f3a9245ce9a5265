-- An array that is clean past the cells in use is known by how these are read.
use mathlib.Core.Path.{◌≡◌, sym, ap, ◌∙◌}
use mathlib.Core.List.{List, ◌++◌, map, map-append, map-id}
use Prim.Native.Nat.{ℕ, min, ◌-◌}
use native.Mathlib.Omega.{arith}
use lib.ListN.{length, take, drop, replicate, take-append-drop, length-map}
use lib.Seq.{length-take-le}
use Rattle.lists.specs.Buffers.{Clean}

-- each cell read by f, of an array of cap cells
module _ {X : Type 0} (f : ℕ → X) (cap : ℕ) where
  abbrev in_use : List ℕ → ℕ → List X
  in_use xs n = map f (take (min n cap) xs)

  -- the count is the number of cells in use
  pub count_known : (xs : List ℕ) (n : ℕ) → length xs ≡ cap → Clean xs n → length (in_use xs n) ≡ n
  count_known xs n l c =
      let m : min n cap ≡ n = omega (arith, c.within) in
      rw m (length-map (take n xs) f ∙ length-take-le n xs c.within)

  cells_known : (xs : List ℕ) (n : ℕ) → length xs ≡ cap → Clean xs n → map f xs ≡ in_use xs n ++ map f (replicate (cap - n) 0)
  cells_known xs n l c =
      let m : min n cap ≡ n = omega (arith, c.within) in
      let rest : drop n xs ≡ replicate (cap - n) 0 = rw l at c.zeros in
      rw (m, ← rest, ← map-append f (take n xs) (drop n xs), take-append-drop n xs)

  pub same_read : (xs ys : List ℕ) (n m : ℕ) → length xs ≡ cap → length ys ≡ cap → Clean xs n → Clean ys m → in_use xs n ≡ in_use ys m
      → (n ≡ m) × (map f xs ≡ map f ys)
  same_read xs ys n m lx ly cx cy e =
      let count : n ≡ m = sym (count_known xs n lx cx) ∙ ap length e ∙ count_known ys m ly cy in
      (count, cells_known xs n lx cx ∙ cc (e, count) ∙ sym (cells_known ys m ly cy))

-- .. read as they are
pub same_array : (cap : ℕ) (xs ys : List ℕ) (n m : ℕ) → length xs ≡ cap → length ys ≡ cap → Clean xs n → Clean ys m
    → take (min n cap) xs ≡ take (min m cap) ys → (n ≡ m) × (xs ≡ ys)
same_array cap xs ys n m lx ly cx cy e =
    let s = same_read (λ x. x) cap xs ys n m lx ly cx cy (rw (map-id (take (min n cap) xs), map-id (take (min m cap) ys)) e) in
    (s.0, sym (map-id xs) ∙ s.1 ∙ map-id ys)
