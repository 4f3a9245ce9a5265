-- A packed key is unpacked to itself, and the bounds of a key's bytes.
use mathlib.Core.Path.{◌≡◌, refl}
use mathlib.Core.Bool.{Bool, true, false, cond}
use mathlib.Core.List.{[], ◌∷◌}
use Prim.Native.Nat.{◌+◌, ◌%◌, ◌≤◌}
use native.Mathlib.Omega.{arith}
use lib.ListN.{length}
use borrow.Author.Tests.{lt-ltb, le-ltb}
use lib.Dec.{eqb}
use Rattle.keys.specs.declared.Key.{Key}
use Rattle.keys.specs.declared.Key.TheVariants.{Char, Line, Command}
use Rattle.keys.specs.Keys.{key_wire, key_paper, prints}
use Rattle.keys.specs.Refinement.{key_number, key_of_number, ByteKey}

pub key_of_key_number : (k : Key) → ByteKey k → key_of_number (key_number k) ≡ k
unfolding key_of_number
key_of_key_number (Char b) h = rw (lt-ltb b 256 h)
key_of_key_number Line h = refl
key_of_key_number (Command c) h =
    let e : (512 + c) % 256 ≡ c = omega arith in
    rw (le-ltb (512 + c) 256 (omega arith), le-ltb (512 + c) 512 (omega arith), e)

pub wire_most : (k : Key) → length (key_wire k) ≤ 2
unfolding key_wire
wire_most (Char b) = go (eqb b 13) (eqb b 255)
  where
    go : (t u : Bool) → length (cond t (13 ∷ 0 ∷ []) (cond u (255 ∷ 255 ∷ []) (b ∷ []))) ≤ 2
    go true u = omega arith
    go false true = omega arith
    go false false = omega arith
wire_most Line = omega arith
wire_most (Command c) = omega arith

pub paper_most : (k : Key) → length (key_paper k) ≤ 2
unfolding key_paper
paper_most (Char b) = go (prints b)
  where
    go : (t : Bool) → length (cond t (b ∷ []) []) ≤ 2
    go true = omega arith
    go false = omega arith
paper_most Line = omega arith
paper_most (Command c) = omega arith
