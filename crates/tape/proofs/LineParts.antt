-- A line and a complaint, put together from the parts that they are written in.
use mathlib.Core.Path.{◌≡◌, refl}
use mathlib.Core.List.{List, [], ◌∷◌, ◌++◌, append_assoc, flat_map}
use Prim.Native.Nat.{ℕ}
use native.Mathlib.Omega.{arith}
use lib.ListN.{length}
use Rattle.decimals.specs.Decimals.{number_then}
use Rattle.tape.specs.Lines.{hex_byte, hex_of, line_of, bad_tape}
use Rattle.tape.specs.Refinement.Parts.{hex_then, numbers_of, bytes_of}

pub hex_of_none : (bytes : List ℕ) → length bytes ≡ 0 → hex_of bytes ≡ 45 ∷ []
hex_of_none [] e = refl
hex_of_none (b ∷ bytes) e = absurd (omega arith)

pub hex_of_some : (bytes : List ℕ) → (length bytes ≡ 0 → ⊥) → hex_of bytes ≡ flat_map hex_byte bytes
unfolding flat_map
hex_of_some [] some = absurd (some refl)
hex_of_some (b ∷ bytes) some = refl

pub line_parts : (field item code : ℕ) (paper wire : List ℕ) → line_of field item code paper wire ≡ numbers_of field item code ++ bytes_of paper wire
unfolding line_of number_then hex_then
line_parts field item code paper wire = simp append_assoc

pub bad_parts : (n : ℕ) → bad_tape n ≡ (98 ∷ 97 ∷ 100 ∷ 32 ∷ 116 ∷ 97 ∷ 112 ∷ 101 ∷ 32 ∷ []) ++ number_then n 10
unfolding bad_tape number_then
bad_parts n = refl
