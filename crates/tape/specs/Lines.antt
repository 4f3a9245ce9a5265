-- What the program prints, in ASCII.
use Rattle.std.specs.Prelude.{Bool, ◌&&◌, cond, ℕ, ◌+◌, ◌/◌, ◌%◌, length, ltb, eqb}
use mathlib.Core.List.{List, [], ◌∷◌, ◌++◌, flat_map}
use Rattle.codes.specs.Answers.{code_number}
use Rattle.printer.specs.State.{CallEffect}
use Rattle.codes.specs.Telnet.{LF}
use Rattle.decimals.specs.Decimals.{decimal}

abbrev pub hex_digit : ℕ → ℕ
hex_digit n = cond (ltb n 10) (48 + n) (55 + n)

unfoldable pub hex_byte : ℕ → List ℕ
hex_byte b = hex_digit (b / 16) ∷ hex_digit (b % 16) ∷ []

-- hex capitals, `-` for none
abbrev pub hex_of : List ℕ → List ℕ
hex_of [] = 45 ∷ []
hex_of (b ∷ bs) = hex_byte b ++ flat_map hex_byte bs

-- `field.item code paper wire`
unfoldable pub line_of : ℕ → ℕ → ℕ → List ℕ → List ℕ → List ℕ
line_of field item code paper wire =
    decimal field ++ (46 ∷ (decimal item ++ (32 ∷ (decimal code ++ (32 ∷ (hex_of paper ++ (32 ∷ (hex_of wire ++ LF ∷ []))))))))

-- an item with no code, no paper and no wire bytes gives no line
abbrev pub shows_nothing : ℕ → List ℕ → List ℕ → Bool
shows_nothing code paper wire = eqb code 0 && eqb (length paper) 0 && eqb (length wire) 0

unfoldable pub shown : ℕ → ℕ → ℕ → List ℕ → List ℕ → List ℕ
shown field item code paper wire = cond (shows_nothing code paper wire) [] (line_of field item code paper wire)

abbrev pub answer_line : ℕ → ℕ → CallEffect → List ℕ
answer_line field item a = shown field item (code_number a.code) a.effect.paper a.effect.wire

-- `bad tape N`
unfoldable pub bad_tape : ℕ → List ℕ
bad_tape n = 98 ∷ 97 ∷ 100 ∷ 32 ∷ 116 ∷ 97 ∷ 112 ∷ 101 ∷ 32 ∷ (decimal n ++ LF ∷ [])
