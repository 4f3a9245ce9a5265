-- The parts that a line is written in.
use Rattle.std.specs.Prelude.{List, [], ◌∷◌, ◌++◌, ℕ}
use Rattle.decimals.specs.Decimals.{number_then}
use Rattle.tape.specs.Lines.{hex_of}

-- bytes, and the byte that parts them from what follows
unfoldable pub hex_then : List ℕ → ℕ → List ℕ
hex_then bytes then = hex_of bytes ++ then ∷ []

-- `field.item code `
abbrev pub numbers_of : ℕ → ℕ → ℕ → List ℕ
numbers_of field item code = (number_then field 46 ++ number_then item 32) ++ number_then code 32

-- `paper wire` and the line's end
abbrev pub bytes_of : List ℕ → List ℕ → List ℕ
bytes_of paper wire = hex_then paper 32 ++ hex_then wire 10
