-- A tape, and the lines that it prints.
use Rattle.std.specs.Prelude.{◌≡◌, List, [], ◌∷◌, ℕ}
use Rattle.tape.specs.Running.{tape_output}

abbrev pub listed_tape : List ℕ
listed_tape =
    0x01 ∷ 0x00 ∷ 0x03 ∷ 0xff ∷ 0xfb ∷ 0x07
    ∷ 0x01 ∷ 0x00 ∷ 0x08 ∷ 0xff ∷ 0xfa ∷ 0x07 ∷ 0x0b ∷ 0x01 ∷ 0x18 ∷ 0xff ∷ 0xf0
    ∷ 0x02 ∷ 0x00 ∷ 0x08 ∷ 0x00 ∷ 0x48 ∷ 0x00 ∷ 0x49 ∷ 0x00 ∷ 0x20 ∷ 0x00 ∷ 0x4a
    ∷ 0x01 ∷ 0x00 ∷ 0x07 ∷ 0x20 ∷ 0xff ∷ 0xfa ∷ 0x07 ∷ 0x00 ∷ 0xff ∷ 0xf0
    ∷ 0x02 ∷ 0x00 ∷ 0x02 ∷ 0x01 ∷ 0x00 ∷ []

abbrev pub listed_lines : List ℕ
listed_lines =
    49 ∷ 46 ∷ 51 ∷ 32 ∷ 48 ∷ 32 ∷ 45 ∷ 32 ∷ 70 ∷ 70 ∷ 70 ∷ 68 ∷ 48 ∷ 55 ∷ 10
    ∷ 51 ∷ 46 ∷ 49 ∷ 32 ∷ 48 ∷ 32 ∷ 52 ∷ 56 ∷ 32 ∷ 45 ∷ 10
    ∷ 51 ∷ 46 ∷ 50 ∷ 32 ∷ 48 ∷ 32 ∷ 52 ∷ 57 ∷ 32 ∷ 45 ∷ 10
    ∷ 51 ∷ 46 ∷ 51 ∷ 32 ∷ 48 ∷ 32 ∷ 45 ∷ 32 ∷ 52 ∷ 56 ∷ 52 ∷ 57 ∷ 50 ∷ 48 ∷ 10
    ∷ 52 ∷ 46 ∷ 49 ∷ 32 ∷ 48 ∷ 32 ∷ 50 ∷ 48 ∷ 32 ∷ 45 ∷ 10
    ∷ 52 ∷ 46 ∷ 55 ∷ 32 ∷ 48 ∷ 32 ∷ 52 ∷ 65 ∷ 32 ∷ 45 ∷ 10
    ∷ 53 ∷ 46 ∷ 49 ∷ 32 ∷ 48 ∷ 32 ∷ 45 ∷ 32 ∷ 52 ∷ 65 ∷ 48 ∷ 68 ∷ 48 ∷ 65 ∷ 10 ∷ []

-- Assumed: nothing. Promised: by computation, the tape gives these seven lines and no more. Ruled out: a constant
-- answer; rules that handle the first byte and then only answer 0.
abbrev pub ListingHolds : Type 0
ListingHolds = tape_output listed_tape ≡ listed_lines
