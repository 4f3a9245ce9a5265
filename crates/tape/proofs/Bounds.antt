-- How long a line can become.
use mathlib.Core.List.{List, [], ◌∷◌}
use Prim.Native.Nat.{ℕ, ◌+◌, ◌*◌, ◌≤◌}
use native.Mathlib.Omega.{arith}
use lib.ListN.{length, length-append}
use Rattle.lists.proofs.Lengths.{either, flat_map_within}
use Rattle.codes.specs.Answers.{paper_room, wire_room}
use Rattle.tape.specs.Lines.{hex_byte, hex_of, shows_nothing, shown}
use Rattle.tape.specs.Refinement.Parts.{hex_then}
use Rattle.tape.specs.Whole.{line_room, LineFits, ShownFits, BadFits}
use Rattle.decimals.proofs.Digits.{number_length}
use Rattle.tape.proofs.LineParts.{line_parts, bad_parts}

hex_two : (b : ℕ) → length (hex_byte b) ≤ 2
unfolding hex_byte
hex_two b = omega arith

-- two for each byte, and one for none
hex_length : (bytes : List ℕ) (room : ℕ) → length bytes ≤ room → 1 ≤ room → length (hex_of bytes) ≤ 2 * room
hex_length [] room h some = omega arith
hex_length (b ∷ bytes) room h some =
    simp length-append (omega (arith, hex_two b, flat_map_within hex_byte 2 hex_two bytes))

then_length : (bytes : List ℕ) (then room : ℕ) → length bytes ≤ room → 1 ≤ room → length (hex_then bytes then) ≤ 2 * room + 1
unfolding hex_then
then_length bytes then room h some = simp length-append (omega (arith, hex_length bytes room h some))

pub line_fits : LineFits
line_fits field item code paper wire p w =
    rw (line_parts field item code paper wire)
    (simp length-append
    (omega (arith, number_length field 46, number_length item 32, number_length code 32, then_length paper 32 paper_room p (omega arith), then_length wire 10 wire_room w (omega arith))))

pub shown_fits : ShownFits
unfolding shown
shown_fits field item code paper wire p w =
    either (λ (l : List ℕ). length l ≤ line_room) (shows_nothing code paper wire) (omega arith) (line_fits field item code paper wire p w)

pub bad_fits : BadFits
bad_fits n = rw (bad_parts n) (omega (arith, number_length n 10))
