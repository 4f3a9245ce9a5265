-- A class of the code as the rule's number, and keys as numbers: a queue in the code keeps them so.
use Rattle.std.specs.Prelude.{cond, ℕ, ◌+◌, ◌%◌, ◌<◌, ltb, Option, Some, None}
use Rattle.keys.specs.declared.classes.Class.{Class}
use Rattle.keys.specs.declared.classes.Class.TheVariants.{Upper, Lower, Digit, FormatEffector, Control, Punctuation, Bracket, Symbol, Space}
use Rattle.keys.specs.declared.Key.{Key}
use Rattle.keys.specs.declared.Key.TheVariants.{Char, Line, Command}

-- the number of a class, 0 for none
abbrev pub class_number : Option Class → ℕ
class_number None = 0
class_number (Some Upper) = 1
class_number (Some Lower) = 2
class_number (Some Digit) = 3
class_number (Some FormatEffector) = 4
class_number (Some Control) = 5
class_number (Some Punctuation) = 6
class_number (Some Bracket) = 7
class_number (Some Symbol) = 8
class_number (Some Space) = 9

abbrev pub key_number : Key → ℕ
key_number (Char b) = b
key_number Line = 256
key_number (Command c) = 512 + c

-- every number is a key
unfoldable pub key_of_number : ℕ → Key
key_of_number n = cond (ltb n 256) (Char n) (cond (ltb n 512) Line (Command (n % 256)))

-- a key whose numbers are bytes, as every key of the code is
abbrev pub ByteKey : Key → Type 0
ByteKey (Char b) = b < 256
ByteKey Line = Unit {0}
ByteKey (Command c) = c < 256
