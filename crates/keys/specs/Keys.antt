-- Keys: their classes, their paper and their bytes on the wire.
use Rattle.std.specs.Prelude.{Bool, true, false, ◌||◌, not, cond, List, [], ◌∷◌, ℕ, ◌-◌, ◌/◌, ◌%◌, ◌^◌, leb, eqb, Result, Ok, Err}
use Rattle.lists.specs.Choice.{between, one_of}
use Rattle.codes.specs.Telnet.{plain_command, IAC, NUL, LF, CR}
use Rattle.keys.specs.declared.Key.{Key}
use Rattle.keys.specs.declared.Key.TheVariants.{Char, Line, Command}
use Rattle.keys.specs.declared.NoKey.{NoKey}

-- BS HT LF VT FF CR
abbrev pub format_effectors : List ℕ
format_effectors = 8 ∷ 9 ∷ LF ∷ 11 ∷ 12 ∷ CR ∷ []

-- . , ; : ? !
abbrev pub punctuation : List ℕ
punctuation = 46 ∷ 44 ∷ 59 ∷ 58 ∷ 63 ∷ 33 ∷ []

-- { [ ( < > ) ] }
abbrev pub brackets : List ℕ
brackets = 123 ∷ 91 ∷ 40 ∷ 60 ∷ 62 ∷ 41 ∷ 93 ∷ 125 ∷ []

-- ' " / \ % @ $ & # + - * = ^ _ | ~ and, by request A1, `
abbrev pub symbols : List ℕ
symbols = 39 ∷ 34 ∷ 47 ∷ 92 ∷ 37 ∷ 64 ∷ 36 ∷ 38 ∷ 35 ∷ 43 ∷ 45 ∷ 42 ∷ 61 ∷ 94 ∷ 95 ∷ 124 ∷ 126 ∷ 96 ∷ []

-- a byte's class, 0 for none
unfoldable pub class_of : ℕ → ℕ
class_of b =
    cond (between 65 90 b) 1
    (cond (between 97 122 b) 2
    (cond (between 48 57 b) 3
    (cond (one_of format_effectors b) 4
    (cond (leb b 31 || eqb b 127) 5
    (cond (one_of punctuation b) 6
    (cond (one_of brackets b) 7
    (cond (one_of symbols b) 8
    (cond (eqb b 32) 9 0))))))))

abbrev pub key_class : Key → ℕ
key_class (Char b) = class_of b
key_class Line = 4
key_class (Command c) = 0

abbrev pub is_command : Key → Bool
is_command (Char b) = false
is_command Line = false
is_command (Command c) = true

-- code 3: a Command outside 241 to 249
abbrev pub bad_command : Key → Bool
bad_command (Char b) = false
bad_command Line = false
bad_command (Command c) = not (plain_command c)

-- a class pair is one number, its high byte first, and bit k - 1 of it stands for class k; there are nine classes
abbrev pub class_bit : ℕ → ℕ → ℕ
class_bit pair k = cond (between 1 9 k) (pair / 2 ^ (k - 1) % 2) 0

unfoldable pub in_classes : ℕ → ℕ → Bool
in_classes pair k = eqb (class_bit pair k) 1

-- classes 1 to 4 and 6 to 9 print themselves
unfoldable pub prints : ℕ → Bool
prints b = not (eqb (class_of b) 0 || eqb (class_of b) 5)

unfoldable pub key_paper : Key → List ℕ
key_paper (Char b) = cond (prints b) (b ∷ []) []
key_paper Line = CR ∷ LF ∷ []
key_paper (Command c) = []

unfoldable pub key_wire : Key → List ℕ
key_wire (Char b) = cond (eqb b CR) (CR ∷ NUL ∷ []) (cond (eqb b IAC) (IAC ∷ IAC ∷ []) (b ∷ []))
key_wire Line = CR ∷ LF ∷ []
key_wire (Command c) = IAC ∷ c ∷ []

abbrev pub no_key : NoKey
no_key = record {}

-- a pair (0, b) is Char(b), (1, 0) is Line, (2, c) is Command(c); no other stands for a key
unfoldable pub key_of_pair : ℕ → ℕ → Result Key NoKey
key_of_pair kind b =
    cond (eqb kind 0) (Ok (Char b))
    (cond (eqb kind 2) (Ok (Command b)) (cond (eqb kind 1) (cond (eqb b 0) (Ok Line) (Err no_key)) (Err no_key)))
