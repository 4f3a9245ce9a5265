-- Telnet's numbers: commands of RFC 854 and the options that are named.
use Rattle.std.specs.Prelude.{Bool, true, false, not, ℕ, eqb}
use Rattle.lists.specs.Choice.{between}
use Rattle.codes.specs.declared.Verb.{Verb}
use Rattle.codes.specs.declared.Verb.TheVariants.{Will, Wont, Do, Dont}
use Rattle.codes.specs.declared.Whose.{Whose}
use Rattle.codes.specs.declared.Whose.TheVariants.{His, Ours}

abbrev pub SE : ℕ
SE = 240

abbrev pub NOP : ℕ
NOP = 241

abbrev pub GA : ℕ
GA = 249

abbrev pub SB : ℕ
SB = 250

abbrev pub WILL : ℕ
WILL = 251

abbrev pub WONT : ℕ
WONT = 252

abbrev pub DO : ℕ
DO = 253

abbrev pub DONT : ℕ
DONT = 254

abbrev pub IAC : ℕ
IAC = 255

-- the characters that an option disposes of, and what goes with them: a Line is CR LF, Char(13) is CR NUL
abbrev pub NUL : ℕ
NUL = 0

abbrev pub HT : ℕ
HT = 9

abbrev pub LF : ℕ
LF = 10

abbrev pub FF : ℕ
FF = 12

abbrev pub CR : ℕ
CR = 13

abbrev pub SPACE : ℕ
SPACE = 32

-- any byte but IAC
abbrev pub not_iac : ℕ → Bool
not_iac b = not (eqb b IAC)

abbrev pub ECHO : ℕ
ECHO = 1

abbrev pub SGA : ℕ
SGA = 3

abbrev pub RCTE : ℕ
RCTE = 7

abbrev pub NAOCRD : ℕ
NAOCRD = 10

abbrev pub NAOHTD : ℕ
NAOHTD = 12

abbrev pub NAOFFD : ℕ
NAOFFD = 13

abbrev pub NAOLFD : ℕ
NAOLFD = 16

abbrev pub BM : ℕ
BM = 19

-- the subcommands of BM
abbrev pub DEFINE : ℕ
DEFINE = 1

abbrev pub ACCEPT : ℕ
ACCEPT = 2

abbrev pub REFUSE : ℕ
REFUSE = 3

abbrev pub LITERAL : ℕ
LITERAL = 4

-- house: RFC 735 gives no number
abbrev pub PLEASECANCEL : ℕ
PLEASECANCEL = 5

-- the two ways of a disposition's body: from the data receiver, the printer end, and from the data sender, the bulletin end
abbrev pub DR : ℕ
DR = 0

abbrev pub DS : ℕ
DS = 1

abbrev pub verb_number : Verb → ℕ
verb_number Will = WILL
verb_number Wont = WONT
verb_number Do = DO
verb_number Dont = DONT

-- a command that a key or a text item may be, and that does nothing when it is read
abbrev pub plain_command : ℕ → Bool
plain_command c = between NOP GA c

-- WILL and WONT are about the other end's side, DO and DONT about this end's
abbrev pub whose_of : Verb → Whose
whose_of Will = His
whose_of Wont = His
whose_of Do = Ours
whose_of Dont = Ours

-- a request is WILL or DO
abbrev pub enables : Verb → Bool
enables Will = true
enables Wont = false
enables Do = true
enables Dont = false

-- the side as the end across the line sees it
abbrev pub other_side : Whose → Whose
other_side His = Ours
other_side Ours = His
