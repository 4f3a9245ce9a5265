-- What a sender that handles a character makes of it, and so the data of a text item.
use Rattle.std.specs.Prelude.{Bool, true, false, cond, List, [], ◌∷◌, ◌++◌, ℕ, ◌+◌, ◌≤◌, length, replicate, eqb, Option}
use Rattle.lists.specs.Choice.{between}
use Rattle.codes.specs.Telnet.{NUL, HT, LF, FF, CR, SPACE}
use Rattle.codes.specs.Dispositions.{found_by, of_disposition}
use Rattle.codes.specs.declared.Disposition.{Disposition}
use Rattle.codes.specs.declared.Disposition.TheVariants.{Naocrd, Naolfd, Naoffd, Naohtd}
use Rattle.keys.specs.declared.Key.{Key}
use Rattle.keys.specs.declared.Key.TheVariants.{Char, Line, Command}
use Rattle.disposition.specs.declared.Handling.{Handling}
use Rattle.disposition.specs.declared.Handling.TheVariants.{Sender, Receiver}
use Rattle.disposition.specs.ByOption.{Handlings, handling_of}
use Rattle.disposition.specs.Handled.{handled_by}

-- what a value asks of the end that handles: so many NULs, up to the most; to send something else instead of the character; to drop
-- it; to wait behind it. 253 cannot be carried out on one item and, like 0 and 255, adds nothing.
abbrev pub most_nuls : ℕ
most_nuls = 250

abbrev pub replaces : ℕ
replaces = 251

abbrev pub drops : ℕ
drops = 252

abbrev pub waits : ℕ
waits = 254

-- the character that an option is about, and the one option, if any, that a character has
abbrev pub character_of : Disposition → ℕ
character_of Naocrd = CR
character_of Naolfd = LF
character_of Naoffd = FF
character_of Naohtd = HT

unfoldable pub disposition_of : ℕ → Option Disposition
disposition_of b = found_by character_of b

-- its data where nothing is done about it: behind a carriage return stands NUL
abbrev pub character_bytes : Disposition → List ℕ
character_bytes Naocrd = CR ∷ NUL ∷ []
character_bytes Naolfd = LF ∷ []
character_bytes Naoffd = FF ∷ []
character_bytes Naohtd = HT ∷ []

-- house: a form feed is replaced by CR LF and a tab by a space; of the other two 251 is not allowed
abbrev pub replacement : Disposition → List ℕ
replacement Naocrd = character_bytes Naocrd
replacement Naolfd = character_bytes Naolfd
replacement Naoffd = CR ∷ LF ∷ []
replacement Naohtd = SPACE ∷ []

abbrev pub nul_count : Handling → ℕ
nul_count (Sender n) = cond (between 1 most_nuls n) n 0
nul_count (Receiver n) = 0

abbrev pub nuls : ℕ → List ℕ
nuls n = replicate n NUL

-- a character's data, as its option is handled
unfoldable pub character_data : Disposition → Handling → List ℕ
character_data d h =
    cond (handled_by drops h) []
    (cond (handled_by replaces h) (replacement d)
    (character_bytes d ++ nuls (nul_count h)))

-- a Line is CR LF, with the NULs of both behind the LF; without its CR it is a line feed, without its LF a carriage return
unfoldable pub line_data : (returns feeds : Handling) → List ℕ
line_data returns feeds =
    cond (handled_by drops returns) (character_data Naolfd feeds)
    (cond (handled_by drops feeds) (character_data Naocrd returns)
    (CR ∷ LF ∷ nuls (nul_count returns + nul_count feeds)))

-- the data of a text item; a Command has none
unfoldable pub item_data : Handlings → Key → List ℕ
item_data h (Char b) = of_disposition (b ∷ []) (λ d. character_data d (handling_of h d)) (disposition_of b)
item_data h Line = line_data h.naocrd h.naolfd
item_data h (Command c) = []

-- the most data of an item: a Line with 250 NULs for its CR and 250 for its LF
abbrev pub item_room : ℕ
item_room = 502

-- Assumed: any handling of the four options, and any item. Promised: its data is at most 502 bytes. Ruled out: a value
-- over 250 that pads; NULs that are counted twice.
abbrev pub ItemDataFits : Type 0
ItemDataFits = (h : Handlings) (k : Key) → length (item_data h k) ≤ item_room

-- the options that take part in an item; by 254 each of them waits
abbrev pub in_line : Disposition → Bool
in_line Naocrd = true
in_line Naolfd = true
in_line Naoffd = false
in_line Naohtd = false

abbrev pub takes_part : Key → Disposition → Bool
takes_part (Char b) d = eqb b (character_of d)
takes_part Line d = in_line d
takes_part (Command c) d = false

abbrev pub awaits : Handling → Bool
awaits h = handled_by waits h
