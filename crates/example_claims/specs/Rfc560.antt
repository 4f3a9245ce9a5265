-- RFC 560's sample interaction, section D, by these rules: what the host sends and the user types, and the paper and the
-- bytes that it gives. The break classes of RFC 726 hold, and the user's carriage return is a Line.
use Rattle.std.specs.Prelude.{◌≡◌, List, [], ◌∷◌, ◌++◌, ℕ}
use Rattle.printer.specs.Session as PS
use Rattle.example_claims.specs.Bytes.{reads, types, types_line, paper_of, wire_of}

-- IAC SB 7 .. IAC SE
abbrev rcte : List ℕ → List ℕ
rcte body = 0xff ∷ 0xfa ∷ 7 ∷ (body ++ 0xff ∷ 0xf0 ∷ [])

-- TENEX 1.31.18, TENEX EXEC 1.50.2<CR><LF>@
abbrev herald : List ℕ
herald = 84 ∷ 69 ∷ 78 ∷ 69 ∷ 88 ∷ 32 ∷ 49 ∷ 46 ∷ 51 ∷ 49 ∷ 46 ∷ 49 ∷ 56 ∷ 44 ∷ 32 ∷ 84 ∷ 69 ∷ 78 ∷ 69 ∷ 88 ∷ 32 ∷ 69 ∷ 88 ∷ 69 ∷ 67 ∷ 32 ∷ 49 ∷ 46 ∷ 53 ∷ 48 ∷ 46 ∷ 50 ∷ 13 ∷ 10 ∷ 64 ∷ []

-- LOGIN
abbrev login : List ℕ
login = 76 ∷ 79 ∷ 71 ∷ 73 ∷ 78 ∷ 32 ∷ []

-- ARPA
abbrev account : List ℕ
account = 65 ∷ 82 ∷ 80 ∷ 65 ∷ []

-- <CR><LF>(PASSWORD):
abbrev password_prompt : List ℕ
password_prompt = 13 ∷ 10 ∷ 40 ∷ 80 ∷ 65 ∷ 83 ∷ 83 ∷ 87 ∷ 79 ∷ 82 ∷ 68 ∷ 41 ∷ 58 ∷ 32 ∷ []

-- WASHINGTON
abbrev password : List ℕ
password = 87 ∷ 65 ∷ 83 ∷ 72 ∷ 73 ∷ 78 ∷ 71 ∷ 84 ∷ 79 ∷ 78 ∷ 32 ∷ []

-- 1000
abbrev number : List ℕ
number = 49 ∷ 48 ∷ 48 ∷ 48 ∷ []

-- <CR><LF>JOB 17 ON TTY41 7-JUN-73 14:13<CR><LF>@
abbrev job : List ℕ
job = 13 ∷ 10 ∷ 74 ∷ 79 ∷ 66 ∷ 32 ∷ 49 ∷ 55 ∷ 32 ∷ 79 ∷ 78 ∷ 32 ∷ 84 ∷ 84 ∷ 89 ∷ 52 ∷ 49 ∷ 32 ∷ 55 ∷ 45 ∷ 74 ∷ 85 ∷ 78 ∷ 45 ∷ 55 ∷ 51 ∷ 32 ∷ 49 ∷ 52 ∷ 58 ∷ 49 ∷ 51 ∷ 13 ∷ 10 ∷ 64 ∷ []

-- DED<ESC>
abbrev editor : List ℕ
editor = 68 ∷ 69 ∷ 68 ∷ 27 ∷ []

-- .SAV;1
abbrev completed : List ℕ
completed = 46 ∷ 83 ∷ 65 ∷ 86 ∷ 59 ∷ 49 ∷ []

-- <CR><LF><LF>DED 3/14/73 DRO,KRK<CR><LF>:
abbrev editor_herald : List ℕ
editor_herald = 13 ∷ 10 ∷ 10 ∷ 68 ∷ 69 ∷ 68 ∷ 32 ∷ 51 ∷ 47 ∷ 49 ∷ 52 ∷ 47 ∷ 55 ∷ 51 ∷ 32 ∷ 68 ∷ 82 ∷ 79 ∷ 44 ∷ 75 ∷ 82 ∷ 75 ∷ 13 ∷ 10 ∷ 58 ∷ []

-- I
abbrev insert : List ℕ
insert = 73 ∷ []

-- This is a test line.
abbrev first_line : List ℕ
first_line = 84 ∷ 104 ∷ 105 ∷ 115 ∷ 32 ∷ 105 ∷ 115 ∷ 32 ∷ 97 ∷ 32 ∷ 116 ∷ 101 ∷ 115 ∷ 116 ∷ 32 ∷ 108 ∷ 105 ∷ 110 ∷ 101 ∷ 46 ∷ []

-- This is another test line.<^Z>
abbrev second_line : List ℕ
second_line = 84 ∷ 104 ∷ 105 ∷ 115 ∷ 32 ∷ 105 ∷ 115 ∷ 32 ∷ 97 ∷ 110 ∷ 111 ∷ 116 ∷ 104 ∷ 101 ∷ 114 ∷ 32 ∷ 116 ∷ 101 ∷ 115 ∷ 116 ∷ 32 ∷ 108 ∷ 105 ∷ 110 ∷ 101 ∷ 46 ∷ 26 ∷ []

-- Q
abbrev quit : List ℕ
quit = 81 ∷ []

-- I<CR><LF>*
abbrev inserting : List ℕ
inserting = 73 ∷ 13 ∷ 10 ∷ 42 ∷ []

-- <CR><LF>*
abbrev next_line : List ℕ
next_line = 13 ∷ 10 ∷ 42 ∷ []

-- ^Z<CR><LF>:
abbrev inserted : List ℕ
inserted = 94 ∷ 90 ∷ 13 ∷ 10 ∷ 58 ∷ []

-- Q<CR><LF>@
abbrev left : List ℕ
left = 81 ∷ 13 ∷ 10 ∷ 64 ∷ []

abbrev pub interaction : List PS.Call
interaction =
    reads (0xff ∷ 0xfb ∷ 7 ∷ [])
    ++ reads (herald ++ rcte (11 ∷ 1 ∷ 24 ∷ []))
    ++ types login
    ++ types account
    ++ types_line
    ++ reads (32 ∷ rcte (0 ∷ []))
    ++ reads (password_prompt ++ rcte (7 ∷ []))
    ++ types password
    ++ types number
    ++ types_line
    ++ reads (32 ∷ rcte (3 ∷ []))
    ++ reads (job ++ rcte (0 ∷ []))
    ++ types editor
    ++ types_line
    ++ reads (completed ++ rcte (0 ∷ []))
    ++ reads (editor_herald ++ rcte (15 ∷ 1 ∷ 255 ∷ 255 ∷ []))
    ++ types insert
    ++ types first_line
    ++ types_line
    ++ types second_line
    ++ types quit
    ++ reads (inserting ++ rcte (11 ∷ 0 ∷ 24 ∷ []))
    ++ reads (next_line ++ rcte (0 ∷ []))
    ++ reads (inserted ++ rcte (15 ∷ 1 ∷ 255 ∷ 255 ∷ []))
    ++ reads (left ++ rcte (11 ∷ 1 ∷ 24 ∷ []))

-- the password is nowhere on the paper, nor is a break character that the host did not send back
abbrev pub interaction_paper : List ℕ
interaction_paper = 84 ∷ 69 ∷ 78 ∷ 69 ∷ 88 ∷ 32 ∷ 49 ∷ 46 ∷ 51 ∷ 49 ∷ 46 ∷ 49 ∷ 56 ∷ 44 ∷ 32 ∷ 84 ∷ 69 ∷ 78 ∷ 69 ∷ 88 ∷ 32 ∷ 69 ∷ 88 ∷ 69 ∷ 67 ∷ 32 ∷ 49 ∷ 46 ∷ 53 ∷ 48 ∷ 46 ∷ 50 ∷ 13 ∷ 10 ∷ 64 ∷ 76 ∷ 79 ∷ 71 ∷ 73 ∷ 78 ∷ 32 ∷ 65 ∷ 82 ∷ 80 ∷ 65 ∷ 13 ∷ 10 ∷ 40 ∷ 80 ∷ 65 ∷ 83 ∷ 83 ∷ 87 ∷ 79 ∷ 82 ∷ 68 ∷ 41 ∷ 58 ∷ 32 ∷ 32 ∷ 49 ∷ 48 ∷ 48 ∷ 48 ∷ 13 ∷ 10 ∷ 74 ∷ 79 ∷ 66 ∷ 32 ∷ 49 ∷ 55 ∷ 32 ∷ 79 ∷ 78 ∷ 32 ∷ 84 ∷ 84 ∷ 89 ∷ 52 ∷ 49 ∷ 32 ∷ 55 ∷ 45 ∷ 74 ∷ 85 ∷ 78 ∷ 45 ∷ 55 ∷ 51 ∷ 32 ∷ 49 ∷ 52 ∷ 58 ∷ 49 ∷ 51 ∷ 13 ∷ 10 ∷ 64 ∷ 68 ∷ 69 ∷ 68 ∷ 46 ∷ 83 ∷ 65 ∷ 86 ∷ 59 ∷ 49 ∷ 13 ∷ 10 ∷ 10 ∷ 68 ∷ 69 ∷ 68 ∷ 32 ∷ 51 ∷ 47 ∷ 49 ∷ 52 ∷ 47 ∷ 55 ∷ 51 ∷ 32 ∷ 68 ∷ 82 ∷ 79 ∷ 44 ∷ 75 ∷ 82 ∷ 75 ∷ 13 ∷ 10 ∷ 58 ∷ 73 ∷ 13 ∷ 10 ∷ 42 ∷ 84 ∷ 104 ∷ 105 ∷ 115 ∷ 32 ∷ 105 ∷ 115 ∷ 32 ∷ 97 ∷ 32 ∷ 116 ∷ 101 ∷ 115 ∷ 116 ∷ 32 ∷ 108 ∷ 105 ∷ 110 ∷ 101 ∷ 46 ∷ 13 ∷ 10 ∷ 42 ∷ 84 ∷ 104 ∷ 105 ∷ 115 ∷ 32 ∷ 105 ∷ 115 ∷ 32 ∷ 97 ∷ 110 ∷ 111 ∷ 116 ∷ 104 ∷ 101 ∷ 114 ∷ 32 ∷ 116 ∷ 101 ∷ 115 ∷ 116 ∷ 32 ∷ 108 ∷ 105 ∷ 110 ∷ 101 ∷ 46 ∷ 94 ∷ 90 ∷ 13 ∷ 10 ∷ 58 ∷ 81 ∷ 13 ∷ 10 ∷ 64 ∷ []

abbrev pub interaction_wire : List ℕ
interaction_wire = 255 ∷ 253 ∷ 7 ∷ 76 ∷ 79 ∷ 71 ∷ 73 ∷ 78 ∷ 32 ∷ 65 ∷ 82 ∷ 80 ∷ 65 ∷ 13 ∷ 10 ∷ 87 ∷ 65 ∷ 83 ∷ 72 ∷ 73 ∷ 78 ∷ 71 ∷ 84 ∷ 79 ∷ 78 ∷ 32 ∷ 49 ∷ 48 ∷ 48 ∷ 48 ∷ 13 ∷ 10 ∷ 68 ∷ 69 ∷ 68 ∷ 27 ∷ 13 ∷ 10 ∷ 73 ∷ 84 ∷ 104 ∷ 105 ∷ 115 ∷ 32 ∷ 105 ∷ 115 ∷ 32 ∷ 97 ∷ 32 ∷ 116 ∷ 101 ∷ 115 ∷ 116 ∷ 32 ∷ 108 ∷ 105 ∷ 110 ∷ 101 ∷ 46 ∷ 13 ∷ 10 ∷ 84 ∷ 104 ∷ 105 ∷ 115 ∷ 32 ∷ 105 ∷ 115 ∷ 32 ∷ 97 ∷ 110 ∷ 111 ∷ 116 ∷ 104 ∷ 101 ∷ 114 ∷ 32 ∷ 116 ∷ 101 ∷ 115 ∷ 116 ∷ 32 ∷ 108 ∷ 105 ∷ 110 ∷ 101 ∷ 46 ∷ 26 ∷ 81 ∷ []

-- Assumed: nothing. Promised: by computation, all paper and all wire bytes of the session. Ruled out: the password on
-- paper; a key that is not skipped and yet not printed.
abbrev pub InteractionHolds : Type 0
InteractionHolds = (paper_of interaction ≡ interaction_paper) × (wire_of interaction ≡ interaction_wire)
