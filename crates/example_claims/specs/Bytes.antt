-- Short ways to write sessions of network bytes and keys, and what they give in all.
use mathlib.Core.List.{List, [], ◌∷◌, ◌++◌, map, flat_map}
use Rattle.std.specs.Prelude.{ℕ, length, drop}
use Rattle.codes.specs.Answers.{code_number, note_number}
use Rattle.keys.specs.declared.Key.TheVariants.{Char, Line}
use Rattle.printer.specs.State as P
use Rattle.printer.specs.Calls.{waiting_count}
use Rattle.printer.specs.Session as PS
use Rattle.bulletin.specs.State as B
use Rattle.bulletin.specs.Session as BS

-- WILL RCTE
abbrev pub will_rcte : List ℕ
will_rcte = 0xff ∷ 0xfb ∷ 0x07 ∷ []

-- IAC SB, the body, IAC SE; a 255 of the body stands doubled in it
abbrev pub body : List ℕ → List ℕ
body bytes = 0xff ∷ 0xfa ∷ (bytes ++ (0xff ∷ 0xf0 ∷ []))

-- at the printer end, in buffers that are large enough
abbrev pub reads : List ℕ → List PS.Call
reads bytes = map (λ b. PS.network b 1024 4096) bytes

abbrev pub types : List ℕ → List PS.Call
types bytes = map (λ b. PS.key (Char b) 1024 4096) bytes

abbrev pub types_line : List PS.Call
types_line = PS.key Line 1024 4096 ∷ []

abbrev pub hears : List ℕ → List BS.Call
hears bytes = map (λ b. BS.network b 1024 4096) bytes

-- all paper, all wire bytes and all notes of a session
abbrev pub paper_of : List PS.Call → List ℕ
paper_of cs = flat_map (λ a. a.effect.paper) (PS.session cs)

abbrev pub wire_of : List PS.Call → List ℕ
wire_of cs = flat_map (λ a. a.effect.wire) (PS.session cs)

abbrev pub notes_of : List PS.Call → List ℕ
notes_of cs = map (λ a. note_number a.effect.note) (PS.session cs)

abbrev pub bulletin_wire_of : List BS.Call → List ℕ
bulletin_wire_of cs = flat_map (λ a. a.effect.wire) (BS.session cs)

-- the answers to calls that stand behind others in a session, and what they give
abbrev pub answers_after : List PS.Call → List PS.Call → List P.CallEffect
answers_after before calls = drop (length before) (PS.session (before ++ calls))

abbrev pub paper_behind : List PS.Call → List PS.Call → List ℕ
paper_behind before calls = flat_map (λ a. a.effect.paper) (answers_after before calls)

abbrev pub wire_behind : List PS.Call → List PS.Call → List ℕ
wire_behind before calls = flat_map (λ a. a.effect.wire) (answers_after before calls)

abbrev pub notes_behind : List PS.Call → List PS.Call → List ℕ
notes_behind before calls = map (λ a. note_number a.effect.note) (answers_after before calls)

abbrev pub waiting_behind : List PS.Call → List PS.Call → List ℕ
waiting_behind before calls = map (λ a. waiting_count a.effect.state) (answers_after before calls)

abbrev pub bulletin_behind : List BS.Call → List BS.Call → List B.CallEffect
bulletin_behind before calls = drop (length before) (BS.session (before ++ calls))

abbrev pub sent_behind : List BS.Call → List BS.Call → List ℕ
sent_behind before calls = flat_map (λ a. a.effect.wire) (bulletin_behind before calls)

abbrev pub sent_codes_behind : List BS.Call → List BS.Call → List ℕ
sent_codes_behind before calls = map (λ a. code_number a.code) (bulletin_behind before calls)
