-- A dozen examples beside the starred ones, each of a rule that is easily got wrong, and some of rules that no answer of a call shows.
-- All other examples are data: the lists of crates/test_calls/data.
use Rattle.std.specs.Prelude.{◌≡◌, true, false, cond, ℕ, ◌+◌, replicate}
use mathlib.Core.List.{List, [], ◌∷◌, ◌++◌, map, flat_map}
use Rattle.keys.specs.declared.Key.TheVariants.{Char, Line, Command}
use Rattle.rcte.specs.Taking.{How}
use Rattle.rcte.specs.Taking.How.{at_once, under}
use Rattle.codes.specs.Answers.{code_number, note_number}
use Rattle.printer.specs.State.{fresh}
use Rattle.printer.specs.NetworkRun.{network_run}
use Rattle.printer.specs.Session as PS
use Rattle.bulletin.specs.Session as BS
use Rattle.printer.specs.UnusedTails.{lent_afresh}
use Rattle.tape.specs.Running.{programs, tape_output}
use Rattle.example_claims.specs.Bytes.{will_rcte, body, reads, types, hears, wire_of, answers_after, paper_behind, wire_behind, notes_behind, sent_behind, sent_codes_behind}
use Rattle.example_claims.specs.Starred.{Example, example, will_bm, sender_handles, receiver_says, sends_item}

-- 80 defined as IAC 1 IAC SB IAC SE
abbrev two_notes : List PS.Call
two_notes = reads (will_bm ++ body (0x13 ∷ 0x01 ∷ 0x80 ∷ 0x06 ∷ 0xff ∷ 0xff ∷ 0x01 ∷ 0xff ∷ 0xff ∷ 0xfa ∷ 0xff ∷ 0xff ∷ 0xf0 ∷ []))

-- 80 defined as IAC
abbrev began_by_macro : List PS.Call
began_by_macro = reads (will_bm ++ body (0x13 ∷ 0x01 ∷ 0x80 ∷ 0x01 ∷ 0xff ∷ 0xff ∷ []))

-- 80 defined as a DEFINE of 80 as B, and C behind it
abbrev redefines_itself : List PS.Call
redefines_itself = reads (will_bm ++ body (0x13 ∷ 0x01 ∷ 0x80 ∷ 0x0a ∷ 0xff ∷ 0xff ∷ 0xfa ∷ 0x13 ∷ 0x01 ∷ 0x80 ∷ 0x01 ∷ 0x42 ∷ 0xff ∷ 0xff ∷ 0xf0 ∷ 0x43 ∷ []))

-- under an order that prints all, without classes, a and b are gathered; X is data, which holds; c waits
abbrev gathers : List PS.Call
gathers = reads (will_rcte ++ body (0x07 ∷ 0x01 ∷ [])) ++ types (0x61 ∷ 0x62 ∷ []) ++ reads (0x58 ∷ []) ++ types (0x63 ∷ [])

-- upper case breaks, lower case is a transmission character, both are skipped
abbrev skips_all : List PS.Call
skips_all = reads (will_rcte ++ body (0x07 ∷ 0x1f ∷ 0x00 ∷ 0x01 ∷ 0x00 ∷ 0x02 ∷ []))

-- how keys were taken up, as numbers
abbrev how_number : How → ℕ
how_number at_once = 0
how_number (under skiptext is_break is_send) = 1 + cond skiptext 8 0 + cond is_break 4 0 + cond is_send 2 0

abbrev how_behind : List PS.Call → List PS.Call → List ℕ
how_behind before calls = map (λ t. how_number t.how) (flat_map (λ a. a.effect.taken) (answers_after before calls))

-- NUL is a macro byte, and the sender handles by two NULs
abbrev nul_is_macro : List BS.Call
nul_is_macro = BS.ask 19 3 4096 ∷ hears (0xff ∷ 0xfd ∷ 0x13 ∷ []) ++ BS.define 0 (0x41 ∷ []) 4096 ∷ hears (body (0x13 ∷ 0x02 ∷ 0x00 ∷ [])) ++ sender_handles ++ receiver_says 2

-- a run of network bytes on a fresh printer end: its code and note, how many bytes it took, and what it printed
abbrev run_of : List ℕ → (paper wire : ℕ) → List ℕ
run_of bytes paper wire =
    let a = network_run fresh bytes paper wire in
    code_number a.code ∷ note_number a.ran.effect.note ∷ a.ran.taken ∷ a.ran.effect.paper

abbrev pub further : List Example
further =
    -- RCTE is refused beside ECHO, not agreed and then silent
    example (wire_of (reads (0xff ∷ 0xfb ∷ 0x01 ∷ 0xff ∷ 0xfb ∷ 0x07 ∷ []))) (0xff ∷ 0xfd ∷ 0x01 ∷ 0xff ∷ 0xfe ∷ 0x07 ∷ [])
    -- a macro's text may give two notes: the first one is told
    ∷ example (notes_behind two_notes (reads (0x80 ∷ []))) (4 ∷ [])
    -- inside a command no byte is replaced, though a macro began it: 81 is defined as 80 itself
    ∷ example (paper_behind began_by_macro (reads (0x80 ∷ 0xfa ∷ 0x13 ∷ 0x01 ∷ 0x81 ∷ 0x01 ∷ 0x80 ∷ 0xff ∷ 0xf0 ∷ 0x81 ∷ []))) (0x80 ∷ [])
    -- a text that redefines its own byte is still read to its end as it was
    ∷ example (paper_behind redefines_itself (reads (0x80 ∷ 0x80 ∷ []))) (0x43 ∷ 0x42 ∷ [])
    -- as RCTE ends the reply goes first, then gathered bytes, then what waits
    ∷ example (wire_behind gathers (reads (0xff ∷ 0xfc ∷ 0x07 ∷ []))) (0xff ∷ 0xfe ∷ 0x07 ∷ 0x61 ∷ 0x62 ∷ 0x63 ∷ [])
    -- demand 3 speaks of how a key is taken up: under RCTE by its orders, at once where RCTE ends
    ∷ example (how_behind skips_all (types (0x61 ∷ 0x31 ∷ 0x41 ∷ 0x62 ∷ []) ++ reads (0xff ∷ 0xfc ∷ 0x07 ∷ []) ++ types (0x61 ∷ []))) (map how_number (under true false true ∷ under true false false ∷ under true true false ∷ at_once ∷ at_once ∷ []))
    -- .. and a key that an order prints is not one that it skips
    ∷ example (how_behind (reads (will_rcte ++ body (0x07 ∷ 0x03 ∷ []))) (types (0x61 ∷ []))) (map how_number (under false false false ∷ []))
    -- the NULs behind a carriage return are data: LITERAL where NUL is a macro byte
    ∷ example (sent_behind nul_is_macro (sends_item Line)) ((0x0d ∷ 0x0a ∷ []) ++ body (0x13 ∷ 0x04 ∷ 0x00 ∷ []) ++ body (0x13 ∷ 0x04 ∷ 0x00 ∷ []))
    -- behind a Line output waits for a data byte, and a bad Command is told before that
    ∷ example (sent_codes_behind (sender_handles ++ receiver_says 254) (sends_item Line ++ sends_item (Char 65) ++ sends_item (Command 1) ++ hears (0x41 ∷ []) ++ sends_item (Char 65))) (0 ∷ 13 ∷ 3 ∷ 0 ∷ 0 ∷ [])
    -- a tape of one byte too many prints `bad tape 0` and nothing else
    ∷ example (tape_output (replicate 65537 4)) (0x62 ∷ 0x61 ∷ 0x64 ∷ 0x20 ∷ 0x74 ∷ 0x61 ∷ 0x70 ∷ 0x65 ∷ 0x20 ∷ 0x30 ∷ 0x0a ∷ [])
    -- the run of a tape lends a buffer afresh where less than the room of code 1 is left of it
    ∷ example (map (λ n. (lent_afresh programs (record { paper = n; wire = 16384 })).paper) (1023 ∷ 1024 ∷ []) ++ map (λ n. (lent_afresh programs (record { paper = 4096; wire = n })).wire) (4095 ∷ 4096 ∷ [])) (4096 ∷ 1024 ∷ 16384 ∷ 4096 ∷ [])
    -- a run of network bytes ends behind a note, and before a byte that would find less than the room of code 1
    ∷ example (run_of (0x41 ∷ 0xff ∷ 0xf0 ∷ 0x42 ∷ []) 4096 16384 ++ run_of (0x41 ∷ 0xff ∷ 0xf1 ∷ 0x42 ∷ 0x43 ∷ []) 1025 4096) (0 ∷ 4 ∷ 3 ∷ 0x41 ∷ [] ++ 0 ∷ 0 ∷ 4 ∷ 0x41 ∷ 0x42 ∷ [])
    ∷ []

-- the claim: the rules give what the examples say
abbrev pub FurtherHold : Type 0
FurtherHold = map (λ e. e.gives) further ≡ map (λ e. e.says) further
