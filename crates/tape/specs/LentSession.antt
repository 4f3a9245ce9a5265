-- The run of a tape is a session of the printer end in lent tails (printer/UnusedTails), with buffers of 4,096 and 16,384 bytes. Over
-- all fields, its lines are those of the answers to the calls that the items stand for.
use Rattle.std.specs.Prelude.{◌≡◌, ℕ, ◌+◌, ◌≤◌, length, Option, Some, None, Ok, Err}
use mathlib.Core.List.{List, [], ◌∷◌, ◌++◌, flat_map}
use Rattle.codes.specs.Answers.{code_number}
use Rattle.codes.specs.declared.Code.TheVariants.{BadCommand}
use Rattle.printer.specs.State.{fresh, CallEffect}
use Rattle.printer.specs.Session.{Call, reached, session}
use Rattle.printer.specs.Session.Call.{network, key, ask}
use Rattle.printer.specs.UnusedTails as T
use Rattle.keys.specs.declared.Key.{Key}
use Rattle.tape.specs.declared.Item.{Item}
use Rattle.tape.specs.declared.Item.TheVariants.{NetworkByte, KeyPair, AskPair}
use Rattle.tape.specs.Fields.{Found, Scanned, fields_at, items_of}
use Rattle.tape.specs.Lines.{shown, answer_line, bad_tape}
use Rattle.tape.specs.Running.{programs, pair_of, tape_run, tape_room, tape_output}

-- the call that an item stands for, its sizes left to the tails; a pair that is no key stands for none
abbrev pub pair_calls : Option Key → List Call
pair_calls (Some k) = key k 0 0 ∷ []
pair_calls None = []

abbrev pub calls_of : Item → List Call
calls_of (NetworkByte b) = network b 0 0 ∷ []
calls_of (KeyPair kind v) = pair_calls (pair_of kind v)
calls_of (AskPair option way) = ask option way 0 0 ∷ []

-- an item, with its field's number and its own
pub record Placed : Type 0 where
  pub field : ℕ
  pub number : ℕ
  pub item : Item

unfoldable pub placed_from : ℕ → ℕ → List Item → List Placed
placed_from field n [] = []
placed_from field n (i ∷ is) = record { field = field; number = n; item = i } ∷ placed_from field (n + 1) is

-- the items of fields, from a field's number on, up to the end or a bad field
abbrev pub placed_then : ℕ → Found → List ℕ → List Placed → List Placed
placed_then field (Ok None) body later = []
placed_then field (Err e) body later = []
placed_then field (Ok (Some f)) body later = placed_from field 1 (items_of f.tag body) ++ later

unfoldable pub placed_in : ℕ → List Scanned → List Placed
placed_in field [] = []
placed_in field (s ∷ ss) = placed_then field s.found s.body (placed_in (field + 1) ss)

-- .. and what is printed behind them: a bad field's number
abbrev pub last_then : ℕ → Found → List ℕ → List ℕ
last_then field (Ok None) later = []
last_then field (Err e) later = bad_tape field
last_then field (Ok (Some f)) later = later

unfoldable pub last_in : ℕ → List Scanned → List ℕ
last_in field [] = []
last_in field (s ∷ ss) = last_then field s.found (last_in (field + 1) ss)

-- an item's line is that of the next answer; one that stands for no call takes none, and is code 3
abbrev pub line_then : Placed → List Call → (List CallEffect → List ℕ) → List CallEffect → List ℕ
line_then p [] later answers = shown p.field p.number (code_number BadCommand) [] [] ++ later answers
line_then p (c ∷ cs) later [] = []
line_then p (c ∷ cs) later (a ∷ answers) = answer_line p.field p.number a ++ later answers

unfoldable pub lines_of : List Placed → List CallEffect → List ℕ
lines_of [] answers = []
lines_of (p ∷ ps) answers = line_then p (calls_of p.item) (lines_of ps) answers

abbrev pub calls_in : List Placed → List Call
calls_in ps = flat_map (λ p. calls_of p.item) ps

abbrev pub placed_on : List ℕ → List Placed
placed_on tape = placed_in 1 (fields_at tape 0)

-- the calls as the run makes them
abbrev pub calls_made : List ℕ → List Call
calls_made tape = T.lent_session programs (calls_in (placed_on tape))

-- what is printed, and the run after it: the printer end, and the tails that a next call would be lent
pub record IsLent (tape : List ℕ) : Type 0 where
  pub lines : tape_output tape ≡ lines_of (placed_on tape) (session (calls_made tape)) ++ last_in 1 (fields_at tape 0)
  pub printer : (tape_run tape).run.printer ≡ reached fresh (calls_made tape)
  pub tails : T.lent_afresh programs (tape_run tape).run.tails ≡ T.lent_afresh programs (T.tails_after programs fresh programs (calls_in (placed_on tape)))

-- Assumed: a tape that is not too long. Promised: its lines are those of the answers to the calls that its items
-- stand for, each in the tails that the one before left (a pair that is no key is code 3), then that of a bad field;
-- the printer end and the tails after it are the session's. Ruled out: a run that gives each item a whole buffer; one
-- that takes a pair of no key for a call.
abbrev pub RunIsLent : Type 0
RunIsLent = (tape : List ℕ) → length tape ≤ tape_room → IsLent tape
