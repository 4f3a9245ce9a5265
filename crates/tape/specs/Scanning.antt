-- A reader over a tape: what it stands at, the body there, and where it stands afterwards.
use Rattle.std.specs.Prelude.{◌≡◌, Bool, true, false, cond, List, [], ◌∷◌, ℕ, zero, suc, ◌+◌, ◌≤◌, ◌<◌, length, Some, None, Ok, Err}
use denote.Ref.{Bor}
use Rattle.tape.specs.declared.TapeReader.{TapeReader}
use Rattle.tape.specs.Fields.{Found, head_size, size_at, found_at, part_of, body_at, Scanned, fields_from}
use Rattle.tape.specs.Running.{begun, fields_run, tape_room, tape_output}

-- a field is passed; the end and a bad field are not
abbrev pub place_after : Found → ℕ → ℕ
place_after (Ok (Some f)) at = f.next.at
place_after (Ok None) at = at
place_after (Err e) at = at

-- a reader over a lent tape, at a place
abbrev pub reader_at : Bor (List ℕ) → ℕ → TapeReader
reader_at tape at = record { tape = tape; at = at }

abbrev pub found_by : TapeReader → Found
found_by t = found_at t.tape.now t.at

abbrev pub body_by : TapeReader → List ℕ
body_by t = body_at t.tape.now t.at

-- the reader after it told what it stands at: over the same tape, past a field
abbrev pub reader_after : TapeReader → TapeReader
reader_after t = record { tape = t.tape; at = place_after (found_by t) t.at }

abbrev pub is_field : Found → Bool
is_field (Ok (Some f)) = true
is_field (Ok None) = false
is_field (Err e) = false

-- what it gives at so many calls, one after the other; the end or a bad field is the last
unfoldable pub scanned_by : ℕ → TapeReader → List Scanned
scanned_by zero t = []
scanned_by (suc n) t = record { found = found_by t; body = body_by t } ∷ cond (is_field (found_by t)) (scanned_by n (reader_after t)) []

-- Assumed: any tape and place. Promised: what a reader gives from there are the fields there, each with its body.
-- Ruled out: a reader that passes over a field; a body of another field.
abbrev pub ReaderGivesFields : Type 0
ReaderGivesFields = (n : ℕ) (tape : Bor (List ℕ)) (at : ℕ) → scanned_by n (reader_at tape at) ≡ fields_from n tape.now at

-- Assumed: a tape that is not too long. Promised: its lines are those of what a reader gives from its start on. Ruled
-- out: a run that looks up fields in another way; a field that only the run finds.
abbrev pub ReaderPrints : Type 0
ReaderPrints = (tape : Bor (List ℕ)) → length tape.now ≤ tape_room
    → tape_output tape.now ≡ (fields_run 1 begun (scanned_by (suc (length tape.now)) (reader_at tape 0))).lines

-- a reader after so many calls
unfoldable pub after_calls : ℕ → TapeReader → TapeReader
after_calls zero t = t
after_calls (suc n) t = after_calls n (reader_after t)

-- Assumed: a reader within its tape. Promised: so it is after any number of calls. Ruled out: a place past the end; a
-- length that is believed.
abbrev pub ReaderWithin : Type 0
ReaderWithin = (n : ℕ) (t : TapeReader) → t.at ≤ length t.tape.now → (after_calls n t).at ≤ length t.tape.now

-- Assumed: a reader at a field. Promised: it is further on after the call. Ruled out: a reader that stays at a field;
-- one that goes back.
abbrev pub ReaderMoves : Type 0
ReaderMoves = (t : TapeReader) → is_field (found_by t) ≡ true → t.at < (reader_after t).at

-- Assumed: as many calls as bytes are ahead. Promised: the reader stands at the end or at a bad field. Ruled out: a
-- scan that never ends; one that goes on past a bad field.
abbrev pub ReaderStops : Type 0
ReaderStops = (n : ℕ) (t : TapeReader) → length t.tape.now ≤ t.at + n → is_field (found_by (after_calls n t)) ≡ false

-- Assumed: a place where a field stands. Promised: its body stands after its head, and is as long as the head says.
-- Ruled out: a body one byte short; a body that begins with the head.
abbrev pub BodyWhole : Type 0
BodyWhole = (tape : List ℕ) (at : ℕ) → is_field (found_at tape at) ≡ true
    → (body_at tape at ≡ part_of tape (at + head_size) (size_at tape at)) × (length (body_at tape at) ≡ size_at tape at)
