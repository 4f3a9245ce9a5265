-- The two ends as the claims speak of them: by their answers to calls.
use mathlib.Core.List.{List, [], ◌∷◌, flat_map}
use Rattle.std.specs.Prelude.{ℕ, ◌≤◌}
use Rattle.codes.specs.Answers.{paper_room, wire_room}
use Rattle.printer.specs.State as P
use Rattle.printer.specs.Session as PS
use Rattle.bulletin.specs.State as B
use Rattle.bulletin.specs.Session as BS

-- the claims name the ends in these three definitions alone
abbrev pub printer_answers : P.PrinterState → List PS.Call → List P.CallEffect
printer_answers p calls = PS.answers_from p calls

abbrev pub bulletin_answer : B.BulletinState → BS.Call → B.CallEffect
bulletin_answer b call = BS.called b call

abbrev pub bulletin_answers : B.BulletinState → List BS.Call → List B.CallEffect
bulletin_answers b calls = BS.answers_from b calls

abbrev pub printer_paper : List P.CallEffect → List ℕ
printer_paper answers = flat_map (λ a. a.effect.paper) answers

abbrev pub printer_wire : List P.CallEffect → List ℕ
printer_wire answers = flat_map (λ a. a.effect.wire) answers

abbrev pub bulletin_wire : List B.CallEffect → List ℕ
bulletin_wire answers = flat_map (λ a. a.effect.wire) answers

-- the state behind answers: that of the last one, or where there is none the state before them
unfoldable pub printer_after : P.PrinterState → List P.CallEffect → P.PrinterState
printer_after p [] = p
printer_after p (a ∷ answers) = printer_after a.effect.state answers

unfoldable pub bulletin_after : B.BulletinState → List B.CallEffect → B.BulletinState
bulletin_after b [] = b
bulletin_after b (a ∷ answers) = bulletin_after a.effect.state answers

-- the bulletin end behind a session
abbrev pub reached : List BS.Call → B.BulletinState
reached session = bulletin_after B.fresh (bulletin_answers B.fresh session)

-- Network calls of exactly these bytes, in their order. Each has the two buffers that code 1 asks for; their sizes are else free, and
-- may differ from call to call.
pub data NetworkCalls : List ℕ → List PS.Call → Type 0 where
  none : NetworkCalls [] []
  byte : {x : ℕ} {bytes : List ℕ} {calls : List PS.Call} {paper wire : ℕ} → paper_room ≤ paper → wire_room ≤ wire
      → NetworkCalls bytes calls → NetworkCalls (x ∷ bytes) (PS.network x paper wire ∷ calls)
