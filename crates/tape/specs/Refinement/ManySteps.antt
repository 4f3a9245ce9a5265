-- Many steps: a run goes on while something is left of it and a line surely fits what is left of the output.
use Rattle.std.specs.Prelude.{◌≡◌, Bool, false, ◌&&◌, not, cond, List, [], ◌++◌, ℕ, zero, suc, ◌+◌, ◌-◌, ◌≤◌, ◌<◌, length, leb}
use Rattle.tape.specs.Running.{tape_output}
use Rattle.tape.specs.Refinement.Steps.{At, Progress, is_over, stepped, start, remaining, ahead}
use Rattle.tape.specs.Whole.{line_room}

abbrev pub goes_on : At → ℕ → Bool
goes_on a room = not (is_over a.place) && leb line_room room

abbrev pub stays : At → Progress
stays a = record { lines = []; at = a }

abbrev pub lines_first : List ℕ → Progress → Progress
lines_first lines g = record { lines = lines ++ g.lines; at = g.at }

unfoldable pub steps_for : ℕ → List ℕ → At → ℕ → Progress
steps_for zero tape a room = stays a
steps_for (suc n) tape a room =
    let g = stepped tape a in
    cond (goes_on a room) (lines_first g.lines (steps_for n tape g.at (room - length g.lines))) (stays a)

-- what is ahead of a run bounds its steps
unfoldable pub ran_for : List ℕ → At → ℕ → Progress
ran_for tape a room = steps_for (ahead tape a.place) tape a room

-- Assumed: any tape, place and room. Promised: the lines of many steps, then what remains, are what remained. Ruled
-- out: a line lost where the output is full; one written twice as the run goes on.
abbrev pub RanPrints : Type 0
RanPrints = (tape : List ℕ) (a : At) (room : ℕ) → remaining tape a ≡ (ran_for tape a room).lines ++ remaining tape (ran_for tape a room).at

-- Assumed: a run that is not over after many steps. Promised: the output had no room for one more line. Ruled out: a
-- run that stops early; one that stops after each line.
abbrev pub RanStops : Type 0
RanStops = (tape : List ℕ) (a : At) (room : ℕ) → is_over (ran_for tape a room).at.place ≡ false → room < length (ran_for tape a room).lines + line_room

-- Assumed: a run that is not over, and room for a line. Promised: less is ahead after it. Ruled out: a caller that
-- goes on for ever; steps that only look.
abbrev pub RanFalls : Type 0
RanFalls = (tape : List ℕ) (a : At) (room : ℕ) → is_over a.place ≡ false → line_room ≤ room
    → ahead tape (ran_for tape a room).at.place < ahead tape a.place

-- Assumed: an output with room for all lines and one more. Promised: a run from the start gives all lines at once.
-- Ruled out: a run that leaves its last line out; one that needs a second call for its end.
abbrev pub RanWhole : Type 0
RanWhole = (tape : List ℕ) (room : ℕ) → length (tape_output tape) + line_room ≤ room → (ran_for tape start room).lines ≡ tape_output tape
