-- What a printer end does with a mended capture, and with the capture: the same.
use Rattle.std.specs.Prelude.{◌≡◌, List, ℕ}
use Rattle.printer.specs.State.{PrinterState, Effect}
use Rattle.printer.specs.Network.{bytes_read}
use Rattle.mending.specs.Mending.{mended}
use Rattle.mended_captures.specs.Notes.{at_rest}

-- two steps that did the same, but for the note and what the reader is in the middle of
pub record SameReading (d e : Effect) : Type 0 where
  pub paper : d.paper ≡ e.paper
  pub wire : d.wire ≡ e.wire
  pub taken : d.taken ≡ e.taken
  pub state : at_rest d.state ≡ at_rest e.state

-- Assumed: a printer end between commands, in any other state, whichever options are in force as it reads. Promised: a mended
-- capture, each byte read as it stands, prints, sends, takes up and leaves what the capture does. Ruled out: a DEFINE that is
-- dropped because it would get a REFUSE; a command whose end is taken for text.
abbrev pub ReadsAsBefore : Type 0
ReadsAsBefore = (s : PrinterState) (capture : List ℕ) → SameReading (bytes_read (at_rest s) (mended capture)) (bytes_read (at_rest s) capture)
