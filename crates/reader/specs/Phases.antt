-- A byte that moves the reader from phase to phase, and leaves the body that it keeps alone.
use Rattle.std.specs.Prelude.{◌≡◌, Option, Some, None, cond, ℕ, eqb}
use Rattle.codes.specs.Telnet.{IAC, SB, plain_command, WILL, WONT, DO, DONT}
use Rattle.codes.specs.declared.Verb.TheVariants.{Will, Wont, Do, Dont}
use Rattle.reader.specs.declared.Phase.{Phase}
use Rattle.reader.specs.declared.Phase.TheVariants.{Between, AfterIac, AfterVerb, InBody, InBodyAfterIac}
use Rattle.reader.specs.declared.Item.{Item}
use Rattle.reader.specs.declared.Item.TheVariants.{Nothing, Data, Negotiated, StrayCommand}
use Rattle.reader.specs.declared.PhaseRead.{PhaseRead}
use Rattle.reader.specs.Reading.{ReaderState, read, gives, in_phase}

abbrev pub moves : Item → Phase → Option PhaseRead
moves i p = Some (record { item = i; phase = p })

-- a byte that begins a body, or belongs to one
abbrev pub of_body : Option PhaseRead
of_body = None

unfoldable pub command_phase : ℕ → Option PhaseRead
command_phase b =
    cond (eqb b IAC) (moves (Data IAC) Between)
    (cond (eqb b SB) of_body
    (cond (eqb b WILL) (moves Nothing (AfterVerb Will))
    (cond (eqb b WONT) (moves Nothing (AfterVerb Wont))
    (cond (eqb b DO) (moves Nothing (AfterVerb Do))
    (cond (eqb b DONT) (moves Nothing (AfterVerb Dont))
    (cond (plain_command b) (moves Nothing Between) (moves StrayCommand Between)))))))

abbrev pub phase_read : Phase → ℕ → Option PhaseRead
phase_read Between b = cond (eqb b IAC) (moves Nothing AfterIac) (moves (Data b) Between)
phase_read AfterIac b = command_phase b
phase_read (AfterVerb v) b = moves (Negotiated v b) Between
phase_read InBody b = of_body
phase_read InBodyAfterIac b = of_body

-- Assumed: nothing. Promised: where the phase alone moves, that is how the reader reads the byte.
abbrev pub PhaseAlone : Type 0
PhaseAlone = (r : ReaderState) (b : ℕ) (m : PhaseRead) → phase_read r.phase b ≡ Some m → read r b ≡ gives m.item (in_phase r m.phase)
