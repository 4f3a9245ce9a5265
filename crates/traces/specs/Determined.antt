-- A clean state is known by its view, to the byte, and so are the states of a trace by its calls.
use Rattle.std.specs.Prelude.{◌≡◌, List}
use Rattle.printer.specs.Calls.{waiting_count}
use Rattle.printer.specs.Refinement.{view_printer, CleanPrinter, WholePrinter}
use Rattle.printer.specs.declared.Printer.{Printer}
use Rattle.traces.specs.Chains.{Beside}
use Rattle.traces.specs.Traces.{AnsweredCall, calls_of, TraceFromFresh}

-- Assumed: a clean state, its arrays of the lengths of their types. Promised: its count of waiting keys is their
-- number. Ruled out: an invented count; a count past its array.
abbrev pub CountIsWaiting : Type 0
CountIsWaiting = (p : Printer) → WholePrinter p → CleanPrinter p → p.rcte.count ≡ waiting_count (view_printer p)

-- Assumed: two clean states of one view, their arrays of the lengths of their types. Promised: they are equal, in
-- every cell. Ruled out: a key that was sent, or a text that was replaced, left in a cell past the count; one key
-- kept as this or that number.
abbrev pub DeterminedToTheByte : Type 0
DeterminedToTheByte = (p q : Printer) → WholePrinter p → WholePrinter q → CleanPrinter p → CleanPrinter q → view_printer p ≡ view_printer q → p ≡ q

abbrev pub SameState : AnsweredCall → AnsweredCall → Type 0
SameState m n = m.answer.state ≡ n.answer.state

-- Assumed: two traces from fresh ends with the same calls. Promised: call by call they return equal states, in every
-- cell. Ruled out: a state that depends on what a buffer held before; one that differs by what was typed and sent
-- long ago.
abbrev pub SameCallsSameStates : Type 0
SameCallsSameStates = (ms ns : List AnsweredCall) → TraceFromFresh ms → TraceFromFresh ns → calls_of ms ≡ calls_of ns → Beside SameState ms ns
