-- A trace of the program: calls on a printer end from a fresh one, each handed the state that the last one returned.
use Rattle.std.specs.Prelude.{◌≡◌, List, map, ℕ, length}
use Rattle.lists.specs.Buffers.{Lent, WroteAtStart}
use Rattle.keys.specs.declared.Key.{Key}
use Rattle.printer.specs.State.{CallEffect}
use Rattle.printer.specs.Calls.{waiting_count}
use Rattle.printer.specs.Session.{Call, called, session}
use Rattle.printer.specs.Refinement.{view_printer, CleanPrinter, WholePrinter, RefinesOutcome, fresh_cells}
use Rattle.printer.specs.declared.Printer.{Printer}
use Rattle.printer.specs.declared.Answer.{Answer}
use Rattle.traces.specs.Chains.{Chain, Beside}

-- a call's arguments besides the state and the two lent buffers
pub data Args : Type 0 where
  network : (byte : ℕ) → Args
  key : Key → Args
  ask : (option way : ℕ) → Args
  suggest : (option value : ℕ) → Args

-- the rules' call: its sizes are those of the lent buffers
abbrev pub with_sizes : Args → ℕ → ℕ → Call
with_sizes (network b) p w = Call.network b p w
with_sizes (key k) p w = Call.key k p w
with_sizes (ask o y) p w = Call.ask o y p w
with_sizes (suggest o v) p w = Call.suggest o v p w

-- a call that the program made: the lent buffers, and its answer
pub record AnsweredCall : Type 0 where
  pub args : Args
  pub paper : Lent
  pub wire : Lent
  pub answer : Answer

abbrev pub call_of : AnsweredCall → Call
call_of m = with_sizes m.args (length m.paper.before) (length m.wire.before)

abbrev pub calls_of : List AnsweredCall → List Call
calls_of ms = map call_of ms

-- what the contract of the call says, the call being made in state s
abbrev pub MeetsContract : Printer → AnsweredCall → Type 0
MeetsContract s m = RefinesOutcome (called (view_printer s) (call_of m)) s m.paper m.wire m.answer

abbrev pub after : AnsweredCall → Printer
after m = m.answer.state

-- calls from state s on
abbrev pub Trace : Printer → List AnsweredCall → Type 0
Trace s ms = Chain MeetsContract after s ms

-- a trace from a fresh end
pub record TraceFromFresh (ms : List AnsweredCall) : Type 0 where
  pub start : Printer
  pub is_fresh : start ≡ fresh_cells
  pub run : Trace start ms

-- a call of the program gave the rule's answer: every field, every byte of both buffers, and nothing left behind in cells
-- that are no longer used
pub record AsRuled (a : CallEffect) (m : AnsweredCall) : Type 0 where
  pub code : m.answer.code ≡ a.code
  pub note : m.answer.note ≡ a.effect.note
  pub paper : WroteAtStart a.effect.paper m.paper m.answer.paper
  pub wire : WroteAtStart a.effect.wire m.wire m.answer.wire
  pub view : view_printer m.answer.state ≡ a.effect.state
  pub waiting : waiting_count (view_printer m.answer.state) ≡ waiting_count a.effect.state
  pub clean : CleanPrinter m.answer.state
  pub whole : WholePrinter m.answer.state

-- Assumed: any trace from a fresh end. Promised: call by call, code, note, counts, both buffers to the last byte, the
-- view of the state and the number of waiting keys are those of the rules' session over the same arguments and sizes;
-- no cell keeps what is no longer used. Ruled out: calls that follow the rules at first and then only answer 0;
-- counts of something else than was written.
abbrev pub TraceIsSession : Type 0
TraceIsSession = (ms : List AnsweredCall) → TraceFromFresh ms → Beside AsRuled (session (calls_of ms)) ms
