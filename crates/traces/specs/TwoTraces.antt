-- Two traces of the program whose calls agree except for typed characters, each of them never taken up or taken up unprinted.
use Rattle.std.specs.Prelude.{◌≡◌, Bool, List, take, drop}
use Rattle.printer.specs.Calls.{waiting_count}
use Rattle.printer.specs.Refinement.{view_printer}
use Rattle.noninterference.specs.TwoSessions.{Agree, UnprintedIn, SameWidthIn}
use Rattle.traces.specs.Chains.{Beside}
use Rattle.traces.specs.Traces.{AnsweredCall, calls_of, TraceFromFresh}

-- the same code, note, paper bytes and number of waiting keys, in the view and as the struct counts them; equal paper buffers
-- are still equal
pub record SameShown (m n : AnsweredCall) : Type 0 where
  pub code : m.answer.code ≡ n.answer.code
  pub note : m.answer.note ≡ n.answer.note
  pub count : m.answer.paper ≡ n.answer.paper
  pub bytes : take m.answer.paper m.paper.after ≡ take n.answer.paper n.paper.after
  pub paper : m.paper.before ≡ n.paper.before → m.paper.after ≡ n.paper.after
  pub waiting : waiting_count (view_printer m.answer.state) ≡ waiting_count (view_printer n.answer.state)
  pub counted : m.answer.state.rcte.count ≡ n.answer.state.rcte.count

-- equally many wire bytes, and equal lent buffers are still equal behind the bytes that were written
pub record SameSize (m n : AnsweredCall) : Type 0 where
  pub count : m.answer.wire ≡ n.answer.wire
  pub paper : m.paper.before ≡ n.paper.before → drop m.answer.paper m.paper.after ≡ drop n.answer.paper n.paper.after
  pub wire : m.wire.before ≡ n.wire.before → drop m.answer.wire m.wire.after ≡ drop n.answer.wire n.wire.after

pub record SameObservedTrace (marks : List Bool) (ms ns : List AnsweredCall) : Type 0 where
  pub shown : Beside SameShown ms ns
  pub sized : SameWidthIn marks (calls_of ms) (calls_of ns) → Beside SameSize ms ns

-- Demand 3 of the program. Assumed: two traces from fresh ends whose calls agree but for marked characters (the marks
-- say which), and the hypotheses of TwoSessions. Promised, call by call: what SameShown lists; what SameSize lists if
-- the pairs are alike in width and as transmission characters. Nothing is said of the wire bytes themselves, nor of
-- the states beyond the number of waiting keys. Ruled out: a skipped character on paper; one that can be told by a
-- count, or by the rest of a buffer.
abbrev pub ProgramTwoSessions : Type 0
ProgramTwoSessions =
    (marks : List Bool) (ms ns : List AnsweredCall) → TraceFromFresh ms → TraceFromFresh ns → Agree marks (calls_of ms) (calls_of ns)
    → UnprintedIn marks (calls_of ms) → UnprintedIn marks (calls_of ns) → SameObservedTrace marks ms ns
