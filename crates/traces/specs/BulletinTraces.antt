-- A trace of the program at the bulletin end: calls from a fresh one, each handed the state that the last one returned.
use Rattle.std.specs.Prelude.{◌≡◌, List, map, ℕ, length}
use Rattle.lists.specs.Buffers.{Lent, WroteAtStart}
use Rattle.keys.specs.declared.Key.{Key}
use Rattle.bulletin.specs.State.{CallEffect}
use Rattle.bulletin.specs.Session.{Call, called, session}
use Rattle.bulletin.specs.Refinement.{view_bulletin, CleanBulletin, WholeBulletin, RefinesOutcome, fresh_cells}
use Rattle.bulletin.specs.declared.Bulletin.{Bulletin}
use Rattle.bulletin.specs.declared.Answer.{Answer}
use Rattle.traces.specs.Chains.{Chain, Beside}

-- a call's arguments besides the state and the lent buffers
pub data Args : Type 0 where
  network : (byte : ℕ) → Args
  ask : (option way : ℕ) → Args
  suggest : (option value : ℕ) → Args
  order : (cmd breaks sends : ℕ) → Args
  define : (byte : ℕ) → List ℕ → Args
  use_macro : (byte : ℕ) → Args
  text : Key → Args
  issue : (number : ℕ) → Args

-- the rules' call: its sizes are those of the lent buffers; only a network byte has one for data
abbrev pub with_sizes : Args → ℕ → ℕ → Call
with_sizes (network b) h w = Call.network b h w
with_sizes (ask o y) h w = Call.ask o y w
with_sizes (suggest o v) h w = Call.suggest o v w
with_sizes (order c breaks sends) h w = Call.order c breaks sends w
with_sizes (define x t) h w = Call.define x t w
with_sizes (use_macro x) h w = Call.use_macro x w
with_sizes (text k) h w = Call.text k w
with_sizes (issue n) h w = Call.issue n w

-- a call that the program made: the lent buffers, and its answer
pub record AnsweredCall : Type 0 where
  pub args : Args
  pub host : Lent
  pub wire : Lent
  pub answer : Answer

abbrev pub call_of : AnsweredCall → Call
call_of m = with_sizes m.args (length m.host.before) (length m.wire.before)

abbrev pub calls_of : List AnsweredCall → List Call
calls_of ms = map call_of ms

-- what the contract of the call says, the call being made in state s; where no buffer for data is lent, the host's own stays
-- as it is
abbrev pub MeetsContract : Bulletin → AnsweredCall → Type 0
MeetsContract s m = RefinesOutcome (called (view_bulletin s) (call_of m)) s m.host m.wire m.answer

abbrev pub after : AnsweredCall → Bulletin
after m = m.answer.state

-- calls from state s on
abbrev pub Trace : Bulletin → List AnsweredCall → Type 0
Trace s ms = Chain MeetsContract after s ms

-- a trace from a fresh end
pub record TraceFromFresh (ms : List AnsweredCall) : Type 0 where
  pub start : Bulletin
  pub is_fresh : start ≡ fresh_cells
  pub run : Trace start ms

-- a call of the program gave the rule's answer: every field, every byte of both buffers, and nothing left behind in cells
-- that are no longer used
pub record AsRuled (a : CallEffect) (m : AnsweredCall) : Type 0 where
  pub code : m.answer.code ≡ a.code
  pub note : m.answer.note ≡ a.effect.note
  pub host : WroteAtStart a.effect.host m.host m.answer.host
  pub wire : WroteAtStart a.effect.wire m.wire m.answer.wire
  pub view : view_bulletin m.answer.state ≡ a.effect.state
  pub clean : CleanBulletin m.answer.state
  pub whole : WholeBulletin m.answer.state

-- Assumed: any trace from a fresh end. Promised: call by call, code, note, counts, both buffers to the last byte and
-- the view of the state are those of the rules' session over the same arguments and sizes; no cell keeps what is no
-- longer used. Ruled out: calls that follow the rules at first and then only answer 0; counts of something else than
-- was written.
abbrev pub TraceIsSession : Type 0
TraceIsSession = (ms : List AnsweredCall) → TraceFromFresh ms → Beside AsRuled (session (calls_of ms)) ms

abbrev pub SameState : AnsweredCall → AnsweredCall → Type 0
SameState m n = m.answer.state ≡ n.answer.state

-- Assumed: two traces from fresh ends with the same calls. Promised: call by call they return equal states, in every
-- cell. Ruled out: a state that depends on what a buffer held before; one that differs by texts that were replaced
-- long ago.
abbrev pub SameCallsSameStates : Type 0
SameCallsSameStates = (ms ns : List AnsweredCall) → TraceFromFresh ms → TraceFromFresh ns → calls_of ms ≡ calls_of ns → Beside SameState ms ns
