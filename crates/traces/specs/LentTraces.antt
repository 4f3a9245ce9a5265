-- Runs on a lent record: calls of an end on one record, each finding there the state that the last one left. They do the same
-- there as by value.
use Rattle.std.specs.Prelude.{◌≡◌, Bool, false, ℕ}
use mathlib.Core.List.{List, map, flat_map}
use borrow.Fn.World.{World, ArgsD, ResD}
use contract.Lifetimes.{Lfts}
use contract.Monad.{fact}
use denote.Triple.Clauses.{AtExit}
use Rattle.lists.specs.Buffers.{Lent, lent_as, untouched}
use Rattle.codes.specs.declared.Code.TheVariants.{Done}
use Rattle.printer.specs.Session as PS
use Rattle.printer.specs.Refinement as PK
use Rattle.printer.specs.Refinement.{view_printer}
use Rattle.printer.specs.declared.Printer.{Printer}
use Rattle.bulletin.specs.Session as BS
use Rattle.bulletin.specs.Refinement as BK
use Rattle.bulletin.specs.Refinement.{view_bulletin}
use Rattle.bulletin.specs.declared.Bulletin.{Bulletin}
use Rattle.sessions.specs.Refinement.{printer_answer, bulletin_answer}
use Rattle.sessions.specs.declared.PrinterOutcome.{PrinterOutcome}
use Rattle.sessions.specs.declared.BulletinOutcome.{BulletinOutcome}
use Rattle.sessions.specs.contracts.printer_end.network_byte as printer-network-byte
use Rattle.sessions.specs.contracts.printer_end.press as printer-press
use Rattle.sessions.specs.contracts.printer_end.ask as printer-ask
use Rattle.sessions.specs.contracts.printer_end.suggest as printer-suggest
use Rattle.sessions.specs.contracts.bulletin_end.network_byte as bulletin-network-byte
use Rattle.sessions.specs.contracts.bulletin_end.ask as bulletin-ask
use Rattle.sessions.specs.contracts.bulletin_end.suggest as bulletin-suggest
use Rattle.sessions.specs.contracts.bulletin_end.order as bulletin-order
use Rattle.sessions.specs.contracts.bulletin_end.define as bulletin-define
use Rattle.sessions.specs.contracts.bulletin_end.use_macro as bulletin-use-macro
use Rattle.sessions.specs.contracts.bulletin_end.text_item as bulletin-text-item
use Rattle.sessions.specs.contracts.bulletin_end.issue as bulletin-issue
use Rattle.read_back.specs.Ends.{NetworkCalls}
use Rattle.read_back.specs.TextSent.{Sending, as_call, all_data}
use Rattle.read_back.specs.ReadBack.{Demanded, Agreed, IacFree}
use Rattle.noninterference.specs.TwoSessions.{Agree, UnprintedIn}
use Rattle.traces.specs.Chains.{Chain, Beside, last_of}
use Rattle.traces.specs.Traces as P
use Rattle.traces.specs.BulletinTraces as B
use Rattle.traces.specs.BulletinContracts.{lends_data, MeetsContractOnWire}
use Rattle.traces.specs.TwoTraces.{SameObservedTrace}
use Rattle.traces.specs.BothEnds.{sent_bytes, Delivered}

-- The printer end

-- a call on a lent Printer: the lent buffers, what it returned, and the state that it left in the record
pub record PrinterLent : Type 0 where
  pub args : P.Args
  pub paper : Lent
  pub wire : Lent
  pub outcome : PrinterOutcome
  pub next : Printer

-- the call by value with that answer
abbrev pub printer_by_value : PrinterLent → P.AnsweredCall
printer_by_value m = record {
  args = m.args;
  paper = m.paper;
  wire = m.wire;
  answer = printer_answer m.outcome m.next;
}

abbrev pub printer_calls_by_value : List PrinterLent → List P.AnsweredCall
printer_calls_by_value ms = map printer_by_value ms

abbrev pub printer_lent : P.Args → (paper wire : Lent) → PrinterOutcome → Printer → PrinterLent
printer_lent args paper wire r s = record { args = args; paper = paper; wire = wire; outcome = r; next = s }

-- what its contract says, the record holding s as it is called
abbrev pub PrinterMeetsContract : Printer → PrinterLent → Type 0
PrinterMeetsContract s m =
    PK.RefinesOutcome (PS.called (view_printer s) (P.call_of (printer_by_value m))) s m.paper m.wire (printer_answer m.outcome m.next)

-- calls on a record that holds s
abbrev pub PrinterLentTrace : Printer → List PrinterLent → Type 0
PrinterLentTrace s ms = Chain PrinterMeetsContract (λ m. m.next) s ms

pub record PrinterLentFromFresh (ms : List PrinterLent) : Type 0 where
  pub start : Printer
  pub is_fresh : start ≡ PK.fresh_cells
  pub run : PrinterLentTrace start ms

-- Assumed: any trace on a record. Promised: it is a trace by value, with the same arguments, buffers, answers and states.
-- Ruled out: a call that does not store the new state; one that stores another than its answer is by.
abbrev pub PrinterLentIsTrace : Type 0
PrinterLentIsTrace = (s : Printer) (ms : List PrinterLent) → PrinterLentTrace s ms → P.Trace s (printer_calls_by_value ms)

-- Assumed: a trace on a record that was fresh. Promised: its answers are those of the rules' session. Ruled out: a
-- refusal that changes the record; the counts of paper and wire exchanged.
abbrev pub PrinterLentIsSession : Type 0
PrinterLentIsSession = (ms : List PrinterLent) → PrinterLentFromFresh ms → Beside P.AsRuled (PS.session (P.calls_of (printer_calls_by_value ms))) (printer_calls_by_value ms)

-- two calls by value with the same arguments and the same buffers
pub record PrinterSameGiven (m n : P.AnsweredCall) : Type 0 where
  pub args : m.args ≡ n.args
  pub paper : m.paper.before ≡ n.paper.before
  pub wire : m.wire.before ≡ n.wire.before

-- Assumed: a trace on a record and one by value, both from fresh ends, given the same arguments and buffers. Promised:
-- they are the same in code, note, counts, and every byte of the buffers and of the state. Ruled out: a call on a
-- record that writes less; one that leaves other cells behind.
abbrev pub PrinterLentAsByValue : Type 0
PrinterLentAsByValue =
    (ms : List PrinterLent) (ns : List P.AnsweredCall) → PrinterLentFromFresh ms → P.TraceFromFresh ns → Beside PrinterSameGiven (printer_calls_by_value ms) ns
    → printer_calls_by_value ms ≡ ns

-- a refused call leaves the record as it was, every byte, and its buffers too
pub record PrinterUnchanged (s : Printer) (m : PrinterLent) : Type 0 where
  pub state : m.next ≡ s
  pub paper : m.paper.after ≡ m.paper.before
  pub wire : m.wire.after ≡ m.wire.before

-- Assumed: a call with another code than 0. Promised: record and buffers are as they were, every byte. Ruled out: a
-- refusal that stores a state; one that had begun to write.
abbrev pub PrinterRefusedUnchanged : Type 0
PrinterRefusedUnchanged = (s : Printer) (m : PrinterLent) → PrinterMeetsContract s m → (m.outcome.code ≡ Done → ⊥) → PrinterUnchanged s m

-- Demand 3 of two traces, each on a record of its own. Assumed and promised: as of ProgramTwoSessions. Ruled out
-- besides: a record through which a skipped character shows in a later call; a state that a call does not store.
abbrev pub LentTwoSessions : Type 0
LentTwoSessions =
    (marks : List Bool) (ms ns : List PrinterLent) → PrinterLentFromFresh ms → PrinterLentFromFresh ns
    → Agree marks (P.calls_of (printer_calls_by_value ms)) (P.calls_of (printer_calls_by_value ns))
    → UnprintedIn marks (P.calls_of (printer_calls_by_value ms)) → UnprintedIn marks (P.calls_of (printer_calls_by_value ns))
    → SameObservedTrace marks (printer_calls_by_value ms) (printer_calls_by_value ns)

-- The bulletin end; where no buffer for data is lent, the host's own stays as it is

-- a call on a lent Bulletin: the lent buffers, what it returned, and the state that it left in the record
pub record BulletinLent : Type 0 where
  pub args : B.Args
  pub host : Lent
  pub wire : Lent
  pub outcome : BulletinOutcome
  pub next : Bulletin

-- the call by value with that answer
abbrev pub bulletin_by_value : BulletinLent → B.AnsweredCall
bulletin_by_value m = record {
  args = m.args;
  host = m.host;
  wire = m.wire;
  answer = bulletin_answer m.outcome m.next;
}

abbrev pub bulletin_calls_by_value : List BulletinLent → List B.AnsweredCall
bulletin_calls_by_value ms = map bulletin_by_value ms

abbrev pub bulletin_lent : B.Args → (host wire : Lent) → BulletinOutcome → Bulletin → BulletinLent
bulletin_lent args host wire r s = record { args = args; host = host; wire = wire; outcome = r; next = s }

-- what its contract says, the record holding s as it is called
abbrev pub BulletinMeetsContract : Bulletin → BulletinLent → Type 0
BulletinMeetsContract s m =
    BK.RefinesOutcome (BS.called (view_bulletin s) (B.call_of (bulletin_by_value m))) s m.host m.wire (bulletin_answer m.outcome m.next)

-- calls on a record that holds s
abbrev pub BulletinLentTrace : Bulletin → List BulletinLent → Type 0
BulletinLentTrace s ms = Chain BulletinMeetsContract (λ m. m.next) s ms

pub record BulletinLentFromFresh (ms : List BulletinLent) : Type 0 where
  pub start : Bulletin
  pub is_fresh : start ≡ BK.fresh_cells
  pub run : BulletinLentTrace start ms

-- Assumed: any trace on a record. Promised: it is a trace by value, with the same arguments, buffers, answers and states.
-- Ruled out: a call that does not store the new state; one that stores another than its answer is by.
abbrev pub BulletinLentIsTrace : Type 0
BulletinLentIsTrace = (s : Bulletin) (ms : List BulletinLent) → BulletinLentTrace s ms → B.Trace s (bulletin_calls_by_value ms)

-- Assumed: a trace on a record that was fresh. Promised: its answers are those of the rules' session. Ruled out: a
-- refusal that changes the record; the counts of data and wire exchanged.
abbrev pub BulletinLentIsSession : Type 0
BulletinLentIsSession = (ms : List BulletinLent) → BulletinLentFromFresh ms → Beside B.AsRuled (BS.session (B.calls_of (bulletin_calls_by_value ms))) (bulletin_calls_by_value ms)

-- two calls by value with the same arguments and the same buffers
pub record BulletinSameGiven (m n : B.AnsweredCall) : Type 0 where
  pub args : m.args ≡ n.args
  pub host : m.host.before ≡ n.host.before
  pub wire : m.wire.before ≡ n.wire.before

-- Assumed: a trace on a record and one by value, both from fresh ends, given the same arguments and buffers. Promised:
-- they are the same in code, note, counts, and every byte of the buffers and of the state. Ruled out: a call on a
-- record that writes less; one that leaves other cells behind.
abbrev pub BulletinLentAsByValue : Type 0
BulletinLentAsByValue =
    (ms : List BulletinLent) (ns : List B.AnsweredCall) → BulletinLentFromFresh ms → B.TraceFromFresh ns → Beside BulletinSameGiven (bulletin_calls_by_value ms) ns
    → bulletin_calls_by_value ms ≡ ns

-- a refused call leaves the record as it was, every byte, and its buffers too
pub record BulletinUnchanged (s : Bulletin) (m : BulletinLent) : Type 0 where
  pub state : m.next ≡ s
  pub host : m.host.after ≡ m.host.before
  pub wire : m.wire.after ≡ m.wire.before

-- Assumed: a call with another code than 0. Promised: record and buffers are as they were, every byte. Ruled out: a
-- refusal that stores a state; one that had begun to write.
abbrev pub BulletinRefusedUnchanged : Type 0
BulletinRefusedUnchanged = (s : Bulletin) (m : BulletinLent) → BulletinMeetsContract s m → (m.outcome.code ≡ Done → ⊥) → BulletinUnchanged s m

-- Text sent and read, each end's state in a record: as `BothEnds.Exchange`
pub record LentExchange (b : Bulletin) (p : Printer) (cs : List Sending) (ms : List BulletinLent) (ns : List PrinterLent) : Type 0 where
  pub sends : BulletinLentTrace b ms
  pub sendings : B.calls_of (bulletin_calls_by_value ms) ≡ map as_call cs
  pub reads : PrinterLentTrace p ns
  pub bytes : NetworkCalls (flat_map sent_bytes (bulletin_calls_by_value ms)) (P.calls_of (printer_calls_by_value ns))

-- Demand 2 of traces on records. Assumed and promised: as of ProgramReadBack. Ruled out besides: a record that a call
-- left as it was before; one that a reading call found other than the last one left it.
abbrev pub LentReadBack : Type 0
LentReadBack =
    (b : Bulletin) (p : Printer) → IacFree (view_bulletin b) → Agreed (view_bulletin b) (view_printer p)
    → (cs : List Sending) (ms : List BulletinLent) (ns : List PrinterLent) → LentExchange b p cs ms ns
    → Delivered Agreed b p (all_data (view_bulletin b) cs) (bulletin_calls_by_value ms) (printer_calls_by_value ns)

-- the state that a trace left in the bulletin end's record
abbrev pub left_by : Bulletin → List BulletinLent → Bulletin
left_by b ms = last_of B.after b (bulletin_calls_by_value ms)

-- The same as the demand is worded. Assumed and promised: as of ProgramTextReadBack. Ruled out: what LentReadBack
-- rules out, from whatever state a trace on a record reached.
abbrev pub LentTextReadBack : Type 0
LentTextReadBack =
    (before : List BulletinLent) (f : BulletinLentFromFresh before) (p : Printer) → Demanded (view_bulletin (left_by f.start before)) (view_printer p)
    → (cs : List Sending) (ms : List BulletinLent) (ns : List PrinterLent) → LentExchange (left_by f.start before) p cs ms ns
    → Delivered Demanded (left_by f.start before) p (all_data (view_bulletin (left_by f.start before)) cs) (bulletin_calls_by_value ms) (printer_calls_by_value ns)

-- What the contracts ensure is what a trace on a record asks. First of a call that lends no buffer for data: whatever data the
-- host has
abbrev pub BulletinMeetsContractOnWire : Bulletin → B.Args → Lent → BulletinOutcome → Bulletin → Type 0
BulletinMeetsContractOnWire s args wire r t = MeetsContractOnWire s args wire (bulletin_answer r t)

-- Assumed: of a call on a record that lends no buffer for data, what its contract says. Promised: it is what a trace
-- asks of that call, whatever data the host has. Ruled out: an ask that writes to the host's data; a trace that asks
-- more of a call than its contract says.
abbrev pub BulletinLentOnWire : Type 0
BulletinLentOnWire =
    (s : Bulletin) (args : B.Args) (wire : Lent) (r : BulletinOutcome) (t : Bulletin) → lends_data args ≡ false
    → BulletinMeetsContractOnWire s args wire r t → (host : List ℕ) → BulletinMeetsContract s (bulletin_lent args (untouched host) wire r t)

-- What each contract on a record ensures is word for word what a trace asks. (a are the arguments as the call begins, e
-- as it ends, the record first; r is the outcome.) Assumed: nothing. Promised: that of `network_byte`. Ruled out: a
-- record that stays as it was; the two buffers exchanged.
abbrev pub PrinterNetworkEnsures : Type 2
PrinterNetworkEnsures =
    (w : World) (κs : Lfts 3) (a : ArgsD printer-network-byte.signature κs) (r : ResD printer-network-byte.signature κs) (e : AtExit printer-network-byte.ended κs)
    → (printer-network-byte.clauses w.𝓛 w.𝓜.mem w.𝓡.returns κs a).ensures tt r e
    ≡ fact w.𝓤 (PrinterMeetsContract a.0.now (printer_lent (P.Args.network a.1.0) (lent_as a.1.1.0.now e.1.1.0.now) (lent_as a.1.1.1.0.now e.1.1.1.0.now) r e.0.now))

-- The same of `press`. Ruled out: another key than the one pressed; a record that stays as it was.
abbrev pub PrinterPressEnsures : Type 2
PrinterPressEnsures =
    (w : World) (κs : Lfts 3) (a : ArgsD printer-press.signature κs) (r : ResD printer-press.signature κs) (e : AtExit printer-press.ended κs)
    → (printer-press.clauses w.𝓛 w.𝓜.mem w.𝓡.returns κs a).ensures tt r e
    ≡ fact w.𝓤 (PrinterMeetsContract a.0.now (printer_lent (P.Args.key a.1.0) (lent_as a.1.1.0.now e.1.1.0.now) (lent_as a.1.1.1.0.now e.1.1.1.0.now) r e.0.now))

-- The same of `ask`. Ruled out: option and way exchanged; a record that stays as it was.
abbrev pub PrinterAskEnsures : Type 2
PrinterAskEnsures =
    (w : World) (κs : Lfts 3) (a : ArgsD printer-ask.signature κs) (r : ResD printer-ask.signature κs) (e : AtExit printer-ask.ended κs)
    → (printer-ask.clauses w.𝓛 w.𝓜.mem w.𝓡.returns κs a).ensures tt r e
    ≡ fact w.𝓤 (PrinterMeetsContract a.0.now (printer_lent (P.Args.ask a.1.0 a.1.1.0) (lent_as a.1.1.1.0.now e.1.1.1.0.now) (lent_as a.1.1.1.1.0.now e.1.1.1.1.0.now) r e.0.now))

-- The same of `suggest`. Ruled out: option and value exchanged; a record that stays as it was.
abbrev pub PrinterSuggestEnsures : Type 2
PrinterSuggestEnsures =
    (w : World) (κs : Lfts 3) (a : ArgsD printer-suggest.signature κs) (r : ResD printer-suggest.signature κs) (e : AtExit printer-suggest.ended κs)
    → (printer-suggest.clauses w.𝓛 w.𝓜.mem w.𝓡.returns κs a).ensures tt r e
    ≡ fact w.𝓤 (PrinterMeetsContract a.0.now (printer_lent (P.Args.suggest a.1.0 a.1.1.0) (lent_as a.1.1.1.0.now e.1.1.1.0.now) (lent_as a.1.1.1.1.0.now e.1.1.1.1.0.now) r e.0.now))

-- The same at the bulletin end, first of `network_byte`. Ruled out: a record that stays as it was; the two buffers
-- exchanged.
abbrev pub BulletinNetworkEnsures : Type 2
BulletinNetworkEnsures =
    (w : World) (κs : Lfts 3) (a : ArgsD bulletin-network-byte.signature κs) (r : ResD bulletin-network-byte.signature κs) (e : AtExit bulletin-network-byte.ended κs)
    → (bulletin-network-byte.clauses w.𝓛 w.𝓜.mem w.𝓡.returns κs a).ensures tt r e
    ≡ fact w.𝓤 (BulletinMeetsContract a.0.now (bulletin_lent (B.Args.network a.1.0) (lent_as a.1.1.0.now e.1.1.0.now) (lent_as a.1.1.1.0.now e.1.1.1.0.now) r e.0.now))

-- The same of `ask`. Ruled out: option and way exchanged; a record that stays as it was.
abbrev pub BulletinAskEnsures : Type 2
BulletinAskEnsures =
    (w : World) (κs : Lfts 2) (a : ArgsD bulletin-ask.signature κs) (r : ResD bulletin-ask.signature κs) (e : AtExit bulletin-ask.ended κs)
    → (bulletin-ask.clauses w.𝓛 w.𝓜.mem w.𝓡.returns κs a).ensures tt r e
    ≡ fact w.𝓤 (BulletinMeetsContractOnWire a.0.now (B.Args.ask a.1.0 a.1.1.0) (lent_as a.1.1.1.0.now e.1.1.1.0.now) r e.0.now)

-- The same of `suggest`. Ruled out: option and value exchanged; a record that stays as it was.
abbrev pub BulletinSuggestEnsures : Type 2
BulletinSuggestEnsures =
    (w : World) (κs : Lfts 2) (a : ArgsD bulletin-suggest.signature κs) (r : ResD bulletin-suggest.signature κs) (e : AtExit bulletin-suggest.ended κs)
    → (bulletin-suggest.clauses w.𝓛 w.𝓜.mem w.𝓡.returns κs a).ensures tt r e
    ≡ fact w.𝓤 (BulletinMeetsContractOnWire a.0.now (B.Args.suggest a.1.0 a.1.1.0) (lent_as a.1.1.1.0.now e.1.1.1.0.now) r e.0.now)

-- The same of `order`. Ruled out: break and transmission classes exchanged; a record that stays as it was.
abbrev pub BulletinOrderEnsures : Type 2
BulletinOrderEnsures =
    (w : World) (κs : Lfts 2) (a : ArgsD bulletin-order.signature κs) (r : ResD bulletin-order.signature κs) (e : AtExit bulletin-order.ended κs)
    → (bulletin-order.clauses w.𝓛 w.𝓜.mem w.𝓡.returns κs a).ensures tt r e
    ≡ fact w.𝓤 (BulletinMeetsContractOnWire a.0.now (B.Args.order a.1.0 a.1.1.0 a.1.1.1.0) (lent_as a.1.1.1.1.0.now e.1.1.1.1.0.now) r e.0.now)

-- The same of `define`. Ruled out: another text than the one lent; a record that stays as it was.
abbrev pub BulletinDefineEnsures : Type 2
BulletinDefineEnsures =
    (w : World) (κs : Lfts 3) (a : ArgsD bulletin-define.signature κs) (r : ResD bulletin-define.signature κs) (e : AtExit bulletin-define.ended κs)
    → (bulletin-define.clauses w.𝓛 w.𝓜.mem w.𝓡.returns κs a).ensures tt r e
    ≡ fact w.𝓤 (BulletinMeetsContractOnWire a.0.now (B.Args.define a.1.0 a.1.1.0.now) (lent_as a.1.1.1.0.now e.1.1.1.0.now) r e.0.now)

-- The same of `use_macro`. Ruled out: another byte than the one used; a record that stays as it was.
abbrev pub BulletinUseEnsures : Type 2
BulletinUseEnsures =
    (w : World) (κs : Lfts 2) (a : ArgsD bulletin-use-macro.signature κs) (r : ResD bulletin-use-macro.signature κs) (e : AtExit bulletin-use-macro.ended κs)
    → (bulletin-use-macro.clauses w.𝓛 w.𝓜.mem w.𝓡.returns κs a).ensures tt r e
    ≡ fact w.𝓤 (BulletinMeetsContractOnWire a.0.now (B.Args.use_macro a.1.0) (lent_as a.1.1.0.now e.1.1.0.now) r e.0.now)

-- The same of `text_item`. Ruled out: another item than the one given; a record that stays as it was.
abbrev pub BulletinTextEnsures : Type 2
BulletinTextEnsures =
    (w : World) (κs : Lfts 2) (a : ArgsD bulletin-text-item.signature κs) (r : ResD bulletin-text-item.signature κs) (e : AtExit bulletin-text-item.ended κs)
    → (bulletin-text-item.clauses w.𝓛 w.𝓜.mem w.𝓡.returns κs a).ensures tt r e
    ≡ fact w.𝓤 (BulletinMeetsContractOnWire a.0.now (B.Args.text a.1.0) (lent_as a.1.1.0.now e.1.1.0.now) r e.0.now)

-- The same of `issue`. Ruled out: another number than the one given; a record that stays as it was.
abbrev pub BulletinIssueEnsures : Type 2
BulletinIssueEnsures =
    (w : World) (κs : Lfts 2) (a : ArgsD bulletin-issue.signature κs) (r : ResD bulletin-issue.signature κs) (e : AtExit bulletin-issue.ended κs)
    → (bulletin-issue.clauses w.𝓛 w.𝓜.mem w.𝓡.returns κs a).ensures tt r e
    ≡ fact w.𝓤 (BulletinMeetsContractOnWire a.0.now (B.Args.issue a.1.0) (lent_as a.1.1.0.now e.1.1.0.now) r e.0.now)
