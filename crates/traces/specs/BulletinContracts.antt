-- What the contracts of the bulletin end's calls ensure is what a trace asks: of each call `MeetsContract`, and of its first state that it is `fresh_cells`.
use Rattle.std.specs.Prelude.{◌≡◌, Bool, true, false, List, ℕ}
use borrow.Fn.Kinds.{ended_of}
use borrow.Fn.World.{World, ArgsD, ResD}
use contract.Lifetimes.{Lfts}
use contract.Monad.{fact}
use denote.Triple.Clauses.{AtExit}
use Rattle.lists.specs.Buffers.{Lent, lent_as, untouched}
use Rattle.bulletin.specs.Session.{called}
use Rattle.bulletin.specs.Refinement.{view_bulletin, RefinesAnswerOnWire, fresh_cells}
use Rattle.bulletin.specs.declared.Bulletin.{Bulletin}
use Rattle.bulletin.specs.declared.Answer.{Answer}
use Rattle.bulletin.specs.contracts.calls.fresh
use Rattle.bulletin.proofs.calls.fresh.Reads as fresh-reads
use Rattle.bulletin.proofs.calls.fresh.Kinds as fresh-kinds
use Rattle.bulletin.specs.contracts.calls.network_byte
use Rattle.bulletin.proofs.calls.network_byte.Reads as network-reads
use Rattle.bulletin.proofs.calls.network_byte.Kinds as network-kinds
use Rattle.bulletin.specs.contracts.calls.ask
use Rattle.bulletin.proofs.calls.ask.Reads as ask-reads
use Rattle.bulletin.proofs.calls.ask.Kinds as ask-kinds
use Rattle.bulletin.specs.contracts.calls.suggest
use Rattle.bulletin.proofs.calls.suggest.Reads as suggest-reads
use Rattle.bulletin.proofs.calls.suggest.Kinds as suggest-kinds
use Rattle.bulletin.specs.contracts.calls.order
use Rattle.bulletin.proofs.calls.order.Reads as order-reads
use Rattle.bulletin.proofs.calls.order.Kinds as order-kinds
use Rattle.bulletin.specs.contracts.calls.define
use Rattle.bulletin.proofs.calls.define.Reads as define-reads
use Rattle.bulletin.proofs.calls.define.Kinds as define-kinds
use Rattle.bulletin.specs.contracts.calls.use_macro
use Rattle.bulletin.proofs.calls.use_macro.Reads as use-macro-reads
use Rattle.bulletin.proofs.calls.use_macro.Kinds as use-macro-kinds
use Rattle.bulletin.specs.contracts.calls.text_item
use Rattle.bulletin.proofs.calls.text_item.Reads as text-item-reads
use Rattle.bulletin.proofs.calls.text_item.Kinds as text-item-kinds
use Rattle.bulletin.specs.contracts.calls.issue
use Rattle.bulletin.proofs.calls.issue.Reads as issue-reads
use Rattle.bulletin.proofs.calls.issue.Kinds as issue-kinds
use Rattle.traces.specs.BulletinTraces.{Args, network, ask, suggest, order, define, use_macro, text, issue, AnsweredCall, with_sizes, MeetsContract}

abbrev pub made : Args → (host wire : Lent) → Answer → AnsweredCall
made args host wire r = record { args = args; host = host; wire = wire; answer = r }

abbrev pub lends_data : Args → Bool
lends_data (network b) = true
lends_data (ask o y) = false
lends_data (suggest o v) = false
lends_data (order c breaks sends) = false
lends_data (define x t) = false
lends_data (use_macro x) = false
lends_data (text k) = false
lends_data (issue n) = false

-- what the contract of a call that lends no buffer for data says
abbrev pub MeetsContractOnWire : Bulletin → Args → Lent → Answer → Type 0
MeetsContractOnWire s args wire r = RefinesAnswerOnWire (λ w. called (view_bulletin s) (with_sizes args 0 w)) s wire r

-- Assumed: of a call that lends no buffer for data, what its contract says. Promised: it is what a trace asks of that
-- call, whatever data the host has. Ruled out: an ask that writes to the host's data; a trace that asks more of a call
-- than its contract says.
abbrev pub OnWireMeetsContract : Type 0
OnWireMeetsContract =
    (s : Bulletin) (args : Args) (wire : Lent) (r : Answer) → lends_data args ≡ false
    → MeetsContractOnWire s args wire r → (host : List ℕ) → MeetsContract s (made args (untouched host) wire r)

-- What each contract ensures is word for word what a trace asks. (a are the arguments as the call begins, e as it ends,
-- in the order of the signature; r is the result.) Assumed: nothing. Promised, of `fresh`: that of a trace's first
-- state. Ruled out: claims about traces that rest on a wording of their own; a contract that says less than they need.
abbrev pub FreshEnsures : Type 2
FreshEnsures =
    (κs : Lfts 0) (a : ArgsD fresh.signature κs) (r : ResD fresh.signature κs) (e : AtExit (ended_of 0 fresh-kinds.ps fresh-kinds.r) κs) (w : World)
    → fresh-reads.ensures κs a tt r e w ≡ fact w.𝓤 (r ≡ fresh_cells)

-- The same of `network_byte`. Ruled out: the two buffers exchanged; an answer on another state than the one passed.
abbrev pub NetworkEnsures : Type 2
NetworkEnsures =
    (κs : Lfts 2) (a : ArgsD network_byte.signature κs) (r : ResD network_byte.signature κs) (e : AtExit (ended_of 2 network-kinds.ps network-kinds.r) κs) (w : World)
    → network-reads.ensures κs a tt r e w
    ≡ fact w.𝓤 (MeetsContract a.0 (made (Args.network a.1.0) (lent_as a.1.1.0.now e.1.1.0.now) (lent_as a.1.1.1.0.now e.1.1.1.0.now) r))

-- The same of `ask`. Ruled out: option and way exchanged; another buffer than the wire's.
abbrev pub AskEnsures : Type 2
AskEnsures =
    (κs : Lfts 1) (a : ArgsD ask.signature κs) (r : ResD ask.signature κs) (e : AtExit (ended_of 1 ask-kinds.ps ask-kinds.r) κs) (w : World)
    → ask-reads.ensures κs a tt r e w ≡ fact w.𝓤 (MeetsContractOnWire a.0 (Args.ask a.1.0 a.1.1.0) (lent_as a.1.1.1.0.now e.1.1.1.0.now) r)

-- The same of `suggest`. Ruled out: option and value exchanged; another buffer than the wire's.
abbrev pub SuggestEnsures : Type 2
SuggestEnsures =
    (κs : Lfts 1) (a : ArgsD suggest.signature κs) (r : ResD suggest.signature κs) (e : AtExit (ended_of 1 suggest-kinds.ps suggest-kinds.r) κs) (w : World)
    → suggest-reads.ensures κs a tt r e w ≡ fact w.𝓤 (MeetsContractOnWire a.0 (Args.suggest a.1.0 a.1.1.0) (lent_as a.1.1.1.0.now e.1.1.1.0.now) r)

-- The same of `order`. Ruled out: break and transmission classes exchanged; another buffer than the wire's.
abbrev pub OrderEnsures : Type 2
OrderEnsures =
    (κs : Lfts 1) (a : ArgsD order.signature κs) (r : ResD order.signature κs) (e : AtExit (ended_of 1 order-kinds.ps order-kinds.r) κs) (w : World)
    → order-reads.ensures κs a tt r e w ≡ fact w.𝓤 (MeetsContractOnWire a.0 (Args.order a.1.0 a.1.1.0 a.1.1.1.0) (lent_as a.1.1.1.1.0.now e.1.1.1.1.0.now) r)

-- The same of `define`. Ruled out: another text than the one lent; a text read after the call instead of before.
abbrev pub DefineEnsures : Type 2
DefineEnsures =
    (κs : Lfts 2) (a : ArgsD define.signature κs) (r : ResD define.signature κs) (e : AtExit (ended_of 2 define-kinds.ps define-kinds.r) κs) (w : World)
    → define-reads.ensures κs a tt r e w ≡ fact w.𝓤 (MeetsContractOnWire a.0 (Args.define a.1.0 a.1.1.0.now) (lent_as a.1.1.1.0.now e.1.1.1.0.now) r)

-- The same of `use_macro`. Ruled out: another byte than the one used; another buffer than the wire's.
abbrev pub UseEnsures : Type 2
UseEnsures =
    (κs : Lfts 1) (a : ArgsD use_macro.signature κs) (r : ResD use_macro.signature κs) (e : AtExit (ended_of 1 use-macro-kinds.ps use-macro-kinds.r) κs) (w : World)
    → use-macro-reads.ensures κs a tt r e w ≡ fact w.𝓤 (MeetsContractOnWire a.0 (Args.use_macro a.1.0) (lent_as a.1.1.0.now e.1.1.0.now) r)

-- The same of `text_item`. Ruled out: another item than the one given; another buffer than the wire's.
abbrev pub TextEnsures : Type 2
TextEnsures =
    (κs : Lfts 1) (a : ArgsD text_item.signature κs) (r : ResD text_item.signature κs) (e : AtExit (ended_of 1 text-item-kinds.ps text-item-kinds.r) κs) (w : World)
    → text-item-reads.ensures κs a tt r e w ≡ fact w.𝓤 (MeetsContractOnWire a.0 (Args.text a.1.0) (lent_as a.1.1.0.now e.1.1.0.now) r)

-- The same of `issue`. Ruled out: another number than the one given; another buffer than the wire's.
abbrev pub IssueEnsures : Type 2
IssueEnsures =
    (κs : Lfts 1) (a : ArgsD issue.signature κs) (r : ResD issue.signature κs) (e : AtExit (ended_of 1 issue-kinds.ps issue-kinds.r) κs) (w : World)
    → issue-reads.ensures κs a tt r e w ≡ fact w.𝓤 (MeetsContractOnWire a.0 (Args.issue a.1.0) (lent_as a.1.1.0.now e.1.1.0.now) r)
