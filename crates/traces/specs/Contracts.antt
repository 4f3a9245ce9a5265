-- What the contracts of the program's calls ensure is what a trace asks: of each call `MeetsContract`, and of its first state that it is `fresh_cells`.
use Rattle.std.specs.Prelude.{◌≡◌}
use borrow.Fn.Kinds.{ended_of}
use borrow.Fn.World.{World, ArgsD, ResD}
use contract.Lifetimes.{Lfts}
use contract.Monad.{fact}
use denote.Triple.Clauses.{AtExit}
use Rattle.lists.specs.Buffers.{Lent, lent_as}
use Rattle.printer.specs.Refinement.{fresh_cells}
use Rattle.printer.specs.declared.Answer.{Answer}
use Rattle.printer.specs.contracts.calls.fresh
use Rattle.printer.proofs.calls.fresh.Reads as fresh-reads
use Rattle.printer.proofs.calls.fresh.Kinds as fresh-kinds
use Rattle.printer.specs.contracts.calls.network_byte
use Rattle.printer.proofs.calls.network_byte.Reads as network-reads
use Rattle.printer.proofs.calls.network_byte.Kinds as network-kinds
use Rattle.printer.specs.contracts.calls.press
use Rattle.printer.proofs.calls.press.Reads as press-reads
use Rattle.printer.proofs.calls.press.Kinds as press-kinds
use Rattle.printer.specs.contracts.calls.ask
use Rattle.printer.proofs.calls.ask.Reads as ask-reads
use Rattle.printer.proofs.calls.ask.Kinds as ask-kinds
use Rattle.printer.specs.contracts.calls.suggest
use Rattle.printer.proofs.calls.suggest.Reads as suggest-reads
use Rattle.printer.proofs.calls.suggest.Kinds as suggest-kinds
use Rattle.traces.specs.Traces.{Args, AnsweredCall, MeetsContract}

abbrev pub made : Args → (paper wire : Lent) → Answer → AnsweredCall
made args paper wire r = record { args = args; paper = paper; wire = wire; answer = r }

-- What each contract ensures is word for word what a trace asks. (a are the arguments as the call begins, e as it ends,
-- in the order of the signature; r is the result.) Assumed: nothing. Promised, of `fresh`: that of a trace's first
-- state. Ruled out: claims about traces that rest on a wording of their own; a contract that says less than they need.
abbrev pub FreshEnsures : Type 2
FreshEnsures =
    (κs : Lfts 0) (a : ArgsD fresh.signature κs) (r : ResD fresh.signature κs) (e : AtExit (ended_of 0 fresh-kinds.ps fresh-kinds.r) κs) (w : World)
    → fresh-reads.ensures κs a tt r e w ≡ fact w.𝓤 (r ≡ fresh_cells)

-- The same of `network_byte`. Ruled out: the two buffers exchanged; an answer on another state than the one passed.
abbrev pub NetworkEnsures : Type 2
NetworkEnsures =
    (κs : Lfts 2) (a : ArgsD network_byte.signature κs) (r : ResD network_byte.signature κs) (e : AtExit (ended_of 2 network-kinds.ps network-kinds.r) κs) (w : World)
    → network-reads.ensures κs a tt r e w
    ≡ fact w.𝓤 (MeetsContract a.0 (made (Args.network a.1.0) (lent_as a.1.1.0.now e.1.1.0.now) (lent_as a.1.1.1.0.now e.1.1.1.0.now) r))

-- The same of `press`. Ruled out: another key than the one pressed; the two buffers exchanged.
abbrev pub PressEnsures : Type 2
PressEnsures =
    (κs : Lfts 2) (a : ArgsD press.signature κs) (r : ResD press.signature κs) (e : AtExit (ended_of 2 press-kinds.ps press-kinds.r) κs) (w : World)
    → press-reads.ensures κs a tt r e w
    ≡ fact w.𝓤 (MeetsContract a.0 (made (Args.key a.1.0) (lent_as a.1.1.0.now e.1.1.0.now) (lent_as a.1.1.1.0.now e.1.1.1.0.now) r))

-- The same of `ask`. Ruled out: option and way exchanged; the two buffers exchanged.
abbrev pub AskEnsures : Type 2
AskEnsures =
    (κs : Lfts 2) (a : ArgsD ask.signature κs) (r : ResD ask.signature κs) (e : AtExit (ended_of 2 ask-kinds.ps ask-kinds.r) κs) (w : World)
    → ask-reads.ensures κs a tt r e w
    ≡ fact w.𝓤 (MeetsContract a.0 (made (Args.ask a.1.0 a.1.1.0) (lent_as a.1.1.1.0.now e.1.1.1.0.now) (lent_as a.1.1.1.1.0.now e.1.1.1.1.0.now) r))

-- The same of `suggest`. Ruled out: option and value exchanged; the two buffers exchanged.
abbrev pub SuggestEnsures : Type 2
SuggestEnsures =
    (κs : Lfts 2) (a : ArgsD suggest.signature κs) (r : ResD suggest.signature κs) (e : AtExit (ended_of 2 suggest-kinds.ps suggest-kinds.r) κs) (w : World)
    → suggest-reads.ensures κs a tt r e w
    ≡ fact w.𝓤 (MeetsContract a.0 (made (Args.suggest a.1.0 a.1.1.0) (lent_as a.1.1.1.0.now e.1.1.1.0.now) (lent_as a.1.1.1.1.0.now e.1.1.1.1.0.now) r))
