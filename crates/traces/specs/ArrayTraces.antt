-- Runs on lent arrays: calls that a host makes through the library, each finding in the arrays what the last one left there. They
-- are calls by value, and their numbers are those of the answers by value.
use Rattle.std.specs.Prelude.{◌≡◌, false, List, ℕ}
use Rattle.lists.specs.Buffers.{Lent, untouched}
use Rattle.printer.specs.Session as PS
use Rattle.printer.specs.declared.Printer.{Printer}
use Rattle.bulletin.specs.Session as BS
use Rattle.bulletin.specs.declared.Bulletin.{Bulletin}
use Rattle.session_arrays.specs.declared.Outcome.{Outcome}
use Rattle.session_arrays.specs.PrinterArrays.{PrinterArrays, encoded_printer, printer_outcome, RefinesOnPrinterArrays}
use Rattle.session_arrays.specs.BulletinArrays.{BulletinArrays, encoded_bulletin, bulletin_outcome, RefinesOnBulletinArrays, RefinesOnBulletinArraysWire}
use Rattle.traces.specs.Chains.{Chain, BesideChain}
use Rattle.traces.specs.Traces as P
use Rattle.traces.specs.BulletinTraces as B
use Rattle.traces.specs.BulletinContracts.{lends_data}

-- The printer end

-- a call on arrays: the lent buffers, what it returned, and the arrays that it left
pub record PrinterOnArrays : Type 0 where
  pub args : P.Args
  pub paper : Lent
  pub wire : Lent
  pub outcome : Outcome
  pub next : PrinterArrays

-- what its contract says, the arrays being a as it is called
abbrev pub PrinterMeetsOnArrays : PrinterArrays → PrinterOnArrays → Type 0
PrinterMeetsOnArrays a m =
    RefinesOnPrinterArrays (λ t p w. PS.called t (P.with_sizes m.args p w)) (record { before = a; after = m.next }) m.paper m.wire m.outcome

abbrev pub PrinterArraysTrace : PrinterArrays → List PrinterOnArrays → Type 0
PrinterArraysTrace a ms = Chain PrinterMeetsOnArrays (λ m. m.next) a ms

-- a call on arrays and one by value are the same: arguments, buffers before and after, the answer in numbers, the state stored
pub record PrinterSameCall (m : PrinterOnArrays) (n : P.AnsweredCall) : Type 0 where
  pub args : n.args ≡ m.args
  pub paper : n.paper ≡ m.paper
  pub wire : n.wire ≡ m.wire
  pub outcome : m.outcome ≡ printer_outcome n.answer
  pub state : m.next ≡ encoded_printer n.answer.state

-- Assumed: a trace on arrays in which a state stands, as `fresh` and every call that is done store one. Promised: there is
-- a trace by value from that state, the same call by call: so all that is claimed of traces holds of a host's. Ruled out:
-- a number that is stored as another; a refused call after which the arrays hold another state; one that is answered by
-- the numbers of another answer.
abbrev pub PrinterArraysAsByValue : Type 0
PrinterArraysAsByValue = (s : Printer) (ms : List PrinterOnArrays) → PrinterArraysTrace (encoded_printer s) ms → BesideChain P.MeetsContract P.after PrinterSameCall s ms

-- The bulletin end; where no buffer for data is lent, the host's own stays as it is

-- a call on arrays: the lent buffers, what it returned, and the arrays that it left
pub record BulletinOnArrays : Type 0 where
  pub args : B.Args
  pub host : Lent
  pub wire : Lent
  pub outcome : Outcome
  pub next : BulletinArrays

-- what its contract says, the arrays being a as it is called
abbrev pub BulletinMeetsOnArrays : BulletinArrays → BulletinOnArrays → Type 0
BulletinMeetsOnArrays a m =
    RefinesOnBulletinArrays (λ t h w. BS.called t (B.with_sizes m.args h w)) (record { before = a; after = m.next }) m.host m.wire m.outcome

abbrev pub BulletinArraysTrace : BulletinArrays → List BulletinOnArrays → Type 0
BulletinArraysTrace a ms = Chain BulletinMeetsOnArrays (λ m. m.next) a ms

-- a call on arrays and one by value are the same, as at the printer end
pub record BulletinSameCall (m : BulletinOnArrays) (n : B.AnsweredCall) : Type 0 where
  pub args : n.args ≡ m.args
  pub host : n.host ≡ m.host
  pub wire : n.wire ≡ m.wire
  pub outcome : m.outcome ≡ bulletin_outcome n.answer
  pub state : m.next ≡ encoded_bulletin n.answer.state

-- The same of the bulletin end. Assumed, promised and ruled out: as of the printer end.
abbrev pub BulletinArraysAsByValue : Type 0
BulletinArraysAsByValue = (s : Bulletin) (ms : List BulletinOnArrays) → BulletinArraysTrace (encoded_bulletin s) ms → BesideChain B.MeetsContract B.after BulletinSameCall s ms

-- what the contract of a call that lends no buffer for data says
abbrev pub BulletinMeetsOnArraysWire : BulletinArrays → B.Args → Lent → Outcome → BulletinArrays → Type 0
BulletinMeetsOnArraysWire a args wire r next = RefinesOnBulletinArraysWire (λ t w. BS.called t (B.with_sizes args 0 w)) (record { before = a; after = next }) wire r

-- Assumed: of a call on arrays that lends no buffer for data, what its contract says. Promised: it is what a trace asks of
-- that call, whatever data the host has. Ruled out: an ask that writes to the host's data.
abbrev pub BulletinArraysOnWire : Type 0
BulletinArraysOnWire =
    (m : BulletinOnArrays) (a : BulletinArrays) (host : List ℕ) → lends_data m.args ≡ false → m.host ≡ untouched host
    → BulletinMeetsOnArraysWire a m.args m.wire m.outcome m.next
    → BulletinMeetsOnArrays a m
