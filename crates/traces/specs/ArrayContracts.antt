-- What the contracts of the library's calls ensure, which `prambow_c` exports with the same clauses, is word for word what a trace on
-- arrays asks of a call. (a are the arguments as the call begins, e as it ends, the arrays first; r is the outcome.) Assumed: nothing. Promised: of each call, that. Ruled out: an
-- array that stands for another; the two buffers exchanged; another key than the pair stands for.
use Rattle.std.specs.Prelude.{◌≡◌}
use borrow.Fn.World.{World, ArgsD, ResD}
use contract.Lifetimes.{Lfts}
use contract.Monad.{fact}
use denote.Triple.Clauses.{AtExit}
use Rattle.lists.specs.Buffers.{Lent, lent_as}
use Rattle.session_arrays.specs.declared.Outcome.{Outcome}
use Rattle.session_arrays.specs.Numbers.{key_of_pair}
use Rattle.session_arrays.specs.PrinterArrays.{PrinterArrays, arrays_of_printer}
use Rattle.session_arrays.specs.BulletinArrays.{BulletinArrays, arrays_of_bulletin}
use Rattle.prambow.specs.contracts.printer_calls.prambow_printer_network_byte_arrays as printer-network-byte
use Rattle.prambow.specs.contracts.printer_calls.prambow_printer_press_arrays as printer-press
use Rattle.prambow.specs.contracts.printer_calls.prambow_printer_ask_arrays as printer-ask
use Rattle.prambow.specs.contracts.printer_calls.prambow_printer_suggest_arrays as printer-suggest
use Rattle.prambow.specs.contracts.bulletin_calls.prambow_bulletin_network_byte_arrays as bulletin-network-byte
use Rattle.prambow.specs.contracts.bulletin_calls.prambow_bulletin_ask_arrays as bulletin-ask
use Rattle.prambow.specs.contracts.bulletin_calls.prambow_bulletin_suggest_arrays as bulletin-suggest
use Rattle.prambow.specs.contracts.bulletin_calls.prambow_bulletin_order_arrays as bulletin-order
use Rattle.prambow.specs.contracts.bulletin_calls.prambow_bulletin_define_arrays as bulletin-define
use Rattle.prambow.specs.contracts.bulletin_calls.prambow_bulletin_use_macro_arrays as bulletin-use-macro
use Rattle.prambow.specs.contracts.bulletin_calls.prambow_bulletin_text_item_arrays as bulletin-text-item
use Rattle.prambow.specs.contracts.bulletin_calls.prambow_bulletin_issue_arrays as bulletin-issue
use Rattle.traces.specs.Traces as P
use Rattle.traces.specs.BulletinTraces as B
use Rattle.traces.specs.ArrayTraces.{PrinterOnArrays, PrinterMeetsOnArrays, BulletinOnArrays, BulletinMeetsOnArrays, BulletinMeetsOnArraysWire}

abbrev pub printer_on_arrays : P.Args → (paper wire : Lent) → Outcome → PrinterArrays → PrinterOnArrays
printer_on_arrays args paper wire r next = record { args = args; paper = paper; wire = wire; outcome = r; next = next }

abbrev pub bulletin_on_arrays : B.Args → (host wire : Lent) → Outcome → BulletinArrays → BulletinOnArrays
bulletin_on_arrays args host wire r next = record { args = args; host = host; wire = wire; outcome = r; next = next }

abbrev pub PrinterNetworkEnsures : Type 2
PrinterNetworkEnsures =
    (w : World) (κs : Lfts 10) (a : ArgsD printer-network-byte.signature κs) (r : ResD printer-network-byte.signature κs) (e : AtExit printer-network-byte.ended κs)
    → (printer-network-byte.clauses w.𝓛 w.𝓜.mem w.𝓡.returns κs a).ensures tt r e
    ≡ fact w.𝓤 (PrinterMeetsOnArrays (arrays_of_printer a.0.now a.1.0.now a.1.1.0.now a.1.1.1.0.now a.1.1.1.1.0.now a.1.1.1.1.1.0.now a.1.1.1.1.1.1.0.now a.1.1.1.1.1.1.1.0.now) (printer_on_arrays (P.Args.network a.1.1.1.1.1.1.1.1.0) (lent_as a.1.1.1.1.1.1.1.1.1.0.now e.1.1.1.1.1.1.1.1.1.0.now) (lent_as a.1.1.1.1.1.1.1.1.1.1.0.now e.1.1.1.1.1.1.1.1.1.1.0.now) r (arrays_of_printer e.0.now e.1.0.now e.1.1.0.now e.1.1.1.0.now e.1.1.1.1.0.now e.1.1.1.1.1.0.now e.1.1.1.1.1.1.0.now e.1.1.1.1.1.1.1.0.now)))

abbrev pub PrinterPressEnsures : Type 2
PrinterPressEnsures =
    (w : World) (κs : Lfts 10) (a : ArgsD printer-press.signature κs) (r : ResD printer-press.signature κs) (e : AtExit printer-press.ended κs)
    → (printer-press.clauses w.𝓛 w.𝓜.mem w.𝓡.returns κs a).ensures tt r e
    ≡ fact w.𝓤 (PrinterMeetsOnArrays (arrays_of_printer a.0.now a.1.0.now a.1.1.0.now a.1.1.1.0.now a.1.1.1.1.0.now a.1.1.1.1.1.0.now a.1.1.1.1.1.1.0.now a.1.1.1.1.1.1.1.0.now) (printer_on_arrays (P.Args.key (key_of_pair a.1.1.1.1.1.1.1.1.0 a.1.1.1.1.1.1.1.1.1.0)) (lent_as a.1.1.1.1.1.1.1.1.1.1.0.now e.1.1.1.1.1.1.1.1.1.1.0.now) (lent_as a.1.1.1.1.1.1.1.1.1.1.1.0.now e.1.1.1.1.1.1.1.1.1.1.1.0.now) r (arrays_of_printer e.0.now e.1.0.now e.1.1.0.now e.1.1.1.0.now e.1.1.1.1.0.now e.1.1.1.1.1.0.now e.1.1.1.1.1.1.0.now e.1.1.1.1.1.1.1.0.now)))

abbrev pub PrinterAskEnsures : Type 2
PrinterAskEnsures =
    (w : World) (κs : Lfts 10) (a : ArgsD printer-ask.signature κs) (r : ResD printer-ask.signature κs) (e : AtExit printer-ask.ended κs)
    → (printer-ask.clauses w.𝓛 w.𝓜.mem w.𝓡.returns κs a).ensures tt r e
    ≡ fact w.𝓤 (PrinterMeetsOnArrays (arrays_of_printer a.0.now a.1.0.now a.1.1.0.now a.1.1.1.0.now a.1.1.1.1.0.now a.1.1.1.1.1.0.now a.1.1.1.1.1.1.0.now a.1.1.1.1.1.1.1.0.now) (printer_on_arrays (P.Args.ask a.1.1.1.1.1.1.1.1.0 a.1.1.1.1.1.1.1.1.1.0) (lent_as a.1.1.1.1.1.1.1.1.1.1.0.now e.1.1.1.1.1.1.1.1.1.1.0.now) (lent_as a.1.1.1.1.1.1.1.1.1.1.1.0.now e.1.1.1.1.1.1.1.1.1.1.1.0.now) r (arrays_of_printer e.0.now e.1.0.now e.1.1.0.now e.1.1.1.0.now e.1.1.1.1.0.now e.1.1.1.1.1.0.now e.1.1.1.1.1.1.0.now e.1.1.1.1.1.1.1.0.now)))

abbrev pub PrinterSuggestEnsures : Type 2
PrinterSuggestEnsures =
    (w : World) (κs : Lfts 10) (a : ArgsD printer-suggest.signature κs) (r : ResD printer-suggest.signature κs) (e : AtExit printer-suggest.ended κs)
    → (printer-suggest.clauses w.𝓛 w.𝓜.mem w.𝓡.returns κs a).ensures tt r e
    ≡ fact w.𝓤 (PrinterMeetsOnArrays (arrays_of_printer a.0.now a.1.0.now a.1.1.0.now a.1.1.1.0.now a.1.1.1.1.0.now a.1.1.1.1.1.0.now a.1.1.1.1.1.1.0.now a.1.1.1.1.1.1.1.0.now) (printer_on_arrays (P.Args.suggest a.1.1.1.1.1.1.1.1.0 a.1.1.1.1.1.1.1.1.1.0) (lent_as a.1.1.1.1.1.1.1.1.1.1.0.now e.1.1.1.1.1.1.1.1.1.1.0.now) (lent_as a.1.1.1.1.1.1.1.1.1.1.1.0.now e.1.1.1.1.1.1.1.1.1.1.1.0.now) r (arrays_of_printer e.0.now e.1.0.now e.1.1.0.now e.1.1.1.0.now e.1.1.1.1.0.now e.1.1.1.1.1.0.now e.1.1.1.1.1.1.0.now e.1.1.1.1.1.1.1.0.now)))

abbrev pub BulletinNetworkEnsures : Type 2
BulletinNetworkEnsures =
    (w : World) (κs : Lfts 10) (a : ArgsD bulletin-network-byte.signature κs) (r : ResD bulletin-network-byte.signature κs) (e : AtExit bulletin-network-byte.ended κs)
    → (bulletin-network-byte.clauses w.𝓛 w.𝓜.mem w.𝓡.returns κs a).ensures tt r e
    ≡ fact w.𝓤 (BulletinMeetsOnArrays (arrays_of_bulletin a.0.now a.1.0.now a.1.1.0.now a.1.1.1.0.now a.1.1.1.1.0.now a.1.1.1.1.1.0.now a.1.1.1.1.1.1.0.now a.1.1.1.1.1.1.1.0.now) (bulletin_on_arrays (B.Args.network a.1.1.1.1.1.1.1.1.0) (lent_as a.1.1.1.1.1.1.1.1.1.0.now e.1.1.1.1.1.1.1.1.1.0.now) (lent_as a.1.1.1.1.1.1.1.1.1.1.0.now e.1.1.1.1.1.1.1.1.1.1.0.now) r (arrays_of_bulletin e.0.now e.1.0.now e.1.1.0.now e.1.1.1.0.now e.1.1.1.1.0.now e.1.1.1.1.1.0.now e.1.1.1.1.1.1.0.now e.1.1.1.1.1.1.1.0.now)))

abbrev pub BulletinAskEnsures : Type 2
BulletinAskEnsures =
    (w : World) (κs : Lfts 9) (a : ArgsD bulletin-ask.signature κs) (r : ResD bulletin-ask.signature κs) (e : AtExit bulletin-ask.ended κs)
    → (bulletin-ask.clauses w.𝓛 w.𝓜.mem w.𝓡.returns κs a).ensures tt r e
    ≡ fact w.𝓤 (BulletinMeetsOnArraysWire (arrays_of_bulletin a.0.now a.1.0.now a.1.1.0.now a.1.1.1.0.now a.1.1.1.1.0.now a.1.1.1.1.1.0.now a.1.1.1.1.1.1.0.now a.1.1.1.1.1.1.1.0.now) (B.Args.ask a.1.1.1.1.1.1.1.1.0 a.1.1.1.1.1.1.1.1.1.0) (lent_as a.1.1.1.1.1.1.1.1.1.1.0.now e.1.1.1.1.1.1.1.1.1.1.0.now) r (arrays_of_bulletin e.0.now e.1.0.now e.1.1.0.now e.1.1.1.0.now e.1.1.1.1.0.now e.1.1.1.1.1.0.now e.1.1.1.1.1.1.0.now e.1.1.1.1.1.1.1.0.now))

abbrev pub BulletinSuggestEnsures : Type 2
BulletinSuggestEnsures =
    (w : World) (κs : Lfts 9) (a : ArgsD bulletin-suggest.signature κs) (r : ResD bulletin-suggest.signature κs) (e : AtExit bulletin-suggest.ended κs)
    → (bulletin-suggest.clauses w.𝓛 w.𝓜.mem w.𝓡.returns κs a).ensures tt r e
    ≡ fact w.𝓤 (BulletinMeetsOnArraysWire (arrays_of_bulletin a.0.now a.1.0.now a.1.1.0.now a.1.1.1.0.now a.1.1.1.1.0.now a.1.1.1.1.1.0.now a.1.1.1.1.1.1.0.now a.1.1.1.1.1.1.1.0.now) (B.Args.suggest a.1.1.1.1.1.1.1.1.0 a.1.1.1.1.1.1.1.1.1.0) (lent_as a.1.1.1.1.1.1.1.1.1.1.0.now e.1.1.1.1.1.1.1.1.1.1.0.now) r (arrays_of_bulletin e.0.now e.1.0.now e.1.1.0.now e.1.1.1.0.now e.1.1.1.1.0.now e.1.1.1.1.1.0.now e.1.1.1.1.1.1.0.now e.1.1.1.1.1.1.1.0.now))

abbrev pub BulletinOrderEnsures : Type 2
BulletinOrderEnsures =
    (w : World) (κs : Lfts 9) (a : ArgsD bulletin-order.signature κs) (r : ResD bulletin-order.signature κs) (e : AtExit bulletin-order.ended κs)
    → (bulletin-order.clauses w.𝓛 w.𝓜.mem w.𝓡.returns κs a).ensures tt r e
    ≡ fact w.𝓤 (BulletinMeetsOnArraysWire (arrays_of_bulletin a.0.now a.1.0.now a.1.1.0.now a.1.1.1.0.now a.1.1.1.1.0.now a.1.1.1.1.1.0.now a.1.1.1.1.1.1.0.now a.1.1.1.1.1.1.1.0.now) (B.Args.order a.1.1.1.1.1.1.1.1.0 a.1.1.1.1.1.1.1.1.1.0 a.1.1.1.1.1.1.1.1.1.1.0) (lent_as a.1.1.1.1.1.1.1.1.1.1.1.0.now e.1.1.1.1.1.1.1.1.1.1.1.0.now) r (arrays_of_bulletin e.0.now e.1.0.now e.1.1.0.now e.1.1.1.0.now e.1.1.1.1.0.now e.1.1.1.1.1.0.now e.1.1.1.1.1.1.0.now e.1.1.1.1.1.1.1.0.now))

abbrev pub BulletinDefineEnsures : Type 2
BulletinDefineEnsures =
    (w : World) (κs : Lfts 10) (a : ArgsD bulletin-define.signature κs) (r : ResD bulletin-define.signature κs) (e : AtExit bulletin-define.ended κs)
    → (bulletin-define.clauses w.𝓛 w.𝓜.mem w.𝓡.returns κs a).ensures tt r e
    ≡ fact w.𝓤 (BulletinMeetsOnArraysWire (arrays_of_bulletin a.0.now a.1.0.now a.1.1.0.now a.1.1.1.0.now a.1.1.1.1.0.now a.1.1.1.1.1.0.now a.1.1.1.1.1.1.0.now a.1.1.1.1.1.1.1.0.now) (B.Args.define a.1.1.1.1.1.1.1.1.0 a.1.1.1.1.1.1.1.1.1.0.now) (lent_as a.1.1.1.1.1.1.1.1.1.1.0.now e.1.1.1.1.1.1.1.1.1.1.0.now) r (arrays_of_bulletin e.0.now e.1.0.now e.1.1.0.now e.1.1.1.0.now e.1.1.1.1.0.now e.1.1.1.1.1.0.now e.1.1.1.1.1.1.0.now e.1.1.1.1.1.1.1.0.now))

abbrev pub BulletinUseEnsures : Type 2
BulletinUseEnsures =
    (w : World) (κs : Lfts 9) (a : ArgsD bulletin-use-macro.signature κs) (r : ResD bulletin-use-macro.signature κs) (e : AtExit bulletin-use-macro.ended κs)
    → (bulletin-use-macro.clauses w.𝓛 w.𝓜.mem w.𝓡.returns κs a).ensures tt r e
    ≡ fact w.𝓤 (BulletinMeetsOnArraysWire (arrays_of_bulletin a.0.now a.1.0.now a.1.1.0.now a.1.1.1.0.now a.1.1.1.1.0.now a.1.1.1.1.1.0.now a.1.1.1.1.1.1.0.now a.1.1.1.1.1.1.1.0.now) (B.Args.use_macro a.1.1.1.1.1.1.1.1.0) (lent_as a.1.1.1.1.1.1.1.1.1.0.now e.1.1.1.1.1.1.1.1.1.0.now) r (arrays_of_bulletin e.0.now e.1.0.now e.1.1.0.now e.1.1.1.0.now e.1.1.1.1.0.now e.1.1.1.1.1.0.now e.1.1.1.1.1.1.0.now e.1.1.1.1.1.1.1.0.now))

abbrev pub BulletinTextEnsures : Type 2
BulletinTextEnsures =
    (w : World) (κs : Lfts 9) (a : ArgsD bulletin-text-item.signature κs) (r : ResD bulletin-text-item.signature κs) (e : AtExit bulletin-text-item.ended κs)
    → (bulletin-text-item.clauses w.𝓛 w.𝓜.mem w.𝓡.returns κs a).ensures tt r e
    ≡ fact w.𝓤 (BulletinMeetsOnArraysWire (arrays_of_bulletin a.0.now a.1.0.now a.1.1.0.now a.1.1.1.0.now a.1.1.1.1.0.now a.1.1.1.1.1.0.now a.1.1.1.1.1.1.0.now a.1.1.1.1.1.1.1.0.now) (B.Args.text (key_of_pair a.1.1.1.1.1.1.1.1.0 a.1.1.1.1.1.1.1.1.1.0)) (lent_as a.1.1.1.1.1.1.1.1.1.1.0.now e.1.1.1.1.1.1.1.1.1.1.0.now) r (arrays_of_bulletin e.0.now e.1.0.now e.1.1.0.now e.1.1.1.0.now e.1.1.1.1.0.now e.1.1.1.1.1.0.now e.1.1.1.1.1.1.0.now e.1.1.1.1.1.1.1.0.now))

abbrev pub BulletinIssueEnsures : Type 2
BulletinIssueEnsures =
    (w : World) (κs : Lfts 9) (a : ArgsD bulletin-issue.signature κs) (r : ResD bulletin-issue.signature κs) (e : AtExit bulletin-issue.ended κs)
    → (bulletin-issue.clauses w.𝓛 w.𝓜.mem w.𝓡.returns κs a).ensures tt r e
    ≡ fact w.𝓤 (BulletinMeetsOnArraysWire (arrays_of_bulletin a.0.now a.1.0.now a.1.1.0.now a.1.1.1.0.now a.1.1.1.1.0.now a.1.1.1.1.1.0.now a.1.1.1.1.1.1.0.now a.1.1.1.1.1.1.1.0.now) (B.Args.issue a.1.1.1.1.1.1.1.1.0) (lent_as a.1.1.1.1.1.1.1.1.1.0.now e.1.1.1.1.1.1.1.1.1.0.now) r (arrays_of_bulletin e.0.now e.1.0.now e.1.1.0.now e.1.1.1.0.now e.1.1.1.1.0.now e.1.1.1.1.1.0.now e.1.1.1.1.1.1.0.now e.1.1.1.1.1.1.1.0.now))
