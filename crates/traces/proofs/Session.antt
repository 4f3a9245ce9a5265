-- A trace of the printer end gives the answers of the rules' session.
use mathlib.Core.Path.{◌≡◌, refl, ap}
use mathlib.Core.List.{List}
use Rattle.printer.specs.State.{PrinterState}
use Rattle.printer.specs.Calls.{waiting_count}
use Rattle.printer.specs.Session.{called, answers_from}
use Rattle.printer.specs.Refinement.{view_printer, CleanPrinter, WholePrinter, fresh_cells}
use Rattle.printer.specs.declared.Printer.{Printer}
use Rattle.printer.proofs.FreshPrinter.{fresh_view, fresh_clean, fresh_whole}
use Rattle.traces.specs.Chains.{Beside}
use Rattle.traces.specs.Traces.{AnsweredCall, call_of, calls_of, MeetsContract, Trace, after, AsRuled, TraceIsSession}
use Rattle.traces.proofs.Chains.{chain_answers}

abbrev Tidy : Printer → Type 0
Tidy s = CleanPrinter s × WholePrinter s

step : (s : Printer) (m : AnsweredCall) → MeetsContract s m → Tidy s
    → AsRuled (called (view_printer s) (call_of m)) m × (view_printer (after m) ≡ (called (view_printer s) (call_of m)).effect.state) × Tidy (after m)
step s m g t = (
  record {
    code = g.code;
    note = g.note;
    paper = g.wrote.paper;
    wire = g.wrote.wire;
    view = g.view;
    waiting = ap waiting_count g.view;
    clean = g.clean t.0;
    whole = g.whole t.1;
  },
  g.view,
  (g.clean t.0, g.whole t.1),
)

run_from : {s : Printer} {ms : List AnsweredCall} → Trace s ms → Tidy s → Beside AsRuled (answers_from (view_printer s) (calls_of ms)) ms
unfolding answers_from
run_from r t = chain_answers called (λ a. a.effect.state) answers_from (λ v. refl) (λ v c cs. refl) view_printer call_of after MeetsContract Tidy AsRuled step r t

pub run_is_session : TraceIsSession
run_is_session ms f =
    let run : Trace fresh_cells ms = rw f.is_fresh at f.run in
    rw (← fresh_view) (run_from run (fresh_clean, fresh_whole))
