-- The printer end's runs: its parts follow the laws of a run at either end, and how its code's run meets the rule.
use mathlib.Core.Path.{◌≡◌, refl, ap}
use mathlib.Core.Bool.{true}
use mathlib.Core.List.{List, [], ◌∷◌}
use Prim.Native.Nat.{ℕ, ◌-◌, ◌≤◌}
use lib.ListN.{length}
use Rattle.lists.specs.Buffers.{Lent, untouched}
use Rattle.lists.proofs.Starts.{wrote_none}
use Rattle.codes.specs.Answers.{paper_room, wire_room}
use Rattle.codes.specs.declared.Code.TheVariants.{Done, NoRoom}
use Rattle.reader.specs.NetworkRun.{RunEffect, cannot_begin, answers_of, calls_by}
use Rattle.reader.specs.NetworkEnd.{Finished}
use Rattle.reader.specs.declared.network_runs.Ran.{Ran}
use Rattle.reader.proofs.NetworkRun.{run_is_calls, run_stops, run_refused}
use Rattle.printer.specs.declared.Printer.{Printer}
use Rattle.printer.specs.State.{Effect, CallEffect}
use Rattle.printer.specs.Network.{network_read}
use Rattle.printer.specs.Calls.{network_call}
use Rattle.printer.specs.Session.{called, answers_from}
use Rattle.printer.specs.NetworkRun.{network_run, RunIsCalls, RunStops, CallsAnswered}
use Rattle.printer.specs.Refinement.{view_printer}
use Rattle.printer.specs.RefinementOfRuns.{RefinesRunOutcome, RefinesRun, refused_run, ran_answer}
use Rattle.printer.proofs.Limits.{network_fits}
use Rattle.printer.proofs.Views.{sized_view}
use Rattle.printer.specs.NetworkEnd.{lawful, Keeps}

pub printer_run_is_calls : RunIsCalls
printer_run_is_calls = run_is_calls lawful

pub printer_run_stops : RunStops
printer_run_stops = run_stops lawful

pub calls_answered : CallsAnswered
unfolding answers_from calls_by answers_of called
calls_answered s [] p w = refl
calls_answered s (b ∷ bs) p w =
    let d = (network_call s b p w).effect in
    ap (λ (rest : List CallEffect). network_call s b p w ∷ rest) (calls_answered d.state bs (p - length d.paper) (w - length d.wire))

-- a byte that has room writes no more than that
pub byte_fits : (t : Printer) (b : ℕ) → (length (network_read (view_printer t) b).paper ≤ paper_room) × (length (network_read (view_printer t) b).wire ≤ wire_room)
byte_fits t b = let f = network_fits (view_printer t) b (sized_view t) in (f.paper, f.wire)

-- a step of the code, and a run's answer, as the laws at either end have them
pub refines_run : {x : RunEffect Effect} {s t : Printer} {paper wire : Lent} {r : Ran}
    → Finished lawful view_printer Keeps x s t paper wire r
    → RefinesRunOutcome (record { code = Done; ran = x }) s paper wire (ran_answer t r.note r.taken r.first r.wire)
refines_run f = record {
  code = refl;
  note = f.step.note;
  taken = f.taken;
  wrote = record { paper = f.step.on_first; wire = f.step.on_wire };
  view = f.step.sees;
  clean = f.step.kept.clean;
  whole = f.step.kept.whole;
  same = λ n. absurd (n refl);
}

pub refines_refused : (s : Printer) (bytes paper wire : List ℕ) → cannot_begin (length bytes) (length paper) (length wire) ≡ true
    → RefinesRun (network_run (view_printer s) bytes) s (untouched paper) (untouched wire) (refused_run s NoRoom)
refines_refused s bytes paper wire h = rw (run_refused lawful (view_printer s) bytes (length paper) (length wire) h) (record {
  code = refl;
  note = refl;
  taken = refl;
  wrote = record { paper = wrote_none paper; wire = wrote_none wire };
  view = refl;
  clean = λ k. k;
  whole = λ k. k;
  same = λ _. refl;
})
