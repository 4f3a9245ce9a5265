-- The bulletin end's runs: its parts follow the laws of a run at either end, and how its code's run meets the rule.
use mathlib.Core.Path.{◌≡◌, refl, ap}
use mathlib.Core.Bool.{true}
use mathlib.Core.List.{List, [], ◌∷◌}
use Prim.Native.Nat.{ℕ, ◌-◌, ◌≤◌}
use lib.ListN.{length}
use Rattle.lists.specs.Buffers.{Lent, untouched}
use Rattle.lists.proofs.Starts.{wrote_none}
use Rattle.codes.specs.Answers.{paper_room, wire_room}
use Rattle.codes.specs.declared.Code.TheVariants.{Done, NoRoom}
use Rattle.reader.specs.NetworkRun.{RunEffect, cannot_begin, answers_of, calls_by}
use Rattle.reader.specs.NetworkEnd.{Finished}
use Rattle.reader.specs.declared.network_runs.Ran.{Ran}
use Rattle.bulletin.specs.NetworkEnd.{lawful, Keeps}
use Rattle.reader.proofs.NetworkRun.{run_is_calls, run_stops, run_refused}
use Rattle.bulletin.specs.declared.Bulletin.{Bulletin}
use Rattle.bulletin.specs.State.{BulletinState, Effect, CallEffect}
use Rattle.bulletin.specs.Network.{network_read}
use Rattle.bulletin.specs.Calls.{network_call}
use Rattle.bulletin.specs.Session.{called, answers_from}
use Rattle.bulletin.specs.NetworkRun.{network_run, RunIsCalls, RunStops, CallsAnswered}
use Rattle.bulletin.specs.Refinement.{view_bulletin}
use Rattle.bulletin.specs.RefinementOfRuns.{RefinesRunOutcome, RefinesRun, refused_run, ran_answer}
use Rattle.bulletin.proofs.Limits.{network_fits}

pub bulletin_run_is_calls : RunIsCalls
bulletin_run_is_calls = run_is_calls lawful

pub bulletin_run_stops : RunStops
bulletin_run_stops = run_stops lawful

pub calls_answered : CallsAnswered
unfolding answers_from calls_by answers_of called
calls_answered s [] p w = refl
calls_answered s (b ∷ bs) p w =
    let d = (network_call s b p w).effect in
    ap (λ (rest : List CallEffect). network_call s b p w ∷ rest) (calls_answered d.state bs (p - length d.host) (w - length d.wire))

-- a byte that has room writes no more than that
pub byte_fits : (s : BulletinState) (b : ℕ) → (length (network_read s b).host ≤ paper_room) × (length (network_read s b).wire ≤ wire_room)
byte_fits s b = let f = network_fits s b in (f.host, f.wire)

-- a run's answer, as the laws at either end have it
pub refines_run : {x : RunEffect Effect} {s t : Bulletin} {host wire : Lent} {r : Ran}
    → Finished lawful view_bulletin Keeps x s t host wire r
    → RefinesRunOutcome (record { code = Done; ran = x }) s host wire (ran_answer t r.note r.taken r.first r.wire)
refines_run f = record {
  code = refl;
  note = f.step.note;
  taken = f.taken;
  given = f.step.on_first;
  sent = f.step.on_wire;
  view = f.step.sees;
  clean = f.step.kept.clean;
  whole = f.step.kept.whole;
  same = λ n. absurd (n refl);
}

pub refines_refused : (s : Bulletin) (bytes host wire : List ℕ) → cannot_begin (length bytes) (length host) (length wire) ≡ true
    → RefinesRun (network_run (view_bulletin s) bytes) s (untouched host) (untouched wire) (refused_run s NoRoom)
refines_refused s bytes host wire h = rw (run_refused lawful (view_bulletin s) bytes (length host) (length wire) h) (record {
  code = refl;
  note = refl;
  taken = refl;
  given = wrote_none host;
  sent = wrote_none wire;
  view = refl;
  clean = λ k. k;
  whole = λ k. k;
  same = λ _. refl;
})
