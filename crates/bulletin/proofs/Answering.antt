-- How an answer of the code meets the rule's.
use mathlib.Core.Path.{◌≡◌, refl}
use Rattle.std.specs.Prelude.{Result, Ok, Err}
use mathlib.Core.List.{List}
use Prim.Native.Nat.{ℕ}
use Rattle.lists.specs.Buffers.{Lent, untouched}
use Rattle.lists.proofs.Starts.{wrote_none}
use Rattle.codes.specs.Answers.{Guard, guarded, allowed}
use Rattle.codes.specs.declared.Code.{Code}
use Rattle.codes.proofs.Allowed.{guarded_by}
use Rattle.bulletin.specs.declared.Bulletin.{Bulletin}
use Rattle.bulletin.specs.declared.Step.{Step}
use Rattle.bulletin.specs.declared.Answer.{Answer}
use Rattle.bulletin.specs.State.{Effect, CallEffect, done, refused}
use Rattle.bulletin.specs.Refinement.{view_bulletin, WholeBulletin, RefinesStep, RefinesStepOnWire, RefinesOutcome, RefinesOutcomeOnWire, refusal, answered}

-- a refusal, whatever its code
pub met_refused : {b : Bulletin} {c : Code} {host wire : List ℕ} → RefinesOutcome (refused (view_bulletin b) c) b (untouched host) (untouched wire) (refusal b c)
met_refused {b} {c} {host} {wire} = record {
  code = refl;
  note = refl;
  given = wrote_none host;
  sent = wrote_none wire;
  view = refl;
  clean = λ k. k;
  whole = λ k. k;
  same = λ _. refl;
}

-- a step that was done
pub met_done : {d : Effect} {b : Bulletin} {host wire : Lent} {r : Step} → RefinesStep d b host wire r → WholeBulletin r.state
    → RefinesOutcome (done d) b host wire (answered r)
met_done m w = record {
  code = refl;
  note = m.note;
  given = m.given;
  sent = m.sent;
  view = m.view;
  clean = m.clean;
  whole = λ _. w;
  same = λ n. absurd (n refl);
}

pub refused_on_wire : {b : Bulletin} {c : Code} {wire : List ℕ} → RefinesOutcomeOnWire (refused (view_bulletin b) c) b (untouched wire) (refusal b c)
refused_on_wire = record { met = λ host. met_refused }

pub done_on_wire : {d : Effect} {b : Bulletin} {wire : Lent} {r t : Step} → r ≡ t → RefinesStepOnWire d b wire t → WholeBulletin r.state
    → RefinesOutcomeOnWire (done d) b wire (answered r)
done_on_wire e m w = record { met = λ host. met_done (rw e (m.met host)) w }

-- an answer behind its refusals: r is the code's finding, the code of the first that holds, or that the call may go on
module _ (gs : List Guard) (a : CallEffect) {b : Bulletin} {r : Result (Unit {0}) Code} (first : r ≡ allowed gs) where
  pub stopped_on_wire : {wire : List ℕ} {c : Code} → r ≡ Err c → RefinesOutcomeOnWire (guarded gs (refused (view_bulletin b)) a) b (untouched wire) (refusal b c)
  stopped_on_wire e = rw (guarded_by (refused (view_bulletin b)) a gs, ← first, e) refused_on_wire

  pub passed_on_wire : {wire : Lent} {x : Answer} {u : Unit {0}} → r ≡ Ok u → RefinesOutcomeOnWire a b wire x
      → RefinesOutcomeOnWire (guarded gs (refused (view_bulletin b)) a) b wire x
  passed_on_wire e m = rw (guarded_by (refused (view_bulletin b)) a gs, ← first, e) m
