-- A trace of the bulletin end gives the answers of the rules' session.
use mathlib.Core.Path.{◌≡◌, refl, sym, subst, ◌∙◌}
use mathlib.Core.List.{List}
use Rattle.bulletin.specs.State.{BulletinState}
use Rattle.bulletin.specs.Session.{Call, called, answers_from, session}
use Rattle.bulletin.specs.Refinement.{view_bulletin, CleanBulletin, WholeBulletin, fresh_cells}
use Rattle.bulletin.specs.declared.Bulletin.{Bulletin}
use Rattle.bulletin.proofs.Determined.{determined_to_the_byte}
use Rattle.bulletin.proofs.FreshBulletin.{fresh_view, fresh_clean, fresh_whole}
use Rattle.traces.specs.Chains.{Beside}
use Rattle.traces.specs.BulletinTraces.{AnsweredCall, call_of, calls_of, MeetsContract, Trace, after, AsRuled, TraceIsSession, SameState, SameCallsSameStates}
use Rattle.traces.proofs.Chains.{chain_answers, both_beside}

abbrev Tidy : Bulletin → Type 0
Tidy s = CleanBulletin s × WholeBulletin s

step : (s : Bulletin) (m : AnsweredCall) → MeetsContract s m → Tidy s
    → AsRuled (called (view_bulletin s) (call_of m)) m × (view_bulletin (after m) ≡ (called (view_bulletin s) (call_of m)).effect.state) × Tidy (after m)
step s m g t = (
  record { code = g.code; note = g.note; host = g.given; wire = g.sent; view = g.view; clean = g.clean t.0; whole = g.whole t.1 },
  g.view,
  (g.clean t.0, g.whole t.1),
)

run_from : {s : Bulletin} {ms : List AnsweredCall} → Trace s ms → Tidy s → Beside AsRuled (answers_from (view_bulletin s) (calls_of ms)) ms
unfolding answers_from
run_from r t = chain_answers called (λ a. a.effect.state) answers_from (λ v. refl) (λ v c cs. refl) view_bulletin call_of after MeetsContract Tidy AsRuled step r t

pub run_is_session : TraceIsSession
run_is_session ms f =
    let run : Trace fresh_cells ms = rw f.is_fresh at f.run in
    rw (← fresh_view) (run_from run (fresh_clean, fresh_whole))

pub same_calls_same_states : SameCallsSameStates
same_calls_same_states ms ns f g e =
    both_beside AsRuled AsRuled SameState
    (λ a m n r t. determined_to_the_byte _ _ r.whole t.whole r.clean t.clean (r.view ∙ sym t.view))
    (run_is_session ms f)
    (subst (λ (cs : List Call). Beside AsRuled (session cs) ns) (sym e) (run_is_session ns g))
