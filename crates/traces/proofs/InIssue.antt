-- The history of a trace is that of the rules' session, whose uses are in the issue of their definitions.
use mathlib.Core.Path.{◌≡◌, refl, sym, ap, ap₂, subst, ◌∙◌}
use mathlib.Core.List.{List, [], ◌∷◌, map}
use Prim.Native.Nat.{ℕ}
use lib.ListN.{length}
use Rattle.lists.proofs.ReadOff.{read_off}
use Rattle.codes.specs.declared.Code.TheVariants.{Done}
use Rattle.printer.specs.Refinement.{view_printer}
use Rattle.bulletin.specs.Refinement.{view_bulletin}
use Rattle.bulletin.specs.State as rules-bulletin
use Rattle.bulletin.specs.Session as BS
use Rattle.bulletin.specs.declared.Bulletin.{Bulletin}
use Rattle.bulletin.proofs.FreshBulletin.{fresh_view}
use Rattle.read_back.specs.Ends.{reached, NetworkCalls}
use Rattle.read_back.specs.ReadBack.{Demanded}
use Rattle.read_back.specs.History.{Made, history_from, history, events, DefinedInIssue}
use Rattle.read_back.specs.InIssue.{use_answer}
use Rattle.read_back.proofs.InIssue.{printed_in_issue}
use Rattle.traces.specs.Chains.{Chain, last_of}
use Rattle.traces.specs.BulletinTraces as B
use Rattle.traces.specs.Traces as P
use Rattle.traces.specs.BothEnds.{sent_bytes, printed_bytes}
use Rattle.traces.specs.InIssue.{made_of, ProgramInIssue}
use Rattle.traces.proofs.BothEnds.{read, written_is, each_prints, run_reached}

-- a call's answer is written down as the rules have it
made_as_ruled : (b : Bulletin) (m : B.AnsweredCall) → B.MeetsContract b m → let a = BS.called (view_bulletin b) (B.call_of m) in
    made_of m ≡ record { call = B.call_of m; code = a.code; wire = a.effect.wire }
made_as_ruled b m g = rw (g.code, read_off g.sent)

history_as_ruled : {b : Bulletin} {ms : List B.AnsweredCall} → B.Trace b ms → map made_of ms ≡ history_from (view_bulletin b) (B.calls_of ms)
unfolding history_from
history_as_ruled Chain.none = refl
history_as_ruled (Chain.more {s = b} {m} {ms} g gs) =
    ap₂ (λ (x : Made) (xs : List Made). x ∷ xs) (made_as_ruled b m g)
    (history_as_ruled gs ∙ ap (λ (v : rules-bulletin.BulletinState). history_from v (B.calls_of ms)) g.view)

fresh_history : (before : List B.AnsweredCall) → B.TraceFromFresh before → map made_of before ≡ history (B.calls_of before)
fresh_history before f =
    history_as_ruled f.run
    ∙ ap (λ (v : rules-bulletin.BulletinState). history_from v (B.calls_of before)) (ap view_bulletin f.is_fresh ∙ fresh_view)

pub program_in_issue : ProgramInIssue
program_in_issue before f x m u p premise ns reads bytes =
    let b = last_of B.after f.start before in
    let calls = B.calls_of before in
    let w = length m.wire.before in
    let asked : BS.called (view_bulletin b) (B.call_of m) ≡ use_answer calls x w = rw (run_reached before f, u.args) in
    let done : (use_answer calls x w).code ≡ Done = ap (λ (a : rules-bulletin.CallEffect). a.code) (sym asked) ∙ sym u.meets.code ∙ u.code in
    let sent : sent_bytes m ≡ (use_answer calls x w).effect.wire = read_off u.meets.sent ∙ ap (λ (a : rules-bulletin.CallEffect). a.effect.wire) asked in
    let printed =
    printed_in_issue calls x w done (view_printer p)
    (subst (λ (v : rules-bulletin.BulletinState). Demanded v (view_printer p)) (run_reached before f) premise) (P.calls_of ns)
    (subst (λ (sent_bytes : List ℕ). NetworkCalls sent_bytes (P.calls_of ns)) sent bytes) in
    let given = read reads in
    record {
      text = printed.text;
      in_issue = subst (λ (h : List Made). DefinedInIssue x printed.text (events h)) (sym (fresh_history before f)) printed.in_issue;
      each = each_prints given printed.read.each;
      paper = written_is _ (λ a. a.effect.paper) printed_bytes (λ a n o. read_off o.paper) given ∙ printed.read.paper;
    }
