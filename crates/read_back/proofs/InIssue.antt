-- A use sends the text of its byte's last DEFINE, which was accepted, and made in the issue in force.
use mathlib.Core.Path.{◌≡◌, refl, sym, ap, subst, ◌∙◌}
use mathlib.Core.Bool.{Bool, true, false, cond, false≢true}
use mathlib.Core.List.{List, [], ◌∷◌, ◌++◌, append-nil, append_assoc}
use Prim.Native.Nat.{ℕ}
use borrow.Author.Tests.{eqb-true, not-false}
use Rattle.codes.specs.Answers.{is_done}
use Rattle.codes.specs.declared.Code.TheVariants.{Done}
use Rattle.codes.proofs.Guards.{NoneHolds, Judged, stopped, passed, judged}
use Rattle.reader.specs.Reading.{ReaderState}
use Rattle.sent_macros.specs.Sending.{Sent, sent_of, accepted_text}
use Rattle.issues.specs.Issues.{kept_of}
use Rattle.bulletin.specs.State as B
use Rattle.bulletin.specs.Calls.{use_guards, use_call, use_data}
use Rattle.bulletin.specs.Session as BS
use Rattle.bulletin.specs.EmptyTable.{EmptyWhileOff}
use Rattle.bulletin.proofs.Invariant.{call_kept}
use Rattle.bulletin.proofs.EmptyTable.{empty_steps}
use Rattle.read_back.specs.Ends.{bulletin_answer, bulletin_answers, bulletin_after, reached, NetworkCalls}
use Rattle.read_back.specs.History.{Made, Event, accepted, history_from, history, events_from, events, call_events, reader_after, issue_behind, DefinedInIssue}
use Rattle.read_back.specs.InIssue.{UsedInIssue, PrintedInIssue}
use Rattle.read_back.proofs.Sent.{accepted_is}
use Rattle.read_back.proofs.ReadBack.{macro_read_back, demanded_agree}
use Rattle.read_back.proofs.Changes.{seen_events, seen_reader, call_seen}
use Rattle.read_back.proofs.History.{Accepted, Stands, Follows, in_neither, change_follows, fresh_follows}

-- the events of a call that is done come first, and those behind it are read from where the reader then stands
events_cons : (r : ReaderState) (s : B.BulletinState) (c : BS.Call) (cs : List BS.Call) → let a = bulletin_answer s c in
    events_from r (history_from s (c ∷ cs)) ≡ seen_events r c a ++ events_from (seen_reader r c a) (history_from a.effect.state cs)
unfolding history_from events_from
events_cons r s c cs = go (is_done (bulletin_answer s c).code)
  where
    a : B.CallEffect
    a = bulletin_answer s c

    later : List Made
    later = history_from a.effect.state cs

    go : (t : Bool) → cond t (call_events r c a.effect.wire ++ events_from (reader_after r c) later) (events_from r later)
        ≡ cond t (call_events r c a.effect.wire) [] ++ events_from (cond t (reader_after r c) r) later
    go true = refl
    go false = refl

abbrev FollowsState : B.BulletinState → List Event → Type 0
FollowsState s es = Follows s.table s.issues es

session_follows : (s : B.BulletinState) (cs : List BS.Call) (es : List Event) → EmptyWhileOff s → FollowsState s es
    → FollowsState (bulletin_after s (bulletin_answers s cs)) (es ++ events_from s.reader (history_from s cs))
unfolding bulletin_after BS.answers_from history_from events_from
session_follows s [] es empty f = rw (append-nil es) f
session_follows s (c ∷ cs) es empty f =
    let a = bulletin_answer s c in
    let now = seen_events s.reader c a in
    let later : ReaderState → List Event = λ r. events_from r (history_from a.effect.state cs) in
    let seen = call_seen s empty c in
    let split = ap (λ (r : ReaderState). now ++ later r) seen.reader ∙ sym (events_cons s.reader s c cs) in
    subst (FollowsState (bulletin_after s (bulletin_answers s (c ∷ cs))))
    (append_assoc es now (later a.effect.state.reader) ∙ ap (λ (l : List Event). es ++ l) split)
    (session_follows a.effect.state cs (es ++ now) (call_kept EmptyWhileOff empty_steps s c empty)
    (change_follows s.table s.issues es f seen.change))

in_issue_lem : (x : ℕ) (t : List ℕ) (es : List Event) → Accepted (issue_behind es) x t es → DefinedInIssue x t es
in_issue_lem x t es a =
    let p = a.pending in
    record {
      before = p.before;
      meanwhile = p.meanwhile;
      since = a.since;
      are = a.are ∙ ap (λ (l : List Event). l ++ accepted x ∷ a.since) p.are;
      answered = p.unanswered;
      last = λ s. in_neither p.meanwhile a.since (p.last s) (a.last s);
      issue = p.made;
    }

-- what a use that is not refused meets
use_done : (s : B.BulletinState) (x w : ℕ) → (BS.called s (BS.use_macro x w)).code ≡ Done
    → NoneHolds (use_guards s x w) × (BS.called s (BS.use_macro x w) ≡ B.done (B.sends (x ∷ []) s))
unfolding BS.called use_call
use_done s x w h = go (judged (use_guards s x w) (B.refused s) (B.done (B.sends (x ∷ []) s)) (refl, (refl, (refl, (refl, (refl, tt)))))) h
  where
    go : {given : B.CallEffect} → Judged (use_guards s x w) (B.refused s) (B.done (B.sends (x ∷ []) s)) given → given.code ≡ Done
        → NoneHolds (use_guards s x w) × (given ≡ B.done (B.sends (x ∷ []) s))
    go (stopped c n e) d = absurd (false≢true (sym n ∙ ap is_done (sym (ap (λ (a : B.CallEffect). a.code) e) ∙ d)))
    go (passed n e) d = (n, e)

reached_follows : (session : List BS.Call) → FollowsState (reached session) (events (history session))
reached_follows session = session_follows B.fresh session [] (λ off. refl) fresh_follows

used : (session : List BS.Call) (x w : ℕ) → NoneHolds (use_guards (reached session) x w)
    → DefinedInIssue x (use_data (reached session) x) (events (history session))
unfolding use_data
used session x w n =
    let b = reached session in
    let es = events (history session) in
    let f = reached_follows session in
    let has = accepted_is (sent_of b.table x) (not-false _ n.1.1.1.0) in
    let same : kept_of b.issues x ≡ issue_behind es = eqb-true _ _ (not-false _ n.1.1.1.1.0) ∙ f.present in
    in_issue_lem x (accepted_text (sent_of b.table x)) es
    (subst (λ (m : ℕ). Accepted m x (accepted_text (sent_of b.table x)) es) same
    (subst (λ (v : Sent). Stands (kept_of b.issues x) x v es) has (f.stands x)))

pub used_in_issue : UsedInIssue
used_in_issue session x w h =
    let u = use_done (reached session) x w h in (ap (λ (a : B.CallEffect). a.effect.wire) u.1, used session x w u.0)

pub printed_in_issue : PrintedInIssue
unfolding use_data
printed_in_issue session x w h p d calls n =
    let b = reached session in
    let u = use_done b x w h in
    let has = accepted_is (sent_of b.table x) (not-false _ u.0.1.1.1.0) in
    record {
      text = use_data b x;
      in_issue = used session x w u.0;
      read =
          macro_read_back b p (demanded_agree b p d) (not-false (B.bm_in_force b) u.0.1.0) x (use_data b x) has calls
          (subst (λ (bytes : List ℕ). NetworkCalls bytes calls) (ap (λ (a : B.CallEffect). a.effect.wire) u.1) n);
    }
