-- Two sessions in parts stay related byte by byte, and so demand 3 holds of runs.
use mathlib.Core.Path.{◌≡◌, refl, sym, ap, ap₂, ◌∙◌}
use mathlib.Core.Bool.{Bool, true, false, false≢true}
use mathlib.Core.List.{List, [], ◌∷◌, ◌++◌, map, map-id, flat_map}
use Prim.Native.Nat.{ℕ, suc, ◌+◌, ◌-◌}
use native.Mathlib.Omega.{arith}
use lib.ListN.{length, take, length-append}
use Rattle.codes.specs.Answers.{first_note, no_room, is_clear}
use Rattle.reader.specs.NetworkRun.{RunEffect, stays, ran_from, first_code, run_from, calls_by}
use Rattle.reader.proofs.NetworkRun.{ran_none, ran_full, ran_next, ran_last}
use Rattle.printer.specs.State.{PrinterState, Effect, fresh}
use Rattle.printer.specs.Calls.{network_call, waiting_count}
use Rattle.printer.specs.Network.{network_read}
use Rattle.printer.specs.Session.{Call, called, answers_from}
use Rattle.printer.specs.Session.Call.{network, key}
use Rattle.printer.specs.NetworkRun.{printer_byte, calls_of}
use Rattle.printer.specs.NetworkEnd.{lawful, call_done, call_refused}
use Rattle.printer.specs.KeyOrder.{accepts, of_accepted, take_ups}
use Rattle.noninterference.specs.TwoSessions.{AllUnprinted, AllSameWidth, SameSeen, SameSent}
use Rattle.printer.proofs.KeyOrder.{Held, fresh_held, onward}
use Rattle.noninterference.proofs.Together.{Alike, Later, related_count}
use Rattle.noninterference.proofs.Together.Related.{related}
use Rattle.noninterference.proofs.Calls.{RelatedEnds, Keeping, same_kept, replaced_kept}
use Rattle.noninterference.proofs.Calls.RelatedEnds.{related_ends}
use Rattle.noninterference.proofs.Sessions.{with_mark}
use Rattle.traces.specs.Chains.{Beside}
use Rattle.traces.specs.NetworkRuns.{Bytes, Part, one, run, after_part, answered_from, one_by_one}
use Rattle.traces.specs.TwoNetworkRuns.{AgreeInParts, marks_over, SameRun, RunsTwoSessions}

-- two states, and the hypotheses on all calls from them on; ms are the marks of the keys that wait
record Hypotheses (ms marks marks' : List Bool) (cs ds : List Call) (s t : PrinterState) : Type 0 where
  held : Held s
  ends : RelatedEnds ms s t
  gathered : length s.rcte.gathered ≡ length t.rcte.gathered
  unprinted : AllUnprinted (ms ++ of_accepted marks cs (answers_from s cs)) (take_ups (answers_from s cs))
  unprinted' : AllUnprinted (ms ++ of_accepted marks' ds (answers_from t ds)) (take_ups (answers_from t ds))
  same_width : AllSameWidth (ms ++ of_accepted marks cs (answers_from s cs)) (take_ups (answers_from s cs)) (take_ups (answers_from t ds))

-- one call of each, and what is left
record Next (marks marks' : List Bool) (c d : Call) (cs ds : List Call) (s t : PrinterState) : Type 0 where
  seen : SameSeen (called s c) (called t d)
  sent : SameSent (called s c) (called t d)
  left : List Bool
  later : Hypotheses left marks marks' cs ds (called s c).effect.state (called t d).effect.state

next : (m : Bool) {ms marks marks' : List Bool} {c d : Call} {cs ds : List Call} {s t : PrinterState} → ((n : Later) → Keeping n m ms s t c d)
    → Hypotheses ms (m ∷ marks) (m ∷ marks') (c ∷ cs) (d ∷ ds) s t → Next marks marks' c d cs ds s t
unfolding answers_from of_accepted flat_map
next m {ms} {marks} {marks'} {c} {d} {cs} {ds} {s} {t} keeps h =
    let a = called s c in
    let b = called t d in
    let xs = answers_from a.effect.state cs in
    let ys = answers_from b.effect.state ds in
    let n : Later = record { marks = of_accepted marks cs xs; marks' = of_accepted marks' ds ys; takes = take_ups xs; takes' = take_ups ys } in
    let k = keeps n (rw (with_mark ms m n.marks (accepts c a)) at h.unprinted, rw (with_mark ms m n.marks' (accepts d b)) at h.unprinted') in
    let w = k.sent h.gathered (rw (with_mark ms m n.marks (accepts c a)) at h.same_width) in
    record {
      seen = k.seen;
      sent = w.same;
      left = k.left;
      later = record { held = (onward s c h.held).waits; ends = k.step; gathered = w.gathered; unprinted = k.unprinted_both.0; unprinted' = k.unprinted_both.1; same_width = w.same_width_both };
    }

-- a network byte in both that has room
record NextByte (marks marks' : List Bool) (b p w : ℕ) (cs ds : List Call) (s t : PrinterState) : Type 0 where
  note : (network_read s b).note ≡ (network_read t b).note
  paper : (network_read s b).paper ≡ (network_read t b).paper
  wire : length (network_read s b).wire ≡ length (network_read t b).wire
  waiting : waiting_count (network_read s b).state ≡ waiting_count (network_read t b).state
  left : List Bool
  later : Hypotheses left marks marks' cs ds (network_read s b).state (network_read t b).state

next_byte : {ms marks marks' : List Bool} {b p w : ℕ} {cs ds : List Call} {s t : PrinterState} → no_room p w ≡ false
    → Hypotheses ms (false ∷ marks) (false ∷ marks') (network b p w ∷ cs) (network b p w ∷ ds) s t → NextByte marks marks' b p w cs ds s t
unfolding called
next_byte {ms} {marks} {marks'} {b} {p} {w} {cs} {ds} {s} {t} room h =
    let x = next false (λ n. same_kept n s t (network b p w) h.held h.ends) h in
    let here = (call_done s b p w room).1 in
    let there = (call_done t b p w room).1 in
    record {
      note = sym (ap (λ (d : Effect). d.note) here) ∙ x.seen.note ∙ ap (λ (d : Effect). d.note) there;
      paper = sym (ap (λ (d : Effect). d.paper) here) ∙ x.seen.paper ∙ ap (λ (d : Effect). d.paper) there;
      wire = sym (ap (λ (d : Effect). length d.wire) here) ∙ x.sent.count ∙ ap (λ (d : Effect). length d.wire) there;
      waiting = sym (ap (λ (d : Effect). waiting_count d.state) here) ∙ x.seen.waiting ∙ ap (λ (d : Effect). waiting_count d.state) there;
      left = x.left;
      later = rw (here, there) at x.later;
    }

record SameRan (q r : RunEffect Effect) : Type 0 where
  note : q.effect.note ≡ r.effect.note
  taken : q.taken ≡ r.taken
  paper : q.effect.paper ≡ r.effect.paper
  wire : length q.effect.wire ≡ length r.effect.wire
  waiting : waiting_count q.effect.state ≡ waiting_count r.effect.state

abbrev ran : PrinterState → List ℕ → ℕ → ℕ → RunEffect Effect
ran s bs p w = ran_from printer_byte s bs p w

-- a run's calls with those that follow, C of the state behind it; and their marks
module _ {X : Type 0} (f : Call → X) (C : PrinterState → List X) where
  over : PrinterState → List ℕ → ℕ → ℕ → List X
  over s bs p w = map f (calls_of s (take (ran s bs p w).taken bs) p w) ++ C (ran s bs p w).effect.state

  over_none : (s : PrinterState) (bs : List ℕ) (p w : ℕ) → ran s bs p w ≡ stays printer_byte s → over s bs p w ≡ C s
  unfolding over calls_by
  over_none s bs p w e = rw e

  module _ (s : PrinterState) (b : ℕ) (bs : List ℕ) (p w : ℕ) (room : no_room p w ≡ false) where
    over_next : is_clear (network_read s b).note ≡ true
        → over s (b ∷ bs) p w ≡ f (network b p w) ∷ over (network_read s b).state bs (p - length (network_read s b).paper) (w - length (network_read s b).wire)
    unfolding over calls_by
    over_next c =
        let q = ran (network_read s b).state bs (p - length (network_read s b).paper) (w - length (network_read s b).wire) in
        let sums : 1 + q.taken ≡ suc q.taken = omega arith in
        rw (ran_next lawful s b bs p w room c, sums, (call_done s b p w room).1)

    over_last : is_clear (network_read s b).note ≡ false → over s (b ∷ bs) p w ≡ f (network b p w) ∷ C (network_read s b).state
    unfolding over calls_by
    over_last c = rw (ran_last lawful s b bs p w room c)

same_waiting : {ms : List Bool} {s t : PrinterState} → RelatedEnds ms s t → waiting_count s ≡ waiting_count t
same_waiting (related_ends s r) = related_count r

-- a run in both sessions: F and G are the calls that follow and their marks, of the state behind it
module _ (F F' : PrinterState → List Call) (G G' : PrinterState → List Bool) where
  Before : List Bool → PrinterState → PrinterState → List ℕ → (p w q v : ℕ) → Type 0
  Before ms s t bs p w q v = Hypotheses ms (over (λ c. false) G s bs p w) (over (λ c. false) G' t bs q v) (over (λ c. c) F s bs p w) (over (λ c. c) F' t bs q v) s t

  same_sizes : (ms : List Bool) (s t : PrinterState) (bs : List ℕ) (p w q v : ℕ) → p ≡ q → w ≡ v → Before ms s t bs p w q v → Before ms s t bs p w p w
  unfolding Before
  same_sizes ms s t bs p w q v e f h = rw (e, f) (rw (e, f) at h)

  record AfterRuns (s t : PrinterState) (q r : RunEffect Effect) : Type 0 where
    same : SameRan q r
    left : List Bool
    later : Hypotheses left (G q.effect.state) (G' r.effect.state) (F q.effect.state) (F' r.effect.state) q.effect.state r.effect.state

  both_stay : (ms : List Bool) (s t : PrinterState) (bs : List ℕ) (p w : ℕ) → ran s bs p w ≡ stays printer_byte s → ran t bs p w ≡ stays printer_byte t
      → Before ms s t bs p w p w → AfterRuns s t (ran s bs p w) (ran t bs p w)
  unfolding Before
  both_stay ms s t bs p w e f h =
      let k = rw (over_none (λ c. false) G s bs p w e, over_none (λ c. false) G' t bs p w f, over_none (λ c. c) F s bs p w e, over_none (λ c. c) F' t bs p w f) at h in
      rw (e, f) (record {
        same = record { note = refl; taken = refl; paper = refl; wire = refl; waiting = same_waiting k.ends };
        left = ms;
        later = k;
      })

  module _ (ms : List Bool) (s t : PrinterState) (b : ℕ) (bs : List ℕ) (p w : ℕ) (room : no_room p w ≡ false) (h : Before ms s t (b ∷ bs) p w p w) where
    -- the note of the byte ended neither run
    both_next : is_clear (network_read s b).note ≡ true → is_clear (network_read t b).note ≡ true
        → ((left : List Bool) (q v : ℕ) → Before left (network_read s b).state (network_read t b).state bs q v q v
        → AfterRuns (network_read s b).state (network_read t b).state (ran (network_read s b).state bs q v) (ran (network_read t b).state bs q v))
        → AfterRuns s t (ran s (b ∷ bs) p w) (ran t (b ∷ bs) p w)
    unfolding Before
    both_next c d more =
        let k = rw (over_next (λ c. false) G s b bs p w room c, over_next (λ c. false) G' t b bs p w room d, over_next (λ c. c) F s b bs p w room c, over_next (λ c. c) F' t b bs p w room d) at h in
        let x = next_byte room k in
        let q = p - length (network_read s b).paper in
        let v = w - length (network_read s b).wire in
        let paper_left : q ≡ p - length (network_read t b).paper = rw x.paper in
        let wire_left : v ≡ w - length (network_read t b).wire = rw x.wire in
        let rest = more x.left q v (same_sizes x.left (network_read s b).state (network_read t b).state bs q v _ _ paper_left wire_left x.later) in
        rw (ran_next lawful s b bs p w room c, ran_next lawful t b bs p w room d, ← paper_left, ← wire_left)
        (record {
          same = record {
            note = ap₂ first_note x.note rest.same.note;
            taken = ap (λ (n : ℕ). 1 + n) rest.same.taken;
            paper = ap₂ (λ (l m : List ℕ). l ++ m) x.paper rest.same.paper;
            wire = simp length-append (omega (arith, x.wire, rest.same.wire));
            waiting = rest.same.waiting;
          };
          left = rest.left;
          later = rest.later;
        })

    -- it ended both
    both_last : is_clear (network_read s b).note ≡ false → is_clear (network_read t b).note ≡ false → AfterRuns s t (ran s (b ∷ bs) p w) (ran t (b ∷ bs) p w)
    unfolding Before
    both_last c d =
        let k = rw (over_last (λ c. false) G s b bs p w room c, over_last (λ c. false) G' t b bs p w room d, over_last (λ c. c) F s b bs p w room c, over_last (λ c. c) F' t b bs p w room d) at h in
        let x = next_byte room k in
        rw (ran_last lawful s b bs p w room c, ran_last lawful t b bs p w room d)
        (record {
          same = record { note = x.note; taken = refl; paper = x.paper; wire = x.wire; waiting = x.waiting };
          left = x.left;
          later = x.later;
        })

    -- it cannot have ended one alone
    one_last : is_clear (network_read s b).note ≡ true → is_clear (network_read t b).note ≡ false → ⊥
    unfolding Before
    one_last c d =
        let k = rw (over_next (λ c. false) G s b bs p w room c, over_last (λ c. false) G' t b bs p w room d, over_next (λ c. c) F s b bs p w room c, over_last (λ c. c) F' t b bs p w room d) at h in
        false≢true (sym d ∙ ap is_clear (sym (next_byte room k).note) ∙ c)

    other_last : is_clear (network_read s b).note ≡ false → is_clear (network_read t b).note ≡ true → ⊥
    unfolding Before
    other_last c d =
        let k = rw (over_last (λ c. false) G s b bs p w room c, over_next (λ c. false) G' t b bs p w room d, over_last (λ c. c) F s b bs p w room c, over_next (λ c. c) F' t b bs p w room d) at h in
        false≢true (sym c ∙ ap is_clear (next_byte room k).note ∙ d)

  runs_together : (bs : List ℕ) (ms : List Bool) (s t : PrinterState) (p w : ℕ) → Before ms s t bs p w p w → AfterRuns s t (ran s bs p w) (ran t bs p w)
  runs_together [] ms s t p w h = both_stay ms s t [] p w (ran_none lawful s p w) (ran_none lawful t p w) h
  runs_together (b ∷ bs) ms s t p w h =
      go (no_room p w) (is_clear (network_read s b).note) (is_clear (network_read t b).note) refl refl refl
      (λ left q v k. runs_together bs left (network_read s b).state (network_read t b).state q v k)
    where
      go : (f c d : Bool) → no_room p w ≡ f → is_clear (network_read s b).note ≡ c → is_clear (network_read t b).note ≡ d
          → ((left : List Bool) (q v : ℕ) → Before left (network_read s b).state (network_read t b).state bs q v q v
          → AfterRuns (network_read s b).state (network_read t b).state (ran (network_read s b).state bs q v) (ran (network_read t b).state bs q v))
          → AfterRuns s t (ran s (b ∷ bs) p w) (ran t (b ∷ bs) p w)
      go true c d full e f more = both_stay ms s t (b ∷ bs) p w (ran_full lawful s (b ∷ bs) p w full) (ran_full lawful t (b ∷ bs) p w full) h
      go false true true room e f more = both_next ms s t b bs p w room h e f more
      go false false false room e f more = both_last ms s t b bs p w room h e f
      go false true false room e f more = absurd (one_last ms s t b bs p w room h e f)
      go false false true room e f more = absurd (other_last ms s t b bs p w room h e f)

-- a run's code depends on the sizes alone
same_code : (s t : PrinterState) (bs : List ℕ) (p w : ℕ) → first_code printer_byte s bs p w ≡ first_code printer_byte t bs p w
same_code s t [] p w = refl
same_code s t (b ∷ bs) p w = go (no_room p w) refl
  where
    go : (f : Bool) → no_room p w ≡ f → (network_call s b p w).code ≡ (network_call t b p w).code
    go true e = call_refused s b p w e ∙ sym (call_refused t b p w e)
    go false e = (call_done s b p w e).0 ∙ sym (call_done t b p w e).0

-- the calls of a run and those behind it, as they stand in a session in parts
calls_over : (s : PrinterState) (r : Bytes) (xs : List Part) → one_by_one s (run r ∷ xs) ≡ over (λ c. c) (λ t. one_by_one t xs) s r.bytes r.paper r.wire
unfolding one_by_one over run_from
calls_over s r xs =
    ap (λ (cs : List Call). cs ++ one_by_one (ran s r.bytes r.paper r.wire).effect.state xs)
    (sym (map-id (calls_of s (take (ran s r.bytes r.paper r.wire).taken r.bytes) r.paper r.wire)))

marks_over_lem : (s : PrinterState) (m : Bool) (ms : List Bool) (r : Bytes) (xs : List Part)
    → marks_over s (m ∷ ms) (run r ∷ xs) ≡ over (λ c. false) (λ t. marks_over t ms xs) s r.bytes r.paper r.wire
unfolding marks_over over run_from
marks_over_lem s m ms r xs = refl

InParts : List Bool → List Bool → List Part → List Part → PrinterState → PrinterState → Type 0
InParts ms marks xs ys s t = Hypotheses ms (marks_over s marks xs) (marks_over t marks ys) (one_by_one s xs) (one_by_one t ys) s t

-- a run in both, and then the other parts
run_first : (ms marks : List Bool) (r : Bytes) (xs ys : List Part) (s t : PrinterState) → InParts ms (false ∷ marks) (run r ∷ xs) (run r ∷ ys) s t
    → ((left : List Bool) → InParts left marks xs ys (after_part s (run r)) (after_part t (run r)) → Beside SameRun (answered_from (after_part s (run r)) xs) (answered_from (after_part t (run r)) ys))
    → Beside SameRun (answered_from s (run r ∷ xs)) (answered_from t (run r ∷ ys))
unfolding InParts Before answered_from run_from
run_first ms marks r xs ys s t h others =
    let k = rw (marks_over_lem s false marks r xs, marks_over_lem t false marks r ys, calls_over s r xs, calls_over t r ys) at h in
    let x = runs_together (λ t. one_by_one t xs) (λ t. one_by_one t ys) (λ t. marks_over t marks xs) (λ t. marks_over t marks ys) r.bytes ms s t r.paper r.wire k in
    Beside.more
    (record {
      code = same_code s t r.bytes r.paper r.wire;
      note = x.same.note;
      taken = x.same.taken;
      paper = x.same.paper;
      wire = x.same.wire;
      waiting = x.same.waiting;
    })
    (others x.left x.later)

-- a call in both, and then the other parts
call_first : (m : Bool) (ms marks : List Bool) (c d : Call) (xs ys : List Part) (s t : PrinterState) → ((n : Later) → Keeping n m ms s t c d)
    → InParts ms (m ∷ marks) (one c ∷ xs) (one d ∷ ys) s t
    → ((left : List Bool) → InParts left marks xs ys (called s c).effect.state (called t d).effect.state
    → Beside SameRun (answered_from (called s c).effect.state xs) (answered_from (called t d).effect.state ys))
    → Beside SameRun (answered_from s (one c ∷ xs)) (answered_from t (one d ∷ ys))
unfolding InParts answered_from one_by_one marks_over
call_first m ms marks c d xs ys s t keeps h others =
    let x = next m keeps h in
    Beside.more
    (record {
      code = x.seen.code;
      note = x.seen.note;
      taken = refl;
      paper = x.seen.paper;
      wire = x.sent.count;
      waiting = x.seen.waiting;
    })
    (others x.left x.later)

parts_together : {marks : List Bool} {xs ys : List Part} → AgreeInParts marks xs ys → (ms : List Bool) (s t : PrinterState) → InParts ms marks xs ys s t
    → Beside SameRun (answered_from s xs) (answered_from t ys)
unfolding answered_from InParts
parts_together AgreeInParts.none ms s t h = Beside.none
parts_together (AgreeInParts.same {x = one c} {ms = marks} {xs = xs} {ys = ys} g) ms s t h =
    call_first false ms marks c c xs ys s t (λ n. same_kept n s t c h.held h.ends) h
    (λ left k. parts_together g left (called s c).effect.state (called t c).effect.state k)
parts_together (AgreeInParts.same {x = run r} {ms = marks} {xs = xs} {ys = ys} g) ms s t h =
    run_first ms marks r xs ys s t h (λ left k. parts_together g left (after_part s (run r)) (after_part t (run r)) k)
parts_together (AgreeInParts.replaced {k = k} {l = l} {p = p} {w = w} {ms = marks} {xs = xs} {ys = ys} i j g) ms s t h =
    call_first true ms marks (key k p w) (key l p w) xs ys s t (λ n. replaced_kept n s t p w p w refl i j h.held h.ends) h
    (λ left z. parts_together g left (called s (key k p w)).effect.state (called t (key l p w)).effect.state z)

pub runs_two_sessions : RunsTwoSessions
unfolding InParts
runs_two_sessions ms xs ys g q r v =
    parts_together g [] fresh fresh
    (record { held = fresh_held; ends = related_ends fresh (related Alike.none); gathered = refl; unprinted = q; unprinted' = r; same_width = v })
