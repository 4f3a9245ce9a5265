-- The states of two sessions stay related from their first call to their last.
use mathlib.Core.Path.{◌≡◌, refl, sym}
use mathlib.Core.Bool.{Bool, true, false, cond}
use mathlib.Core.List.{List, [], ◌∷◌, ◌++◌, append_assoc, flat_map}
use lib.ListN.{length}
use Rattle.printer.specs.State.{PrinterState, fresh}
use Rattle.printer.specs.Session.{Call, called, answers_from}
use Rattle.printer.specs.Session.Call.{key}
use Rattle.printer.specs.KeyOrder.{accepts, of_accepted, take_ups}
use Rattle.noninterference.specs.TwoSessions.{Agree, AllUnprinted, AllSameWidth, Each, SameSeen, SameSent, TwoSessions}
use Rattle.noninterference.specs.TwoSessions.Agree.{none, same, replaced}
use Rattle.printer.proofs.KeyOrder.{Held, fresh_held, onward}
use Rattle.noninterference.proofs.Together.{Alike, Later}
use Rattle.noninterference.proofs.Together.Related.{related}
use Rattle.noninterference.proofs.Calls.{RelatedEnds, marks_with, Keeping, same_kept, replaced_kept}
use Rattle.noninterference.proofs.Calls.RelatedEnds.{related_ends}

-- the marks of the waiting keys, and then those of the keys accepted from here on
abbrev marks_from : List Bool → List Bool → List Call → PrinterState → List Bool
marks_from ms marks cs s = ms ++ of_accepted marks cs (answers_from s cs)

abbrev UnprintedFrom : List Bool → List Bool → List Call → PrinterState → Type 0
UnprintedFrom ms marks cs s = AllUnprinted (marks_from ms marks cs s) (take_ups (answers_from s cs))

record Both (ms marks : List Bool) (cs ds : List Call) (s t : PrinterState) : Type 0 where
  seen : Each SameSeen (answers_from s cs) (answers_from t ds)
  sent : length s.rcte.gathered ≡ length t.rcte.gathered
      → AllSameWidth (marks_from ms marks cs s) (take_ups (answers_from s cs)) (take_ups (answers_from t ds))
      → Each SameSent (answers_from s cs) (answers_from t ds)

pub with_mark : (ms : List Bool) (m : Bool) (later : List Bool) (b : Bool) → ms ++ (cond b (m ∷ []) [] ++ later) ≡ marks_with ms b m ++ later
with_mark ms m later true = sym (append_assoc ms (m ∷ []) later)
with_mark ms m later false = refl

-- a call of each session, and then the others
first : (m : Bool) (ms marks : List Bool) (c d : Call) (cs ds : List Call) (s t : PrinterState)
    → (let s' = (called s c).effect.state in let t' = (called t d).effect.state in
    ((n : Later) → Keeping n m ms s t c d)
    → ((left : List Bool) → RelatedEnds left s' t' → UnprintedFrom left marks cs s' → UnprintedFrom left marks ds t' → Both left marks cs ds s' t')
    → UnprintedFrom ms (m ∷ marks) (c ∷ cs) s → UnprintedFrom ms (m ∷ marks) (d ∷ ds) t → Both ms (m ∷ marks) (c ∷ cs) (d ∷ ds) s t)
unfolding answers_from of_accepted flat_map
first m ms marks c d cs ds s t keeps rest q r =
    let a = called s c in
    let b = called t d in
    let xs = answers_from a.effect.state cs in
    let ys = answers_from b.effect.state ds in
    let n : Later = record { marks = of_accepted marks cs xs; marks' = of_accepted marks ds ys; takes = take_ups xs; takes' = take_ups ys } in
    let k = keeps n (rw (with_mark ms m n.marks (accepts c a)) at q, rw (with_mark ms m n.marks' (accepts d b)) at r) in
    let o = rest k.left k.step k.unprinted_both.0 k.unprinted_both.1 in
    record {
      seen = Each.more k.seen o.seen;
      sent = λ z v.
          let w = k.sent z (rw (with_mark ms m n.marks (accepts c a)) at v) in
          Each.more w.same (o.sent w.gathered w.same_width_both);
    }

sessions : {marks : List Bool} {cs ds : List Call} → Agree marks cs ds → (ms : List Bool) (s t : PrinterState) → Held s → RelatedEnds ms s t
    → UnprintedFrom ms marks cs s → UnprintedFrom ms marks ds t → Both ms marks cs ds s t
unfolding answers_from
sessions none ms s t h i = λ q r. record { seen = Each.none; sent = λ z v. Each.none }
sessions (same {c = c} {ms = marks} {cs = cs} {ds = ds} g) ms s t h i =
    first false ms marks c c cs ds s t (λ n. same_kept n s t c h i)
    (λ left j. sessions g left (called s c).effect.state (called t c).effect.state (onward s c h).waits j)
sessions (replaced {k = k} {l = l} {p = p} {w = w} {ms = marks} {cs = cs} {ds = ds} x y g) ms s t h i =
    first true ms marks (key k p w) (key l _ _) cs ds s t (λ n. replaced_kept n s t p w _ _ refl x y h i)
    (λ left j. sessions g left (called s (key k p w)).effect.state (called t (key l _ _)).effect.state (onward s (key k p w) h).waits j)

pub two_sessions : TwoSessions
two_sessions ms cs ds g q r =
    let b = sessions g [] fresh fresh fresh_held (related_ends fresh (related Alike.none)) q r in
    record { seen = b.seen; sent = λ v. b.sent refl v }
