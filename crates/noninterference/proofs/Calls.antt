-- One call in each of two sessions leaves their states related.
use mathlib.Core.Path.{◌≡◌, refl, sym, ap, ap₂, subst, subst₂, ◌∙◌}
use mathlib.Core.Bool.{Bool, true, false, ◌&&◌, cond}
use mathlib.Core.List.{List, [], ◌∷◌, ◌++◌}
use Prim.Native.Nat.{ℕ}
use lib.ListN.{length, drop}
use lib.Dec.{leb}
use Rattle.lists.proofs.Parts.{unused}
use Rattle.codes.specs.Answers.{no_room, refused_if, is_done, guarded}
use Rattle.codes.specs.declared.Code.{Code}
use Rattle.codes.specs.declared.Code.TheVariants.{Done, NoRoom, QueueFull, BadCommand}
use Rattle.codes.specs.declared.Note.{Note}
use Rattle.codes.specs.declared.Note.TheVariants.{Clear}
use Rattle.keys.specs.declared.Key.{Key}
use Rattle.keys.specs.Keys.{bad_command, key_wire}
use Rattle.negotiation.specs.declared.Sides.{Sides}
use Rattle.negotiation.specs.Table.{is_yes}
use Rattle.rcte.specs.Taking.{sent_paper}
use Rattle.rcte.specs.Control.{RcteState, RcteEffect, wait_room, is_full, pressed}
use Rattle.printer.specs.State.{PrinterState, with_rcte, rcte_in_force, echo_in_force, of_rcte, CallEffect, done, refused}
use Rattle.printer.specs.Calls.{key_sent, key_typed, key_call}
use Rattle.printer.specs.Session.{Call, called}
use Rattle.printer.specs.Session.Call.{network, key, ask, suggest}
use Rattle.printer.specs.KeyOrder.{accepts}
use Rattle.noninterference.specs.TwoSessions.{Typed, AllUnprinted, SameSeen, SameTails, SameSent}
use Rattle.noninterference.specs.TwoSessions.Typed.{char, line}
use Rattle.printer.proofs.Acts.{effect_of}
use Rattle.printer.proofs.Planned.{Answered, network_call_lem, ask_call_lem, suggest_call_lem}
use Rattle.printer.proofs.Order.{Waits}
use Rattle.printer.proofs.KeyOrder.{as_planned}
use Rattle.noninterference.proofs.Pairs.{Beside, same_at_once}
use Rattle.noninterference.proofs.Together.{Related, related_count, related_none, Later, BothUnprinted, BothSameWidth, Together, acts_together, pressed_together, alike_count}
use Rattle.noninterference.proofs.Together.Related.{related}

same_tails : {xs ys : List ℕ} → length xs ≡ length ys → SameTails xs ys
same_tails p one other n k e w u = unused w ∙ ap₂ (λ (m : ℕ) (l : List ℕ). drop m l) p e ∙ sym (unused u)

-- all but the states of RCTE is equal, and these are related
pub data RelatedEnds (ms : List Bool) : PrinterState → PrinterState → Type 0 where
  related_ends : (s : PrinterState) {e f : RcteState} → Related ms e f → RelatedEnds ms (with_rcte s e) (with_rcte s f)

pub record KeptSent (n : Later) (left : List Bool) (a b : CallEffect) : Type 0 where
  pub same : SameSent a b
  pub gathered : length a.effect.state.rcte.gathered ≡ length b.effect.state.rcte.gathered
  pub same_width_both : BothSameWidth n left [] []

pub record StillRelated (n : Later) (ms : List Bool) (g g' : List ℕ) (a b : CallEffect) : Type 0 where
  pub seen : SameSeen a b
  pub left : List Bool
  pub step : RelatedEnds left a.effect.state b.effect.state
  pub unprinted_both : BothUnprinted n left [] []
  pub sent : length g ≡ length g' → BothSameWidth n ms a.effect.taken b.effect.taken → KeptSent n left a b

answer : Code → Note → PrinterState → RcteEffect → CallEffect
answer c i s x = record { code = c; effect = effect_of i s x }

kept : (n : Later) (ms : List Bool) (g g' : List ℕ) (c : Code) (i : Note) (s : PrinterState) {x y : RcteEffect} → Together n ms g g' x y
    → StillRelated n ms g g' (answer c i s x) (answer c i s y)
unfolding answer
kept n ms g g' c i s t = record {
  seen = record { paper = t.paper; code = refl; note = refl; waiting = related_count t.rcte };
  left = t.left;
  step = related_ends s t.rcte;
  unprinted_both = t.unprinted_both;
  sent = λ z v. let w = t.sent z v in record {
    same = record { count = w.wire; paper = same_tails (ap length t.paper); wire = same_tails w.wire };
    gathered = w.gathered;
    same_width_both = w.same_width_both;
  };
}

planned_kept : (n : Later) {ms : List Bool} {x : Sides} {call : RcteState → CallEffect} → Answered x call
    → (e f : RcteState) → Waits (is_yes x.rcte) e → Related ms e f
    → BothUnprinted n ms (call e).effect.taken (call f).effect.taken → StillRelated n ms e.gathered f.gathered (call e) (call f)
unfolding answer
planned_kept n {ms} r e f w a =
    subst₂ (λ x y. BothUnprinted n ms x.effect.taken y.effect.taken → StillRelated n ms e.gathered f.gathered x y)
    (sym (as_planned r e)) (sym (as_planned r f))
    (λ h. kept n ms e.gathered f.gathered r.code r.step.note r.step.others (acts_together n r.step.acts e f w a h))

-- the marks of the waiting keys, with that of a key that is accepted
abbrev pub marks_with : List Bool → Bool → Bool → List Bool
marks_with ms accepted m = cond accepted (ms ++ m ∷ []) ms

-- the hypothesis as a call meets it, of which x and y say whether it accepts a key
abbrev pub UnprintedCall : Later → List Bool → Bool → Bool → Bool → CallEffect → CallEffect → Type 0
UnprintedCall n ms m x y a b =
    AllUnprinted (marks_with ms x m ++ n.marks) (a.effect.taken ++ n.takes)
    × AllUnprinted (marks_with ms y m ++ n.marks') (b.effect.taken ++ n.takes')

-- a call refused in both
unchanged : (n : Later) {ms : List Bool} (s : PrinterState) {e f : RcteState} (c : Code) → Related ms e f → BothUnprinted n ms [] []
    → StillRelated n ms e.gathered f.gathered (refused (with_rcte s e) c) (refused (with_rcte s f) c)
unchanged n {ms} s c a h = record {
  seen = record { paper = refl; code = refl; note = refl; waiting = related_count a };
  left = ms;
  step = related_ends s a;
  unprinted_both = h;
  sent = λ z v. record { same = record { count = refl; paper = same_tails refl; wire = same_tails refl }; gathered = z; same_width_both = v };
}

-- a key that goes out as it is typed is not quiet, so it was not replaced
sent_kept : (n : Later) (m : Bool) (s : PrinterState) (k l : Key) (e f : RcteState) → Beside m k l → Related [] e f
    → BothUnprinted n (m ∷ []) (key_sent (with_rcte s e) k).taken (key_sent (with_rcte s f) l).taken
    → StillRelated n (m ∷ []) e.gathered f.gathered (done (key_sent (with_rcte s e) k)) (done (key_sent (with_rcte s f) l))
sent_kept n m s k l e f i a h =
    let p = same_at_once m i h.0.0 in
    let q : length (key_wire k) ≡ length (key_wire l) = ap (λ x. length (key_wire x)) p in
    let r : sent_paper (echo_in_force s) k ≡ sent_paper (echo_in_force s) l = ap (λ x. sent_paper (echo_in_force s) x) p in
    record {
      seen = record { paper = r; code = refl; note = refl; waiting = related_count a };
      left = [];
      step = related_ends s a;
      unprinted_both = (h.0.1, h.1.1);
      sent = λ z v. record {
        same = record { count = q; paper = same_tails (ap length r); wire = same_tails q };
        gathered = z;
        same_width_both = v.1;
      };
    }

typed_kept : (n : Later) (m : Bool) {ms : List Bool} (s : PrinterState) (k l : Key) (e f : RcteState)
    → Beside m k l → Waits (rcte_in_force s) e → Related ms e f
    → BothUnprinted n (ms ++ m ∷ []) (key_typed (with_rcte s e) k).taken (key_typed (with_rcte s f) l).taken
    → StillRelated n (ms ++ m ∷ []) e.gathered f.gathered (done (key_typed (with_rcte s e) k)) (done (key_typed (with_rcte s f) l))
unfolding key_typed answer
typed_kept n m {ms} s k l e f i w a h = go (rcte_in_force s) refl h
  where
    typed : Bool → RcteState → Key → CallEffect
    typed on e k = done (cond on (of_rcte (pressed e k) (with_rcte s e)) (key_sent (with_rcte s e) k))

    go : (on : Bool) → rcte_in_force s ≡ on → BothUnprinted n (ms ++ m ∷ []) (typed on e k).effect.taken (typed on f l).effect.taken
        → StillRelated n (ms ++ m ∷ []) e.gathered f.gathered (typed on e k) (typed on f l)
    go true p h = kept n (ms ++ m ∷ []) e.gathered f.gathered Done Clear s (pressed_together n m k l i w.unheld a h)
    go false p h =
        subst (λ x. Related x e f → BothUnprinted n (x ++ m ∷ []) (key_sent (with_rcte s e) k).taken (key_sent (with_rcte s f) l).taken
        → StillRelated n (x ++ m ∷ []) e.gathered f.gathered (done (key_sent (with_rcte s e) k)) (done (key_sent (with_rcte s f) l)))
        (sym (related_none a (w.off p))) (λ b g. sent_kept n m s k l e f i b g) a h

same_full : {ms : List Bool} {e f : RcteState} → Related ms e f → is_full e ≡ is_full f
unfolding is_full
same_full (related {h = h} a) = ap (λ x. h && leb wait_room x) (alike_count a)

-- a call of each session
abbrev pub Keeping : Later → Bool → List Bool → PrinterState → PrinterState → Call → Call → Type 0
Keeping n m ms s t c d =
    let a = called s c in let b = called t d in
    UnprintedCall n ms m (accepts c a) (accepts d b) a b → StillRelated n (marks_with ms (accepts c a) m) s.rcte.gathered t.rcte.gathered a b

-- the sizes of the lent buffers matter only for code 1
key_kept : (n : Later) (m : Bool) {ms : List Bool} (s : PrinterState) (k l : Key) (p w p' w' : ℕ) (e f : RcteState)
    → Beside m k l → no_room p w ≡ no_room p' w' → bad_command k ≡ bad_command l → Waits (rcte_in_force s) e → Related ms e f
    → Keeping n m ms (with_rcte s e) (with_rcte s f) (key k p w) (key l p' w')
unfolding called key_call guarded
key_kept n m {ms} s k l p w p' w' e f i r j v a =
    let q = same_full a in
    subst (λ y. Keeps (given e k (no_room p w) (bad_command k) (rcte_in_force s && is_full e)) y) (λ x. given f l (r x) (j x) (rcte_in_force s && q x))
    (go (no_room p w) (bad_command k) (rcte_in_force s && is_full e))
  where
    given : RcteState → Key → Bool → Bool → Bool → CallEffect
    given e k b c d =
        guarded (refused_if b NoRoom ∷ refused_if c BadCommand ∷ refused_if d QueueFull ∷ []) (refused (with_rcte s e)) (done (key_typed (with_rcte s e) k))

    Keeps : CallEffect → CallEffect → Type 0
    Keeps x y = UnprintedCall n ms m (is_done x.code) (is_done y.code) x y → StillRelated n (marks_with ms (is_done x.code) m) e.gathered f.gathered x y

    go : (b c d : Bool) → Keeps (given e k b c d) (given f l b c d)
    go true c d h = unchanged n s NoRoom a h
    go false true d h = unchanged n s BadCommand a h
    go false false true h = unchanged n s QueueFull a h
    go false false false h = typed_kept n m s k l e f i v a h

good_key : {k : Key} → Typed k → bad_command k ≡ false
good_key (char b) = refl
good_key line = refl

pub same_kept : (n : Later) {ms : List Bool} (s t : PrinterState) (c : Call) → Waits (rcte_in_force s) s.rcte → RelatedEnds ms s t
    → Keeping n false ms s t c c
same_kept n s t (network b p w) v (related_ends r {e = e} {f = f} a) = planned_kept n (network_call_lem r b p w) e f v a
same_kept n s t (key k p w) v (related_ends r {e = e} {f = f} a) = key_kept n false r k k p w p w e f refl refl refl v a
same_kept n s t (ask o y p w) v (related_ends r {e = e} {f = f} a) = planned_kept n (ask_call_lem r o y p w) e f v a
same_kept n s t (suggest o x p w) v (related_ends r {e = e} {f = f} a) = planned_kept n (suggest_call_lem r o x p w) e f v a

pub replaced_kept : (n : Later) {ms : List Bool} (s t : PrinterState) {k l : Key} (p w p' w' : ℕ) → no_room p w ≡ no_room p' w' → Typed k → Typed l
    → Waits (rcte_in_force s) s.rcte → RelatedEnds ms s t → Keeping n true ms s t (key k p w) (key l p' w')
replaced_kept n s t {k} {l} p w p' w' r i j v (related_ends x {e = e} {f = f} a) =
    key_kept n true x k l p w p' w' e f tt r (good_key i ∙ sym (good_key j)) v a
