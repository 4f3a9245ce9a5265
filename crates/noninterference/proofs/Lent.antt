-- Lent tails are never too small for a call, so that a session in them is the session in whole buffers; and where as many bytes
-- are written, equal tails are left.
use mathlib.Core.Path.{◌≡◌, refl, sym, ap, ap₂, subst, subst₂, ◌∙◌}
use mathlib.Core.Bool.{Bool, true, false, cond}
use mathlib.Core.List.{List, [], ◌∷◌, ◌++◌, map}
use Prim.Native.Nat.{ℕ, ◌-◌}
use lib.ListN.{length}
use borrow.Author.Tests.{le-ltb}
use Rattle.codes.specs.Answers.{paper_room, wire_room, no_room}
use Rattle.keys.specs.declared.Key.{Key}
use Rattle.printer.specs.State.{PrinterState, fresh, CallEffect}
use Rattle.printer.specs.Calls.{network_call, key_call, ask_call, suggest_call}
use Rattle.printer.specs.Session.{Call, called, answers_from, session}
use Rattle.printer.specs.Session.Call.{network, key, ask, suggest}
use Rattle.noninterference.specs.TwoSessions.{Typed, Agree, AllUnprinted, AllSameWidth, UnprintedIn, SameWidthIn, Each, SameSeen, SameSent}
use Rattle.noninterference.specs.TwoSessions.Agree.{none, same, replaced}
use Rattle.printer.specs.KeyOrder.{accepts, of_accepted, take_ups}
use Rattle.printer.specs.UnusedTails.{Tails, in_tails, unused_after, Enough, lent_afresh, lent_from, lent_session}
use Rattle.noninterference.specs.Lent.{TwoLent}
use Rattle.printer.proofs.UnusedTails.{lent_is_enough}
use Rattle.noninterference.proofs.Sessions.{two_sessions}

-- the sizes matter only for code 1
same_call : (s : PrinterState) (t u : Tails) (c : Call) → no_room t.paper t.wire ≡ no_room u.paper u.wire
    → called s (in_tails t c) ≡ called s (in_tails u c)
unfolding called network_call key_call ask_call suggest_call
same_call s t u (network b p w) e = rw e
same_call s t u (key k p w) e = rw e
same_call s t u (ask o y p w) e = rw e
same_call s t u (suggest o v p w) e = rw e

accepts_too : (t u : Tails) (c : Call) (a : CallEffect) → accepts (in_tails t c) a ≡ accepts (in_tails u c) a
accepts_too t u (network b p w) a = refl
accepts_too t u (key k p w) a = refl
accepts_too t u (ask o y p w) a = refl
accepts_too t u (suggest o v p w) a = refl

-- equally many bytes leave equal tails
left : (whole : Tails) {t t' : Tails} → t ≡ t' → {a b : CallEffect} → SameSeen a b → SameSent a b
    → unused_after (lent_afresh whole t) a ≡ unused_after (lent_afresh whole t') b
left whole {t} {t'} e {a} p q =
    ap (λ u. unused_after (lent_afresh whole u) a) e
    ∙ ap₂ (λ m n. record { paper = (lent_afresh whole t').paper - m; wire = (lent_afresh whole t').wire - n }) (ap length p.paper) q.count

-- the calls, each in whole buffers
abbrev afresh : Tails → List Call → List Call
afresh whole cs = map (in_tails whole) cs

agree_afresh : (whole : Tails) {ms : List Bool} {cs ds : List Call} → Agree ms cs ds → Agree ms (afresh whole cs) (afresh whole ds)
agree_afresh whole none = none
agree_afresh whole (same g) = same (agree_afresh whole g)
agree_afresh whole (replaced x y g) = replaced x y (agree_afresh whole g)

lent_accepted : (whole : Tails) {X : Type 0} (xs : List X) (s : PrinterState) (t : Tails) (cs : List Call) (answers : List CallEffect)
    → of_accepted xs (lent_from whole s t cs) answers ≡ of_accepted xs (afresh whole cs) answers
unfolding of_accepted lent_from
lent_accepted whole [] s t cs answers = refl
lent_accepted whole (x ∷ xs) s t [] answers = refl
lent_accepted whole (x ∷ xs) s t (c ∷ cs) [] = refl
lent_accepted whole (x ∷ xs) s t (c ∷ cs) (a ∷ answers) =
    let tails = lent_afresh whole t in
    let b = called s (in_tails tails c) in
    ap₂ (λ m ys. cond m (x ∷ []) [] ++ ys) (accepts_too tails whole c a) (lent_accepted whole xs b.effect.state (unused_after tails b) cs answers)

-- the same call, and a replaced one, in equal tails
module _ (whole : Tails) {t t' : Tails} (e : t ≡ t') {ms : List Bool} {xs ys : List Call} (g : Agree ms xs ys) where
  same_lent : (c : Call) → Agree (false ∷ ms) (in_tails (lent_afresh whole t) c ∷ xs) (in_tails (lent_afresh whole t') c ∷ ys)
  same_lent c = subst (λ u. Agree (false ∷ ms) (in_tails (lent_afresh whole t) c ∷ xs) (in_tails (lent_afresh whole u) c ∷ ys)) e (same g)

  replaced_lent : {k l : Key} (p w : ℕ) → Typed k → Typed l
      → Agree (true ∷ ms) (in_tails (lent_afresh whole t) (key k p w) ∷ xs) (in_tails (lent_afresh whole t') (key l p w) ∷ ys)
  replaced_lent {k} {l} p w x y =
      subst (λ u. Agree (true ∷ ms) (in_tails (lent_afresh whole t) (key k p w) ∷ xs) (in_tails (lent_afresh whole u) (key l p w) ∷ ys)) e (replaced x y g)

-- lists whose answers have equal counts get equal tails
lent_agree : (whole : Tails) {ms : List Bool} {cs ds : List Call} → Agree ms cs ds → (s s' : PrinterState) (t t' : Tails) → t ≡ t'
    → (let xs = lent_from whole s t cs in let ys = lent_from whole s' t' ds in
    Each SameSeen (answers_from s xs) (answers_from s' ys) → Each SameSent (answers_from s xs) (answers_from s' ys) → Agree ms xs ys)
unfolding answers_from lent_from
lent_agree whole none s s' t t' e p q = none
lent_agree whole (same {c = c} g) s s' t t' e (Each.more p ps) (Each.more q qs) =
    same_lent whole e (lent_agree whole g _ _ _ _ (left whole e p q) ps qs) c
lent_agree whole (replaced {p = n} {w = m} x y g) s s' t t' e (Each.more p ps) (Each.more q qs) =
    replaced_lent whole e (lent_agree whole g _ _ _ _ (left whole e p q) ps qs) n m x y

-- tails with room for every call
pub has_room : (t : Tails) → Enough t → no_room t.paper t.wire ≡ false
has_room t e = rw (le-ltb t.paper paper_room e.paper, le-ltb t.wire wire_room e.wire)

module _ (whole : Tails) (enough : Enough whole) where
  lent_enough : (t : Tails) → no_room (lent_afresh whole t).paper (lent_afresh whole t).wire ≡ no_room whole.paper whole.wire
  lent_enough t = has_room (lent_afresh whole t) (lent_is_enough whole t enough) ∙ sym (has_room whole enough)

  lent_session_lem : (s : PrinterState) (t : Tails) (cs : List Call) → answers_from s (lent_from whole s t cs) ≡ answers_from s (afresh whole cs)
  unfolding answers_from lent_from
  lent_session_lem s t [] = refl
  lent_session_lem s t (c ∷ cs) =
      let tails = lent_afresh whole t in
      let a = called s (in_tails tails c) in
      ap (λ xs. a ∷ xs) (lent_session_lem a.effect.state (unused_after tails a) cs)
      ∙ ap (λ (x : CallEffect). x ∷ answers_from x.effect.state (afresh whole cs)) (same_call s tails whole c (lent_enough t))

  accepted_afresh : (ms : List Bool) (cs : List Call)
      → of_accepted ms (lent_session whole cs) (session (lent_session whole cs)) ≡ of_accepted ms (afresh whole cs) (session (afresh whole cs))
  accepted_afresh ms cs =
      lent_accepted whole ms fresh whole cs (session (lent_session whole cs))
      ∙ ap (λ answers. of_accepted ms (afresh whole cs) answers) (lent_session_lem fresh whole cs)

  unprinted_afresh : (ms : List Bool) (cs : List Call) → UnprintedIn ms (lent_session whole cs) → UnprintedIn ms (afresh whole cs)
  unprinted_afresh ms cs q =
      subst₂ (λ marks answers. AllUnprinted marks (take_ups answers)) (accepted_afresh ms cs) (lent_session_lem fresh whole cs) q

  same_width_afresh : (ms : List Bool) (cs ds : List Call) → SameWidthIn ms (lent_session whole cs) (lent_session whole ds) → SameWidthIn ms (afresh whole cs) (afresh whole ds)
  same_width_afresh ms cs ds v =
      subst (λ answers. AllSameWidth (of_accepted ms (afresh whole cs) (session (afresh whole cs))) (take_ups (session (afresh whole cs))) (take_ups answers))
      (lent_session_lem fresh whole ds)
      (subst₂ (λ marks answers. AllSameWidth marks (take_ups answers) (take_ups (session (lent_session whole ds)))) (accepted_afresh ms cs) (lent_session_lem fresh whole cs) v)

pub two_lent : TwoLent
two_lent whole enough ms cs ds g q r =
    let o = two_sessions ms (afresh whole cs) (afresh whole ds) (agree_afresh whole g) (unprinted_afresh whole enough ms cs q) (unprinted_afresh whole enough ms ds r) in
    let x = sym (lent_session_lem whole enough fresh whole cs) in
    let y = sym (lent_session_lem whole enough fresh whole ds) in
    let seen = subst₂ (Each SameSeen) x y o.seen in
    let sent : SameWidthIn ms (lent_session whole cs) (lent_session whole ds) → Each SameSent (session (lent_session whole cs)) (session (lent_session whole ds))
    = λ v. subst₂ (Each SameSent) x y (o.sent (same_width_afresh whole enough ms cs ds v)) in
    record { seen = seen; sizes = λ v. lent_agree whole g fresh fresh whole whole refl seen (sent v); sent = sent }
