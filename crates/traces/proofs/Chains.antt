-- A chain of calls gives the answers of the rules' session, at either end.
use mathlib.Core.Path.{◌≡◌, subst}
use mathlib.Core.List.{List, [], ◌∷◌, map}
use Rattle.traces.specs.Chains.{Chain, Beside}

-- R are the states of the rules, C their calls, A their answers; the code's states are seen by view, and a step is one call of
-- the code in a tidy state
module _ {R C A S M : Type 0} (called : R → C → A) (next : A → R) (answers : R → List C → List A)
    (ends : (v : R) → answers v [] ≡ []) (goes : (v : R) (c : C) (cs : List C) → answers v (c ∷ cs) ≡ called v c ∷ answers (next (called v c)) cs)
    (view : S → R) (call_of : M → C) (after : M → S) (Meets : S → M → Type 0) (Tidy : S → Type 0) (Ruled : A → M → Type 0)
    (step : (s : S) (m : M) → Meets s m → Tidy s
    → Ruled (called (view s) (call_of m)) m × (view (after m) ≡ next (called (view s) (call_of m))) × Tidy (after m)) where
  pub chain_answers : {s : S} {ms : List M} → Chain Meets after s ms → Tidy s → Beside Ruled (answers (view s) (map call_of ms)) ms
  chain_answers {s} Chain.none t = rw (ends (view s)) Beside.none
  chain_answers {s} (Chain.more {m = m} {ms = ms} g r) t =
      let h = step s m g t in
      rw (goes (view s) (call_of m) (map call_of ms))
      (Beside.more h.0 (subst (λ (v : R). Beside Ruled (answers v (map call_of ms)) ms) h.1 (chain_answers r h.2)))

-- two lists of calls that stand for the same answers agree in whatever an answer settles
pub both_beside : {A M N : Type 0} (Q : A → M → Type 0) (R : A → N → Type 0) (T : M → N → Type 0)
    → ((a : A) (m : M) (n : N) → Q a m → R a n → T m n)
    → {xs : List A} {ms : List M} {ns : List N} → Beside Q xs ms → Beside R xs ns → Beside T ms ns
both_beside Q R T f Beside.none Beside.none = Beside.none
both_beside Q R T f (Beside.more q qs) (Beside.more r rs) = Beside.more (f _ _ _ q r) (both_beside Q R T f qs rs)
