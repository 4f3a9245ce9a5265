-- A key of one session beside the key of the other, marked by whether it was replaced, and both taken up quietly if so.
use mathlib.Core.Path.{◌≡◌, refl, sym, ap₂, subst, ◌∙◌}
use mathlib.Core.Bool.{Bool, true, false, ◌||◌, false≢true, cond}
use mathlib.Core.List.{List, [], ◌++◌}
use Prim.Native.Nat.{ℕ, ◌+◌}
use native.Mathlib.Omega.{arith}
use lib.ListN.{length, length-append}
use lib.Dec.{ltb}
use Rattle.keys.specs.declared.Key.{Key}
use Rattle.keys.specs.Keys.{key_wire}
use Rattle.rcte.specs.Taking.{OrdersState, How, is_break, gather_room, overflows, flushes, taken_up, under_rcte, sent_at_once}
use Rattle.rcte.specs.Taking.How.{at_once, under}
use Rattle.noninterference.specs.TwoSessions.{Unprinted, UnprintedIf, SameWidth, SameWidthIf}
use Rattle.noninterference.specs.TwoSessions.Unprinted.{unprinted}

-- a key that was not replaced is the same in both
abbrev pub Beside : Bool → Key → Key → Type 0
Beside true k l = Unit {0}
Beside false k l = k ≡ l

is_under : How → Bool
is_under at_once = false
is_under (under skip broke sent) = true

unprinted_under : {h : How} → Unprinted h → is_under h ≡ true
unfolding is_under
unprinted_under unprinted = refl

unprinted_skips : {skip broke sent : Bool} → Unprinted (under skip broke sent) → skip ≡ true
unprinted_skips unprinted = refl

unprinted_goes_on : {skip broke sent : Bool} → Unprinted (under skip broke sent) → broke ≡ false
unprinted_goes_on unprinted = refl

-- a replaced key is not sent at once
pub same_at_once : (m : Bool) {k l : Key} → Beside m k l → UnprintedIf m (sent_at_once k) → k ≡ l
unfolding is_under
same_at_once true b q = absurd (false≢true (unprinted_under q))
same_at_once false b q = b

-- what two keys taken up under the same orders have in common
pub record Pair (m : Bool) (o : OrdersState) (k l : Key) : Type 0 where
  pub broke : is_break o k ≡ is_break o l
  pub paper : (g g' : List ℕ) → (taken_up o g k).paper ≡ (taken_up o g' l).paper
  pub same_width : SameWidthIf m (under_rcte o k) (under_rcte o l) → SameWidth (under_rcte o k) (under_rcte o l)

same_pair : (m : Bool) (o : OrdersState) (k : Key) → Pair m o k k
unfolding taken_up
same_pair m o k = record { broke = refl; paper = λ g g'. refl; same_width = λ e. record { send = refl; long = refl } }

unprinted_paper : (o : OrdersState) (g : List ℕ) (k : Key) → Unprinted (under_rcte o k).how → (taken_up o g k).paper ≡ []
unfolding taken_up
unprinted_paper o g k q = rw (unprinted_goes_on q, unprinted_skips q) refl

pub pair : (m : Bool) (o : OrdersState) (k l : Key) → Beside m k l → UnprintedIf m (under_rcte o k) → UnprintedIf m (under_rcte o l) → Pair m o k l
pair true o k l b q r = record {
  broke = unprinted_goes_on q ∙ sym (unprinted_goes_on r);
  paper = λ g g'. unprinted_paper o g k q ∙ sym (unprinted_paper o g' l r);
  same_width = λ e. e;
}
pair false o k l b q r = subst (λ x. Pair false o k x) b (same_pair false o k)

-- the bytes that a key sends and leaves gathered, by their numbers alone
module _ (g g' w w' : List ℕ) (p : length g ≡ length g') (q : length w ≡ length w') where
  sent_length : (over flush : Bool)
      → length (cond over g [] ++ cond flush (cond over [] g ++ w) []) ≡ length (cond over g' [] ++ cond flush (cond over [] g' ++ w') [])
  sent_length true true = simp length-append (omega (arith, p, q))
  sent_length true false = simp length-append (omega (arith, p))
  sent_length false true = simp length-append (omega (arith, p, q))
  sent_length false false = refl

  kept_length : (over flush : Bool) → length (cond flush [] (cond over [] g ++ w)) ≡ length (cond flush [] (cond over [] g' ++ w'))
  kept_length over true = refl
  kept_length true false = q
  kept_length false false = simp length-append (omega (arith, p, q))

-- an even pair sends as many bytes and leaves as many
pub record SameWidthTaken (o : OrdersState) (g g' : List ℕ) (k l : Key) : Type 0 where
  pub wire : length (taken_up o g k).wire ≡ length (taken_up o g' l).wire
  pub gathered : length (taken_up o g k).gathered ≡ length (taken_up o g' l).gathered

pub same_width_taken : (o : OrdersState) (g g' : List ℕ) (k l : Key) → is_break o k ≡ is_break o l → SameWidth (under_rcte o k) (under_rcte o l)
    → length g ≡ length g' → SameWidthTaken o g g' k l
unfolding taken_up
same_width_taken o g g' k l b e p =
    let q = e.long in
    let over : overflows g k ≡ overflows g' l = ap₂ (λ x y. ltb gather_room (x + y)) p q in
    let flush : flushes o k ≡ flushes o l = ap₂ (λ x y. x || y) b e.send in
    record {
      wire = rw (over, flush) (sent_length g g' (key_wire k) (key_wire l) p q (overflows g' l) (flushes o l));
      gathered = rw (over, flush) (kept_length g g' (key_wire k) (key_wire l) p q (overflows g' l) (flushes o l));
    }
