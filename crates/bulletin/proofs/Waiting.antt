-- What a step makes of the waits: one that moves no option's outcome, and one that gives an option other values.
use mathlib.Core.Path.{◌≡◌, refl, sym, ap, ◌∙◌}
use mathlib.Core.Bool.{Bool, true, false, ◌&&◌, cond, true≢false, false≢true}
use mathlib.Core.Logic.{inr, ⊎_elim}
use mathlib.Core.List.{List, []}
use Prim.Native.Nat.{ℕ}
use Rattle.lists.proofs.Tables.{both_left, both_right}
use Rattle.codes.specs.declared.Disposition.{Disposition}
use Rattle.codes.specs.declared.Note.{Note}
use Rattle.codes.proofs.Entries.{entry_same, entry_other, same_or_other}
use Rattle.negotiation.specs.declared.OptionState.{OptionState}
use Rattle.negotiation.specs.declared.Side.TheVariants.{Disposes}
use Rattle.negotiation.specs.declared.Sides.{Sides}
use Rattle.negotiation.specs.Table.{is_yes}
use Rattle.codes.specs.Dispositions.{entry_of}
use Rattle.negotiation.specs.Carried.{moved, disposition_in_force}
use Rattle.reader.specs.Reading.{ReaderState}
use Rattle.sent_macros.specs.Sending.{Definitions}
use Rattle.issues.specs.declared.Issues.{Issues}
use Rattle.disposition.specs.declared.Values.{Values}
use Rattle.disposition.specs.ByOption.{unspoken, values_of, with_values_of, wait_of, with_wait_of}
use Rattle.disposition.specs.Handled.{handling, handling_while, handling_in}
use Rattle.disposition.specs.ItemData.{awaits}
use Rattle.bulletin.specs.State.{BulletinState, with_values, Effect}
use Rattle.bulletin.specs.Network.{side_state}
use Rattle.bulletin.specs.Waiting.{WaitsSo, EndsSo}

along : (P : Disposition → Type 0) {d e : Disposition} → d ≡ e → P d → P e
along P p x = rw (← p) x

-- both claims, of one step
pub record Rightly (s : BulletinState) (e : Effect) : Type 0 where
  pub so : WaitsSo s → WaitsSo e.state
  pub ends : (d : Disposition) → wait_of s.waits d ≡ true → wait_of e.state.waits d ≡ false → EndsSo e d

-- nothing that the waits turn on changes
pub unmoved : {s : BulletinState} {n : Note} {host wire : List ℕ} {x : Sides} {r : ReaderState} {t : Definitions} {i : Issues}
    → x.dispositions ≡ s.sides.dispositions
    → Rightly s (record { note = n; host = host; wire = wire; state = record { sides = x; reader = r; table = t; values = s.values; waits = s.waits; issues = i } })
unmoved e = record { so = λ h d w. rw e (h d w); ends = λ d w n. absurd (true≢false (sym w ∙ n)) }

-- an outcome waits only while the option is in force
in_force : (on : Bool) (v : Values) → awaits (handling_while on v) ≡ true → on ≡ true
in_force true v e = refl
in_force false v e = absurd (false≢true e)

not_waiting : (on : Bool) (v : Values) → awaits (handling v) ≡ false → awaits (handling_while on v) ≡ false
not_waiting true v e = e
not_waiting false v e = refl

-- option d has the values v now; the states of the others are as they were, and that of d is in force if its wait lasts
module _ (s : BulletinState) (x : Sides) (d : Disposition) (v : Values)
    (others : (e : Disposition) → (d ≡ e → ⊥) → entry_of x.dispositions e ≡ entry_of s.sides.dispositions e)
    (on : WaitsSo s → wait_of s.waits d ≡ true → awaits (handling v) ≡ true → disposition_in_force x d ≡ true) where
  abbrev lasts : Bool
  lasts = wait_of s.waits d && awaits (handling v)

  abbrev after : ReaderState → BulletinState
  after r = record { sides = x; reader = r; table = s.table; values = with_values_of s.values d v; waits = with_wait_of s.waits d lasts; issues = s.issues }

  own_wait : wait_of (with_wait_of s.waits d lasts) d ≡ lasts
  own_wait = entry_same s.waits lasts d

  own_outcome : handling_in x (with_values_of s.values d v) d ≡ handling_while (disposition_in_force x d) v
  own_outcome = ap (λ (y : Values). handling_while (disposition_in_force x d) y) (entry_same s.values v d)

  own_so : WaitsSo s → wait_of (with_wait_of s.waits d lasts) d ≡ true → awaits (handling_in x (with_values_of s.values d v) d) ≡ true
  own_so h w =
      let both = sym own_wait ∙ w in
      let still = both_right (wait_of s.waits d) (awaits (handling v)) both in
      let force = on h (both_left (wait_of s.waits d) (awaits (handling v)) both) still in
      ap awaits (own_outcome ∙ ap (λ (b : Bool). handling_while b v) force) ∙ still

  own_ends : wait_of s.waits d ≡ true → wait_of (with_wait_of s.waits d lasts) d ≡ false
      → awaits (handling_in x (with_values_of s.values d v) d) ≡ false
  own_ends w n =
      let gone : awaits (handling v) ≡ false = sym (ap (λ (b : Bool). b && awaits (handling v)) w) ∙ sym own_wait ∙ n in
      ap awaits own_outcome ∙ not_waiting (disposition_in_force x d) v gone

  module _ (e : Disposition) (other : d ≡ e → ⊥) where
    other_wait : wait_of (with_wait_of s.waits d lasts) e ≡ wait_of s.waits e
    other_wait = entry_other s.waits lasts d e other

    other_outcome : handling_in x (with_values_of s.values d v) e ≡ handling_in s.sides s.values e
    other_outcome =
        ap (λ (y : Values). handling_while (disposition_in_force x e) y) (entry_other s.values v d e other)
        ∙ ap (λ (q : OptionState). handling_while (is_yes q) (values_of s.values e)) (others e other)

  abbrev Still : Disposition → Type 0
  Still e = wait_of (with_wait_of s.waits d lasts) e ≡ true → awaits (handling_in x (with_values_of s.values d v) e) ≡ true

  abbrev Ended : Disposition → Type 0
  Ended e = wait_of s.waits e ≡ true → wait_of (with_wait_of s.waits d lasts) e ≡ false
      → awaits (handling_in x (with_values_of s.values d v) e) ≡ false

  still : WaitsSo s → (e : Disposition) → Still e
  still h e =
      ⊎_elim
      (λ (p : d ≡ e). along Still p (own_so h))
      (λ (n : d ≡ e → ⊥) w. ap awaits (other_outcome e n) ∙ h e (sym (other_wait e n) ∙ w))
      (same_or_other d e)

  ended : (e : Disposition) → Ended e
  ended e =
      ⊎_elim
      (λ (p : d ≡ e). along Ended p own_ends)
      (λ (m : d ≡ e → ⊥) w n. absurd (true≢false (sym w ∙ sym (other_wait e m) ∙ n)))
      (same_or_other d e)

  pub valued : {n : Note} {host wire : List ℕ} {r : ReaderState} → Rightly s (record { note = n; host = host; wire = wire; state = after r })
  valued = record { so = still; ends = λ e w n. inr (ended e w n) }

-- a side of such an option moved: as it leaves YES its values are unspoken, by which nothing waits
pub forgets : (s : BulletinState) (d : Disposition) (q : OptionState) → awaits (handling (cond (is_yes q) (values_of s.values d) unspoken)) ≡ true → is_yes q ≡ true
unfolding handling
forgets s d q = go (is_yes q)
  where
    go : (b : Bool) → awaits (handling (cond b (values_of s.values d) unspoken)) ≡ true → b ≡ true
    go true e = refl
    go false e = absurd (false≢true e)

pub disposition_moved : (s : BulletinState) (d : Disposition) (q : OptionState) {n : Note} {wire : List ℕ}
    → Rightly s (record { note = n; host = []; wire = wire; state = side_state s (Disposes d) q })
disposition_moved s d q =
    valued s (moved s.sides (Disposes d) q) d (cond (is_yes q) (values_of s.values d) unspoken)
    (λ e other. entry_other s.sides.dispositions q d e other)
    (λ h w still. ap is_yes (entry_same s.sides.dispositions q d) ∙ forgets s d q still)

-- other values while the option stays as it is
pub revalued : (s : BulletinState) (d : Disposition) (v : Values) {n : Note} {wire : List ℕ}
    → Rightly s (record { note = n; host = []; wire = wire; state = with_values s d v })
revalued s d v = valued s s.sides d v (λ e other. refl) (λ h w still. in_force _ _ (h d w))
