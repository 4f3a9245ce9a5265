-- Clean states with the same view.
use mathlib.Core.Path.{◌≡◌, refl, sym, ap, ap₂, subst, ◌∙◌}
use mathlib.Core.List.{List, [], ◌∷◌, map, map-map}
use Prim.Native.Nat.{ℕ, zero, suc}
use lib.ListN.{length, get_or}
use Rattle.lists.proofs.Known.{count_known, same_read, same_array}
use Rattle.keys.specs.Refinement.{key_number, key_of_number}
use Rattle.reader.proofs.Determined.{same_reader}
use Rattle.received_macros.proofs.Determined.{clean_determined}
use Rattle.rcte.specs.Taking.{gather_room}
use Rattle.rcte.specs.Control.{wait_room}
use Rattle.rcte.specs.declared.Rcte.{Rcte}
use Rattle.rcte.specs.Refinement.{view_rcte, CleanRcte}
use Rattle.printer.specs.Session.{Call, session}
use Rattle.traces.specs.Chains.{Beside}
use Rattle.traces.specs.Traces.{AnsweredCall, AsRuled}
use Rattle.traces.specs.Determined.{CountIsWaiting, DeterminedToTheByte, SameState, SameCallsSameStates}
use Rattle.traces.proofs.Chains.{both_beside}
use Rattle.traces.proofs.Session.{run_is_session}

-- cells that are the numbers of their keys are known by the keys
same_key_number : (xs ys : List ℕ) → map key_of_number xs ≡ map key_of_number ys → map (λ n. key_number (key_of_number n)) xs ≡ xs → map (λ n. key_number (key_of_number n)) ys ≡ ys → xs ≡ ys
same_key_number xs ys e px py = sym px ∙ sym (map-map key_number key_of_number xs) ∙ ap (λ ks. map key_number ks) e ∙ map-map key_number key_of_number ys ∙ py

-- cells that each have the number of their key
numbered_map : (l : List ℕ) → ((i : ℕ) → key_number (key_of_number (get_or l i 0)) ≡ get_or l i 0) → map (λ n. key_number (key_of_number n)) l ≡ l
numbered_map [] h = refl
numbered_map (x ∷ l) h = ap₂ (λ (a : ℕ) (as' : List ℕ). a ∷ as') (h zero) (numbered_map l (λ i. h (suc i)))

pub count_is_waiting : CountIsWaiting
count_is_waiting p s c = sym (count_known key_of_number wait_room p.rcte.waiting p.rcte.count s.waiting c.rcte.waiting)

same_rcte : (a b : Rcte) → length a.waiting ≡ wait_room → length b.waiting ≡ wait_room → length a.gathered ≡ gather_room → length b.gathered ≡ gather_room
    → CleanRcte a → CleanRcte b → view_rcte a ≡ view_rcte b → a ≡ b
same_rcte a b wa wb ga gb ca cb e =
    let keys = same_read key_of_number wait_room a.waiting b.waiting a.count b.count wa wb ca.waiting cb.waiting (ap (λ v. v.waiting) e) in
    let bytes = same_array gather_room a.gathered b.gathered a.filled b.filled ga gb ca.gathered cb.gathered (ap (λ v. v.gathered) e) in
    let waiting = same_key_number a.waiting b.waiting keys.1 (numbered_map a.waiting ca.numbers) (numbered_map b.waiting cb.numbers) in
    let held = ap (λ v. v.held) e in
    let action = ap (λ v. v.orders.action) e in
    let breaks = ap (λ v. v.orders.breaks) e in
    let sends = ap (λ v. v.orders.sends) e in
    λ i. record {
      held = held i;
      action = action i;
      breaks = breaks i;
      sends = sends i;
      waiting = waiting i;
      count = keys.0 i;
      gathered = bytes.1 i;
      filled = bytes.0 i;
    }

pub determined_to_the_byte : DeterminedToTheByte
determined_to_the_byte p q sp sq cp cq e =
    let sides = ap (λ v. v.sides) e in
    let reader = same_reader p.reader q.reader sp.body sq.body cp.reader cq.reader (ap (λ v. v.reader) e) in
    let table = clean_determined p.table q.table sp.cells sq.cells cp.table cq.table (ap (λ v. v.table) e) in
    let rcte = same_rcte p.rcte q.rcte sp.waiting sq.waiting sp.gathered sq.gathered cp.rcte cq.rcte (ap (λ v. v.rcte) e) in
    let values = ap (λ v. v.values) e in
    λ i. record { sides = sides i; reader = reader i; table = table i; rcte = rcte i; values = values i }

pub same_calls_same_states : SameCallsSameStates
same_calls_same_states ms ns f g e =
    both_beside AsRuled AsRuled SameState
    (λ a m n r t. determined_to_the_byte _ _ r.whole t.whole r.clean t.clean (r.view ∙ sym t.view))
    (run_is_session ms f)
    (subst (λ (cs : List Call). Beside AsRuled (session cs) ns) (sym e) (run_is_session ns g))
