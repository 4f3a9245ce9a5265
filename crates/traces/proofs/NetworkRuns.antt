-- A session in parts is the session of its one-byte calls, and so demand 2 holds of runs.
use mathlib.Core.Path.{◌≡◌, refl, sym, ap, ap₂, ◌∙◌}
use mathlib.Core.Logic.{⊎_elim}
use mathlib.Core.Bool.{false}
use mathlib.Core.List.Memᴰ
use mathlib.Core.List.{List, [], ◌∷◌, ◌++◌, map, Memᴰ, flat_map}
use Prim.Native.Nat.{ℕ, suc, ◌+◌, ◌-◌}
use native.Mathlib.Omega.{arith}
use lib.ListN.{length, take}
use Rattle.lists.proofs.FlatMap.{flat_map-append}
use Rattle.codes.specs.Answers.{no_room}
use Rattle.codes.specs.declared.Note.TheVariants.{Clear}
use Rattle.codes.proofs.Rooms.{both_lent}
use Rattle.reader.specs.NetworkRun.{RunEffect, RunCallEffect, ran_from, run_from, calls_by, effect_of_all}
use Rattle.reader.proofs.NetworkRun.{of_run}
use Rattle.rcte.specs.Taking.{TakeUp}
use Rattle.printer.specs.State.{PrinterState, Effect, CallEffect}
use Rattle.printer.specs.Network.{network_read}
use Rattle.printer.specs.Session.{Call, called, answers_from}
use Rattle.printer.specs.NetworkRun.{printer_byte, calls_of}
use Rattle.printer.specs.NetworkEnd.{lawful, call_done}
use Rattle.printer.proofs.Runs.{printer_run_is_calls, calls_answered}
use Rattle.read_back.specs.Ends.{NetworkCalls, printer_paper, printer_wire, printer_after}
use Rattle.read_back.specs.ReadBack.{OnlyPrints}
use Rattle.read_back.proofs.ReadBack.{all_read_back}
use Rattle.traces.specs.NetworkRuns.{Bytes, taken_of, Part, one, run, answered, after_part, answered_from, after_parts, calls_in, one_by_one, PartsAreCalls, taken_by, OnlyPrinted, RunsReadBack}

answers_append : (s : PrinterState) (cs ds : List Call) → answers_from s (cs ++ ds) ≡ answers_from s cs ++ answers_from (printer_after s (answers_from s cs)) ds
unfolding answers_from printer_after
answers_append s [] ds = refl
answers_append s (c ∷ cs) ds = ap (λ (rest : List CallEffect). called s c ∷ rest) (answers_append (called s c).effect.state cs ds)

-- what answers did together
all_paper : (s : PrinterState) (given : List CallEffect) → (effect_of_all printer_byte s given).paper ≡ printer_paper given
unfolding effect_of_all flat_map
all_paper s [] = refl
all_paper s (a ∷ given) = ap (λ (l : List ℕ). a.effect.paper ++ l) (all_paper a.effect.state given)

all_wire : (s : PrinterState) (given : List CallEffect) → (effect_of_all printer_byte s given).wire ≡ printer_wire given
unfolding effect_of_all flat_map
all_wire s [] = refl
all_wire s (a ∷ given) = ap (λ (l : List ℕ). a.effect.wire ++ l) (all_wire a.effect.state given)

all_taken : (s : PrinterState) (given : List CallEffect) → (effect_of_all printer_byte s given).taken ≡ flat_map (λ a. a.effect.taken) given
unfolding effect_of_all flat_map
all_taken s [] = refl
all_taken s (a ∷ given) = ap (λ (l : List TakeUp). a.effect.taken ++ l) (all_taken a.effect.state given)

all_state : (s : PrinterState) (given : List CallEffect) → (effect_of_all printer_byte s given).state ≡ printer_after s given
unfolding effect_of_all printer_after
all_state s [] = refl
all_state s (a ∷ given) = all_state a.effect.state given

-- a part did what the answers to its calls did
effect_is : (s : PrinterState) (x : Part) → (answered s x).ran.effect ≡ effect_of_all printer_byte s (answers_from s (calls_in s x))
unfolding run_from answers_from effect_of_all
effect_is s (one c) = sym (lawful.none_behind (called s c).effect)
effect_is s (run r) =
    let calls = printer_run_is_calls s r.bytes r.paper r.wire in
    rw (calls_answered s (taken_of s r) r.paper r.wire) calls.same

after_is : (s : PrinterState) (x : Part) → after_part s x ≡ printer_after s (answers_from s (calls_in s x))
after_is s x = ap (λ (d : Effect). d.state) (effect_is s x) ∙ all_state s (answers_from s (calls_in s x))

-- the answers to all calls: to those of the first part, and then to the others
answers_more : (s : PrinterState) (x : Part) (xs : List Part)
    → answers_from s (one_by_one s (x ∷ xs)) ≡ answers_from s (calls_in s x) ++ answers_from (after_part s x) (one_by_one (after_part s x) xs)
unfolding one_by_one
answers_more s x xs = rw (answers_append s (calls_in s x) (one_by_one (after_part s x) xs), ← after_is s x)

after_append : (s : PrinterState) (xs ys : List CallEffect) → printer_after s (xs ++ ys) ≡ printer_after (printer_after s xs) ys
unfolding printer_after
after_append s [] ys = refl
after_append s (a ∷ xs) ys = after_append a.effect.state xs ys

module _ {Y : Type 0} (f : Effect → List Y) (all : (s : PrinterState) (given : List CallEffect) → f (effect_of_all printer_byte s given) ≡ flat_map (λ a. f a.effect) given) where
  joined_is : (s : PrinterState) (xs : List Part) → flat_map (λ r. f r.ran.effect) (answered_from s xs) ≡ flat_map (λ a. f a.effect) (answers_from s (one_by_one s xs))
  unfolding flat_map answered_from one_by_one answers_from
  joined_is s [] = refl
  joined_is s (x ∷ xs) =
      let here : f (answered s x).ran.effect ≡ flat_map (λ a. f a.effect) (answers_from s (calls_in s x)) = ap f (effect_is s x) ∙ all s (answers_from s (calls_in s x)) in
      ap₂ (λ (l m : List Y). l ++ m) here (joined_is (after_part s x) xs)
      ∙ sym (flat_map-append (λ a. f a.effect) (answers_from s (calls_in s x)) (answers_from (after_part s x) (one_by_one (after_part s x) xs)))
      ∙ ap (flat_map (λ a. f a.effect)) (sym (answers_more s x xs))

state_is : (s : PrinterState) (xs : List Part) → after_parts s xs ≡ printer_after s (answers_from s (one_by_one s xs))
unfolding after_parts one_by_one answers_from printer_after
state_is s [] = refl
state_is s (x ∷ xs) =
    state_is (after_part s x) xs
    ∙ ap (λ (t : PrinterState). printer_after t (answers_from (after_part s x) (one_by_one (after_part s x) xs))) (after_is s x)
    ∙ sym (after_append s (answers_from s (calls_in s x)) (answers_from (after_part s x) (one_by_one (after_part s x) xs)))
    ∙ ap (printer_after s) (sym (answers_more s x xs))

pub parts_are_calls : PartsAreCalls
parts_are_calls s xs = record {
  paper = joined_is (λ d. d.paper) all_paper s xs;
  wire = joined_is (λ d. d.wire) all_wire s xs;
  taken = joined_is (λ d. d.taken) all_taken s xs;
  state = state_is s xs;
}

-- a run's calls are network calls with the bytes that it took, in buffers that have room
abbrev Taken : PrinterState → List ℕ → ℕ → ℕ → RunEffect Effect → Type 0
Taken s bs p w r = NetworkCalls (take r.taken bs) (calls_of s (take r.taken bs) p w)

calls_more : (s : PrinterState) (b : ℕ) (xs : List ℕ) (p w : ℕ) → no_room p w ≡ false
    → NetworkCalls xs (calls_of (network_read s b).state xs (p - length (network_read s b).paper) (w - length (network_read s b).wire))
    → NetworkCalls (b ∷ xs) (calls_of s (b ∷ xs) p w)
unfolding calls_by
calls_more s b xs p w room h =
    let lent = both_lent p w room in
    rw (call_done s b p w room).1 (NetworkCalls.byte lent.0 lent.1 h)

no_calls : (s : PrinterState) (p w : ℕ) → NetworkCalls [] (calls_of s [] p w)
unfolding calls_by
no_calls s p w = NetworkCalls.none

run_calls : (s : PrinterState) (bs : List ℕ) (p w : ℕ) → Taken s bs p w (ran_from printer_byte s bs p w)
run_calls =
    of_run lawful Taken no_calls (λ s b bs p w full. no_calls s p w)
    (λ s b bs p w room c r h.
    let sums : 1 + r.taken ≡ suc r.taken = omega arith in
    rw sums (calls_more s b (take r.taken bs) p w room h))
    (λ s b bs p w room c. calls_more s b [] p w room (no_calls (network_read s b).state (p - length (network_read s b).paper) (w - length (network_read s b).wire)))

calls_both : {xs ys : List ℕ} {cs ds : List Call} → NetworkCalls xs cs → NetworkCalls ys ds → NetworkCalls (xs ++ ys) (cs ++ ds)
calls_both NetworkCalls.none k = k
calls_both (NetworkCalls.byte p w h) k = NetworkCalls.byte p w (calls_both h k)

all_calls : (s : PrinterState) (rs : List Bytes) → NetworkCalls (taken_by s rs) (one_by_one s (map run rs))
unfolding taken_by one_by_one run_from
all_calls s [] = NetworkCalls.none
all_calls s (r ∷ rs) = calls_both (run_calls s r.bytes r.paper r.wire) (all_calls (after_part s (run r)) rs)

-- answers that only print make a run that only printed
only_printed : (s : PrinterState) (given : List CallEffect) → ((a : CallEffect) → Memᴰ a given → OnlyPrints a)
    → ((effect_of_all printer_byte s given).note ≡ Clear) × ((effect_of_all printer_byte s given).wire ≡ []) × ((effect_of_all printer_byte s given).taken ≡ [])
unfolding effect_of_all
only_printed s [] h = (refl, refl, refl)
only_printed s (a ∷ given) h =
    let first = h a (Memᴰ.head refl) in
    let rest = only_printed a.effect.state given (λ b m. h b (Memᴰ.tail m)) in
    (rw first.note rest.0, rw first.wire rest.1, rw first.taken rest.2)

as_printed : (r : RunCallEffect Effect) (d : Effect) → r.ran.effect ≡ d → (d.note ≡ Clear) × (d.wire ≡ []) × (d.taken ≡ []) → OnlyPrinted r
as_printed r d e h = record {
  note = ap (λ (x : Effect). x.note) e ∙ h.0;
  wire = ap (λ (x : Effect). x.wire) e ∙ h.1;
  taken = ap (λ (x : Effect). x.taken) e ∙ h.2;
}

each_printed : (s : PrinterState) (xs : List Part) → ((a : CallEffect) → Memᴰ a (answers_from s (one_by_one s xs)) → OnlyPrints a)
    → (r : RunCallEffect Effect) → Memᴰ r (answered_from s xs) → OnlyPrinted r
unfolding answered_from
each_printed s [] h r m = absurd (Memᴰ.not-nil m)
each_printed s (x ∷ xs) h r m =
    let later = answers_from (after_part s x) (one_by_one (after_part s x) xs) in
    let given : (a : CallEffect) → Memᴰ a (answers_from s (calls_in s x) ++ later) → OnlyPrints a = rw (answers_more s x xs) at h in
    let here = only_printed s (answers_from s (calls_in s x)) (λ a k. given a (Memᴰ.append_left later k)) in
    ⊎_elim
    (λ (e : r ≡ answered s x). as_printed r (effect_of_all printer_byte s (answers_from s (calls_in s x))) (ap (λ (y : RunCallEffect Effect). y.ran.effect) e ∙ effect_is s x) here)
    (λ k. each_printed (after_part s x) xs (λ a i. given a (Memᴰ.append_right (answers_from s (calls_in s x)) i)) r k)
    (Memᴰ.cases_cons m)

pub runs_read_back : RunsReadBack
runs_read_back b p iac agreed cs rs e =
    let xs = map run rs in
    let calls : NetworkCalls _ (one_by_one p xs) = rw e at (all_calls p rs) in
    let back = all_read_back b p iac agreed cs (one_by_one p xs) calls in
    record {
      each = each_printed p xs back.read.each;
      paper = joined_is (λ d. d.paper) all_paper p xs ∙ back.read.paper;
      again = rw (state_is p xs) back.again;
    }
