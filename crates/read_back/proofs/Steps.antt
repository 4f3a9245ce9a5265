-- Bytes read one after the other, each by a network call with room, or by another rule for one byte.
use mathlib.Core.Path.{◌≡◌, refl, sym}
use mathlib.Core.Bool.{Bool, true, false}
use mathlib.Core.List.{List, [], ◌∷◌, ◌++◌, flat_map}
use Prim.Native.Nat.{ℕ}
use Rattle.codes.specs.Answers.{paper_room, wire_room}
use Rattle.codes.specs.declared.Note.TheVariants.{Clear}
use Rattle.reader.specs.declared.Phase.TheVariants.{Between}
use Rattle.reader.specs.Reading.{ReaderState, idle}
use Rattle.rcte.specs.Control.{RcteState}
use Rattle.printer.specs.State.{PrinterState, Effect, nothing, followed, with_reader, rcte_in_force}
use Rattle.printer.specs.Calls.{network_call}
use Rattle.read_back.specs.ReadBack.{OnlyHolds, rcte_after}
use Rattle.printer.specs.NetworkEnd.{followed_assoc, followed_nothing}

-- one network byte, with the least buffers
abbrev pub reads : PrinterState → ℕ → Effect
reads p x = (network_call p x paper_room wire_room).effect

-- a step, or several put together, that reads exactly this data
pub record Reads (bytes : List ℕ) (p : PrinterState) (d : Effect) : Type 0 where
  pub note : d.note ≡ Clear
  pub paper : d.paper ≡ bytes
  pub wire : d.wire ≡ []
  pub taken : d.taken ≡ []
  pub state : OnlyHolds bytes p d.state

rcte_after_lem : (rcte : Bool) (x y : List ℕ) (e : RcteState) → rcte_after rcte y (rcte_after rcte x e) ≡ rcte_after rcte (x ++ y) e
rcte_after_lem rcte [] y e = refl
rcte_after_lem rcte (a ∷ x) [] e = refl
rcte_after_lem true (a ∷ x) (b ∷ y) e = refl
rcte_after_lem false (a ∷ x) (b ∷ y) e = refl

pub none_read : (p : PrinterState) (r : ReaderState) → r.phase ≡ Between → (p.reader ≡ idle → r ≡ idle)
    → Reads [] p (nothing (with_reader p r))
none_read p r h still = record {
  note = refl;
  paper = refl;
  wire = refl;
  taken = refl;
  state = record { sides = refl; between = h; reader = still; table = refl; rcte = refl; values = refl };
}

then_holds : {x y : List ℕ} {p q r : PrinterState} → OnlyHolds x p q → OnlyHolds y q r → OnlyHolds (x ++ y) p r
then_holds {x} {y} {p} {q} {r} h k = record {
  sides = rw k.sides h.sides;
  between = k.between;
  reader = λ (i : p.reader ≡ idle). k.reader (h.reader i);
  table = rw k.table h.table;
  rcte = rw (k.rcte, h.sides, h.rcte) (rcte_after_lem (rcte_in_force p) x y p.rcte);
  values = rw k.values h.values;
}

pub then_read : {x y : List ℕ} {p : PrinterState} {d e : Effect} → Reads x p d → Reads y d.state e → Reads (x ++ y) p (followed d e)
then_read h k = record {
  note = rw h.note k.note;
  paper = rw (h.paper, k.paper);
  wire = rw h.wire k.wire;
  taken = rw h.taken k.taken;
  state = then_holds h.state k.state;
}

module _ (f : PrinterState → ℕ → Effect) where
  unfoldable pub steps : PrinterState → List ℕ → Effect
  steps p [] = nothing p
  steps p (x ∷ xs) = let d = f p x in followed d (steps d.state xs)

  pub steps_append : (u v : List ℕ) (p : PrinterState) → steps p (u ++ v) ≡ followed (steps p u) (steps (steps p u).state v)
  unfolding steps
  steps_append [] v p = refl
  steps_append (x ∷ u) v p = rw (steps_append u v (f p x).state) (sym (followed_assoc (f p x) (steps (f p x).state u) _))

  -- a byte that completes nothing
  pub silent : (p q : PrinterState) (x : ℕ) (xs : List ℕ) → f p x ≡ nothing q → steps p (x ∷ xs) ≡ steps q xs
  unfolding steps
  silent p q x xs e = rw e

  pub last : (p : PrinterState) (x : ℕ) → steps p (x ∷ []) ≡ f p x
  unfolding steps
  last p x = followed_nothing (f p x)

  -- data of which each byte is read back, in a state that lasts as it is read
  module _ (enc : ℕ → List ℕ) (Ready : PrinterState → Type 0) (between : (p : PrinterState) → Ready p → p.reader.phase ≡ Between)
      (lasts : (x : List ℕ) (p q : PrinterState) → OnlyHolds x p q → Ready p → Ready q)
      (each : (p : PrinterState) → Ready p → (b : ℕ) → Reads (b ∷ []) p (steps p (enc b))) where
    pub all_read : (bs : List ℕ) (p : PrinterState) → Ready p → Reads bs p (steps p (flat_map enc bs))
    unfolding flat_map steps
    all_read [] p r = none_read p p.reader (between p r) (λ i. i)
    all_read (b ∷ bs) p r =
        let h = each p r b in
        let k = all_read bs (steps p (enc b)).state (lasts (b ∷ []) p (steps p (enc b)).state h.state r) in
        rw (steps_append (enc b) (flat_map enc bs) p) (then_read h k)
