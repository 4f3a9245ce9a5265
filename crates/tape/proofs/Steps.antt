-- A step prints what comes next of what remains, and something less is ahead after it.
use mathlib.Core.Path.{◌≡◌, refl, sym, ap, ◌∙◌}
use mathlib.Core.Bool.{Bool, true, false, ◌||◌, false≢true, cond}
use mathlib.Core.List.{List, [], ◌∷◌, ◌++◌, append_assoc, append-nil, map}
use Prim.Native.Nat.{ℕ, zero, suc, ◌+◌, ◌-◌, ◌≤◌, ◌<◌}
use native.Mathlib.Omega.{arith}
use borrow.Author.Tests.{ltb-true, ltb-false, le-ltb, ne_eqb}
use lib.Dec.{ltb}
use lib.ListN.{length, take, drop, get_or, length-take, length-drop}
use lib.Seq.{take-nil, drop-drop}
use Rattle.lists.proofs.Lengths.{chosen}
use Rattle.std.specs.Prelude.{Some, None, Ok, Err}
use Rattle.tape.specs.declared.Tag.{Tag}
use Rattle.tape.specs.declared.Tag.TheVariants.{Network, Keys, Asks}
use Rattle.tape.specs.declared.Item.{Item}
use Rattle.tape.specs.declared.Item.TheVariants.{NetworkByte, KeyPair, AskPair}
use Rattle.tape.specs.declared.Place.{Place}
use Rattle.tape.specs.Fields.{Found, head_size, found_at, part_of, Scanned, field_then, fields_at, pairs, tag_number, kind_of, item_of, items_of}
use Rattle.tape.specs.Lines.{answer_line, bad_tape}
use Rattle.tape.specs.Running.{with_room, item_answer, after_item, items_run, fields_run, tape_output}
use Rattle.tape.specs.Refinement.Steps.{width, At, is_over, is_too_long, rest_at, lines_left, remaining, Progress, at_tape_end, past_item, first_item, item_step, field_step, next_step, goes, stepped, StartPrints, StepPrints, ahead, StepFalls}
use Rattle.tape.proofs.Heads.{found_is}
use Rattle.tape.proofs.Counted.{field_first}

-- a place where a run is not over
pub record Stands (p : Place) : Type 0 where
  pub going : p.over ≡ false
  pub field : p.field ≤ p.next
  pub item : p.item ≤ p.at

pub stands : (p : Place) → is_over p ≡ false → Stands p
unfolding is_over
stands p e = go p.over (ltb p.next p.field) (ltb p.at p.item) refl refl refl e
  where
    go : (a b c : Bool) → p.over ≡ a → ltb p.next p.field ≡ b → ltb p.at p.item ≡ c → (a || (b || c)) ≡ false → Stands p
    go true b c f g h e = absurd (false≢true (sym e))
    go false true c f g h e = absurd (false≢true (sym e))
    go false false true f g h e = absurd (false≢true (sym e))
    go false false false f g h e = record { going = f; field = ltb-false p.next p.field g; item = ltb-false p.at p.item h }

pub not_over : (p : Place) → Stands p → is_over p ≡ false
unfolding is_over
not_over p s = rw (s.going, le-ltb p.next p.field s.field, le-ltb p.at p.item s.item)

-- where a field that is found stands
pub record Lies (tape : List ℕ) (at start size next : ℕ) : Type 0 where
  pub begins : start ≡ at + head_size
  pub ends : next ≡ start + size
  pub inside : next ≤ length tape

abbrev pub Inside : List ℕ → ℕ → Found → Type 0
Inside tape at (Ok None) = Unit {0}
Inside tape at (Err e) = at < length tape
Inside tape at (Ok (Some f)) = Lies tape at f.start f.size f.next.at

pub found_inside : (tape : List ℕ) (at : ℕ) → Inside tape at (found_at tape at)
found_inside tape at =
    found_is tape at (Inside tape at) tt (λ inside. inside) (λ tag fits. record { begins = refl; ends = refl; inside = fits })

-- the first item of a body, and what is left behind it
pairs_next : (f : ℕ → ℕ → Item) (body : List ℕ) → 2 ≤ length body → pairs f body ≡ f (get_or body 0 0) (get_or body 1 0) ∷ pairs f (drop 2 body)
unfolding pairs
pairs_next f [] h = absurd (omega arith)
pairs_next f (a ∷ []) h = absurd (omega arith)
pairs_next f (a ∷ b ∷ body) h = refl

bytes_next : (f : ℕ → Item) (body : List ℕ) → 1 ≤ length body → map f body ≡ f (get_or body 0 0) ∷ map f (drop 1 body)
bytes_next f [] h = absurd (omega arith)
bytes_next f (a ∷ body) h = refl

pairs_none : (f : ℕ → ℕ → Item) (body : List ℕ) → length body < 2 → pairs f body ≡ []
unfolding pairs
pairs_none f [] h = refl
pairs_none f (a ∷ []) h = refl
pairs_none f (a ∷ b ∷ body) h = absurd (omega arith)

bytes_none : (f : ℕ → Item) (body : List ℕ) → length body < 1 → map f body ≡ []
bytes_none f [] h = refl
bytes_none f (a ∷ body) h = absurd (omega arith)

items_none : (tag : Tag) (body : List ℕ) → length body < width tag → items_of tag body ≡ []
items_none Network body h = bytes_none NetworkByte body h
items_none Keys body h = pairs_none KeyPair body h
items_none Asks body h = pairs_none AskPair body h

items_next : (tag : Tag) (body : List ℕ) → width tag ≤ length body
    → items_of tag body ≡ item_of tag (get_or body 0 0) (get_or body 1 0) ∷ items_of tag (drop (width tag) body)
items_next Network body h = bytes_next NetworkByte body h
items_next Keys body h = pairs_next KeyPair body h
items_next Asks body h = pairs_next AskPair body h

pub some_width : (tag : Tag) → 1 ≤ width tag
some_width Network = omega arith
some_width Keys = omega arith
some_width Asks = omega arith

drop-take : (k n : ℕ) (l : List ℕ) → drop k (take n l) ≡ take (n - k) (drop k l)
drop-take zero n l =
    let same : n - 0 ≡ n = omega arith in
    rw same
drop-take (suc k) zero l =
    let none : 0 - suc k ≡ 0 = omega arith in
    rw none
drop-take (suc k) (suc n) [] = sym (take-nil {A = ℕ} (suc n - suc k))
drop-take (suc k) (suc n) (x ∷ l) =
    let less : suc n - suc k ≡ n - k = omega arith in
    rw less (drop-take k n l)

part_next : (tape : List ℕ) (at left k : ℕ) → drop k (part_of tape at left) ≡ part_of tape (at + k) (left - k)
unfolding part_of
part_next tape at left k = rw (drop-take k left (drop at tape), drop-drop k at tape)

pub part_long : (tape : List ℕ) (at left k : ℕ) → 1 ≤ k → k ≤ length (part_of tape at left) → (k ≤ left) × (at + k ≤ length tape)
unfolding part_of
part_long tape at left k some h =
    let l = simp (length-take, length-drop) at h in
    (omega arith, omega arith)

-- an item leaves the number of the field
short_still : (tape : List ℕ) (p q : Place) → q.field ≡ p.field → is_too_long tape p ≡ false → is_too_long tape q ≡ false
unfolding is_too_long
short_still tape p q e short = rw e short

-- behind a field's head the number is not 0
numbered : (tape : List ℕ) (p : Place) (n : ℕ) → p.field ≡ n + 1 → is_too_long tape p ≡ false
unfolding is_too_long
numbered tape p n e = rw (e, ne_eqb (n + 1) 0 (λ z. omega (arith, z)))

-- the tag of a field is found again by its number
kind_again : (t : Tag) → kind_of (tag_number t) ≡ t
kind_again Network = refl
kind_again Keys = refl
kind_again Asks = refl

-- the run goes on in the field, or behind it
module _ (tape : List ℕ) (a : At) where
  from_found : (f : Found) → Inside tape a.place.next f → Stands a.place
      → (fields_run (a.place.field + 1) a.run (field_then tape f (λ next. fields_at tape next))).lines ≡ (field_step a f).lines ++ remaining tape (field_step a f).at
  unfolding fields_run remaining is_over
  from_found (Ok None) i s = refl
  from_found (Err e) i s = refl
  from_found (Ok (Some f)) i s =
      let p = first_item (a.place.field + 1) f in
      rw (not_over p (record { going = refl; field = omega (arith, i.begins, i.ends, s.field); item = omega (arith, i.begins) }), numbered tape p a.place.field refl, kind_again f.tag) refl

  from_field : Stands a.place → length (rest_at tape a.place) < width (kind_of a.place.tag)
      → lines_left tape a ≡ (field_step a (found_at tape a.place.next)).lines ++ remaining tape (field_step a (found_at tape a.place.next)).at
  unfolding items_run
  from_field s h =
      let next = a.place.next in
      rw (items_none (kind_of a.place.tag) (rest_at tape a.place) h)
      (ap (λ (ss : List Scanned). (fields_run (a.place.field + 1) a.run ss).lines) (field_first tape next)
      ∙ from_found (found_at tape next) (found_inside tape next) s)

  past_stands : Stands a.place → Stands (past_item a.place)
  past_stands s = record { going = refl; field = s.field; item = omega (arith, s.item, some_width (kind_of a.place.tag)) }

  from_item : Stands a.place → is_too_long tape a.place ≡ false → width (kind_of a.place.tag) ≤ length (rest_at tape a.place)
      → (let i = item_of (kind_of a.place.tag) (get_or (rest_at tape a.place) 0 0) (get_or (rest_at tape a.place) 1 0) in
      lines_left tape a ≡ (item_step a (past_item a.place) i).lines ++ remaining tape (item_step a (past_item a.place) i).at)
  unfolding items_run remaining
  from_item s short h =
      let p = a.place in
      let i = item_of (kind_of p.tag) (get_or (rest_at tape p) 0 0) (get_or (rest_at tape p) 1 0) in
      let lent = with_room a.run in
      let answer = item_answer lent i in
      let ran = items_run p.field (p.item + 1) (after_item lent answer) (items_of (kind_of p.tag) (rest_at tape (past_item p))) in
      rw (items_next (kind_of a.place.tag) (rest_at tape a.place) h, part_next tape a.place.at a.place.left (width (kind_of a.place.tag)), not_over (past_item a.place) (past_stands s), short_still tape a.place (past_item a.place) refl short)
      (append_assoc (answer_line p.field p.item answer) ran.lines (fields_run (p.field + 1) ran.run (fields_at tape p.next)).lines)

  goes_on : Stands a.place → is_too_long tape a.place ≡ false → lines_left tape a ≡ (next_step tape a).lines ++ remaining tape (next_step tape a).at
  unfolding next_step
  goes_on s short =
      chosen (λ (g : Progress). lines_left tape a ≡ g.lines ++ remaining tape g.at) (ltb (length (rest_at tape a.place)) (width (kind_of a.place.tag)))
      (λ e. from_field s (ltb-true (length (rest_at tape a.place)) (width (kind_of a.place.tag)) e))
      (λ e. from_item s short (ltb-false (length (rest_at tape a.place)) (width (kind_of a.place.tag)) e))

pub step_prints : StepPrints
unfolding remaining stepped is_over
step_prints tape a = go (is_over a.place) (is_too_long tape a.place) refl refl
  where
    told : Progress
    told = goes (bad_tape 0) a.run (at_tape_end a.place)

    go : (b c : Bool) → is_over a.place ≡ b → is_too_long tape a.place ≡ c
        → cond b [] (cond c (bad_tape 0) (lines_left tape a))
        ≡ (cond b (goes [] a.run a.place) (cond c told (next_step tape a))).lines
        ++ remaining tape (cond b (goes [] a.run a.place) (cond c told (next_step tape a))).at
    go true c e f = rw e
    go false true e f = sym (append-nil (bad_tape 0))
    go false false e f = goes_on tape a (stands a.place e) f

-- what is ahead falls
module _ (tape : List ℕ) (a : At) (s : Stands a.place) where
  here : ahead tape a.place ≡ 1 + (length tape - a.place.next) + a.place.left
  unfolding ahead
  here = rw (not_over a.place s)

  found_falls : (f : Found) → Inside tape a.place.next f → ahead tape (field_step a f).at.place < ahead tape a.place
  unfolding ahead is_over
  found_falls (Ok None) i = rw here (omega arith)
  found_falls (Err e) i = rw here (omega arith)
  found_falls (Ok (Some f)) i =
      let p = first_item (a.place.field + 1) f in
      rw (here, not_over p (record { going = refl; field = omega (arith, i.begins, i.ends, s.field); item = omega (arith, i.begins) }))
      (omega (arith, i.begins, i.ends, i.inside))

  item_falls : width (kind_of a.place.tag) ≤ length (rest_at tape a.place) → ahead tape (past_item a.place) < ahead tape a.place
  unfolding ahead
  item_falls h =
      rw (here, not_over (past_item a.place) (past_stands tape a s))
      (omega (arith, some_width (kind_of a.place.tag), (part_long tape a.place.at a.place.left (width (kind_of a.place.tag)) (some_width (kind_of a.place.tag)) h).0))

pub step_falls : StepFalls
unfolding stepped next_step
step_falls tape a e =
    let s = stands a.place e in
    let rest = rest_at tape a.place in
    let less : Progress → Type 0 = λ g. ahead tape g.at.place < ahead tape a.place in
    rw e
    (chosen less (is_too_long tape a.place) (λ _. found_falls tape a s (Ok None) tt)
    (λ _.
    chosen less (ltb (length rest) (width (kind_of a.place.tag)))
    (λ _. found_falls tape a s (found_at tape a.place.next) (found_inside tape a.place.next))
    (λ f. item_falls tape a s (ltb-false (length rest) (width (kind_of a.place.tag)) f))))

pub start_prints : StartPrints
unfolding tape_output remaining is_over is_too_long items_run part_of
start_prints tape = refl
