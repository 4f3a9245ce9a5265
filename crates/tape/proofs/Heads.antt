-- What stands at a place of a tape, by the tests that tell.
use mathlib.Core.Path.{◌≡◌, refl, sym, ap, ◌∙◌}
use mathlib.Core.Bool.{true, false, false≢true}
use mathlib.Core.List.{List}
use Prim.Native.Nat.{ℕ, ◌+◌, ◌-◌, ◌*◌, ◌≤◌, ◌<◌}
use native.Mathlib.Omega.{arith}
use borrow.Author.Tests.{leb-true, leb-false, le-leb, lt-leb}
use lib.Dec.{leb}
use lib.ListN.{length, take, drop, get_or, length-take, length-drop}
use Rattle.std.proofs.Common.{add-zero}
use Rattle.std.proofs.lemmas.List.{get_or-drop, take_all}
use Rattle.std.specs.Result.{IsErr}
use Rattle.std.specs.Prelude.{Some, None, Result, Ok, Err}
use Rattle.lists.proofs.Lengths.{chosen, either}
use Rattle.lists.proofs.Tables.{both_left, both_right}
use Rattle.tape.specs.declared.Tag.{Tag}
use Rattle.tape.specs.declared.BadField.{BadField}
use Rattle.tape.specs.Fields.{Found, bad_field, head_size, size_at, tag_of, tag_at, fits, is_whole, field_at, tagged, found_at}

-- a head that was read at a place: its tag's number and its size
pub record HeadRead (tape : List ℕ) (at tag size : ℕ) : Type 0 where
  pub inside : at < length tape
  pub head : at + head_size ≤ length tape
  pub tag_is : tag ≡ get_or tape at 0
  pub size_is : size ≡ size_at tape at

pub reads : (tape : List ℕ) (at size : ℕ) → at < length tape
    → (let rest = take (length tape - at) (drop at tape) in
    head_size ≤ length rest → size ≡ get_or rest 1 0 * 256 + get_or rest 2 0 → HeadRead tape at (get_or rest 0 0) size)
reads tape at size inside head named =
    let rest = take (length tape - at) (drop at tape) in
    let all : rest ≡ drop at tape = take_all (length tape - at) (drop at tape) (simp length-drop (omega arith)) in
    let long : at + head_size ≤ length tape = let h = simp (length-take, length-drop) at head in omega arith in
    let number : get_or rest 0 0 ≡ get_or tape at 0 = rw (all, get_or-drop at tape 0 0, add-zero at) in
    let high : get_or rest 1 0 ≡ get_or tape (at + 1) 0 = rw all (get_or-drop at tape 1 0) in
    let low : get_or rest 2 0 ≡ get_or tape (at + 2) 0 = rw all (get_or-drop at tape 2 0) in
    record { inside = inside; head = long; tag_is = number; size_is = omega (arith, named, high, low) }

-- the only error
pub only_bad : (f : Found) → IsErr f → f ≡ Err bad_field
only_bad (Err e) h = refl
only_bad (Ok o) h = absurd (false≢true h)

module _ (tape : List ℕ) (at : ℕ) where
  pub at_end : length tape ≤ at → found_at tape at ≡ Ok None
  unfolding found_at
  at_end h = rw (le-leb (length tape) at h)

  -- one that is not whole is bad
  pub head_cut : at < length tape → length tape < at + head_size → found_at tape at ≡ Err bad_field
  unfolding found_at
  head_cut inside h = rw (lt-leb (length tape) at inside, lt-leb (at + head_size) (length tape) h)

  pub body_cut : at < length tape → at + head_size ≤ length tape → length tape - (at + head_size) < size_at tape at → found_at tape at ≡ Err bad_field
  unfolding found_at
  body_cut inside head h =
      rw (lt-leb (length tape) at inside, le-leb (at + head_size) (length tape) head, lt-leb (size_at tape at) (length tape - (at + head_size)) h)

  -- of one that is whole the tag tells
  found_whole : at < length tape → at + head_size ≤ length tape → size_at tape at ≤ length tape - (at + head_size)
      → found_at tape at ≡ tagged (tag_at tape at) tape at
  unfolding found_at
  found_whole inside head h =
      rw (lt-leb (length tape) at inside, le-leb (at + head_size) (length tape) head, le-leb (size_at tape at) (length tape - (at + head_size)) h)

  module _ {number size : ℕ} (r : HeadRead tape at number size) where
    pub cut : length tape - (at + head_size) < size → found_at tape at ≡ Err bad_field
    cut h = body_cut r.inside r.head (rw r.size_is at h)

    module _ (h : size ≤ length tape - (at + head_size)) where
      of_tag : (t : Result Tag BadField) → tag_of number ≡ t → found_at tape at ≡ tagged t tape at
      of_tag t e =
          found_whole r.inside r.head (rw r.size_is at h)
          ∙ ap (λ (u : Result Tag BadField). tagged u tape at) (ap tag_of (sym r.tag_is) ∙ e)

      pub unknown : (e : BadField) → tag_of number ≡ Err e → found_at tape at ≡ Err bad_field
      unknown e known = of_tag (Err e) known

      pub odd : (tag : Tag) → tag_of number ≡ Ok tag → fits tag size ≡ false → found_at tape at ≡ Err bad_field
      odd tag known e =
          let f : fits tag (size_at tape at) ≡ false = rw r.size_is at e in
          of_tag (Ok tag) known ∙ (rw f)

      pub even : (tag : Tag) → tag_of number ≡ Ok tag → fits tag size ≡ true
          → found_at tape at ≡ Ok (Some (record { tag = tag; start = at + head_size; size = size; next = record { at = at + head_size + size } }))
      even tag known e =
          let f : fits tag (size_at tape at) ≡ true = rw r.size_is at e in
          of_tag (Ok tag) known ∙ (rw (f, r.size_is))

  module _ (P : Found → Type 0) (bad : P (Err bad_field)) (whole : (tag : Tag) → P (Ok (Some (field_at tape at tag)))) where
    tagged_is : (r : Result Tag BadField) → P (tagged r tape at)
    tagged_is (Ok tag) = either P (fits tag (size_at tape at)) (whole tag) bad
    tagged_is (Err e) = bad

  -- what holds of the end, of a bad field and of a whole one holds of what is found
  pub found_is : (P : Found → Type 0) → P (Ok None) → (at < length tape → P (Err bad_field))
      → ((tag : Tag) → at + head_size + size_at tape at ≤ length tape → P (Ok (Some (field_at tape at tag)))) → P (found_at tape at)
  unfolding found_at
  found_is P end bad whole =
      let head = leb (at + head_size) (length tape) in
      let body = leb (size_at tape at) (length tape - (at + head_size)) in
      chosen P (leb (length tape) at) (λ _. end)
      (λ e.
      let inside = leb-false (length tape) at e in
      chosen P (is_whole tape at)
      (λ w.
      let h = leb-true (at + head_size) (length tape) (both_left head body w) in
      let b = leb-true (size_at tape at) (length tape - (at + head_size)) (both_right head body w) in
      tagged_is P (bad inside) (λ tag. whole tag (omega arith)) (tag_at tape at))
      (λ _. bad inside))
