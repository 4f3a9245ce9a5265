-- A run stays within its tape.
use mathlib.Core.List.{List}
use Prim.Native.Nat.{ℕ, ◌+◌, ◌≤◌}
use native.Mathlib.Omega.{arith}
use borrow.Author.Tests.{ltb-false}
use lib.Dec.{ltb}
use lib.ListN.{length}
use Rattle.lists.proofs.Lengths.{chosen, either}
use Rattle.std.specs.Prelude.{Some, None, Ok, Err}
use Rattle.tape.specs.Fields.{Found, found_at, kind_of}
use Rattle.tape.specs.Refinement.Steps.{width, At, Progress, is_over, is_too_long, rest_at, past_item, field_step, next_step, stepped}
use Rattle.tape.specs.Numbers.{Within, StartWithin, StepWithin, NumbersRead}
use Rattle.decimals.proofs.Digits.{decimal_reads}
use Rattle.tape.proofs.Steps.{Inside, found_inside, some_width, part_long}

pub start_within : StartWithin
start_within tape = record { fields = omega arith; next = omega arith; items = omega arith; at = omega arith }

module _ (tape : List ℕ) (a : At) (w : Within tape a.place) where
  field_within : (f : Found) → Inside tape a.place.next f → Within tape (field_step a f).at.place
  field_within (Ok None) i = record { fields = w.fields; next = w.next; items = w.items; at = w.at }
  field_within (Err e) i = record { fields = w.fields; next = w.next; items = w.items; at = w.at }
  field_within (Ok (Some f)) i = record {
    fields = omega (arith, w.fields, i.begins, i.ends);
    next = i.inside;
    items = omega (arith, i.begins);
    at = omega (arith, i.ends, i.inside);
  }

  item_within : width (kind_of a.place.tag) ≤ length (rest_at tape a.place) → Within tape (past_item a.place)
  item_within h =
      let p = a.place in
      let some = some_width (kind_of p.tag) in
      record { fields = w.fields; next = w.next; items = omega (arith, w.items, some); at = (part_long tape p.at p.left (width (kind_of p.tag)) some h).1 }

  stays : Within tape (stepped tape a).at.place
  unfolding stepped next_step
  stays =
      let inside : Progress → Type 0 = λ g. Within tape g.at.place in
      let rest = rest_at tape a.place in
      either inside (is_over a.place) w
      (either inside (is_too_long tape a.place) (field_within (Ok None) tt)
      (chosen inside (ltb (length rest) (width (kind_of a.place.tag))) (λ _. field_within (found_at tape a.place.next) (found_inside tape a.place.next))
      (λ e. item_within (ltb-false (length rest) (width (kind_of a.place.tag)) e))))

pub step_within : StepWithin
step_within tape a w = stays tape a w

pub numbers_read : NumbersRead
numbers_read tape p short w = record {
  field = decimal_reads p.field (omega (arith, w.fields, w.next));
  item = decimal_reads p.item (omega (arith, w.items, w.at));
  bad = decimal_reads (p.field + 1) (omega (arith, w.fields, w.next));
}
