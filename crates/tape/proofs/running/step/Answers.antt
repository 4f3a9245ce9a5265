use native.Mathlib.Omega.{arith}
use mathlib.Core.Path.{refl, sym, ◌∙◌}
use Rattle.tape.specs.Fields.{kind_of}
use Rattle.lists.proofs.Starts.{wrote_none}
use Rattle.tape.specs.Refinement.Machine.{view_machine}
use Rattle.tape.specs.Refinement.Steps.{stepped}
use Rattle.tape.proofs.Machines.{step_long, step_field, step_item, some_next}
use Rattle.tape.proofs.Steps.{stands, some_width, part_long}
use Rattle.tape.proofs.running.step.Goals as goal

pub returns-then-is_over : goal.returns-then-is_over
unfolding stepped
returns-then-is_over c = rw (sym c.is_over.ensures ∙ c.if-is_over.true) (record { lines = wrote_none _; view = refl; clean = λ k. k })

pub returns-then-is_too_long : goal.returns-then-is_too_long
returns-then-is_too_long c =
    let going = sym c.is_over.ensures ∙ c.if-is_over.false in
    rw (step_long c.args.tape.now (view_machine c.args.m) going (sym c.is_too_long.ensures ∙ c.if-is_too_long.true)) c.refuse_tape.ensures

pub past_item-requires : goal.past_item-requires
past_item-requires c =
    let p = c.args.m.place in
    let enough = some_next (kind_of p.tag) c.part_of-rest.result.now _ (rw c.kind_of.ensures at (sym c.next_item.ensures ∙ c.in-Some.is)) in
    let some = some_width (kind_of p.tag) in
    let long = part_long c.args.tape.now p.at p.left _ some (rw c.part_of-rest.ensures at enough.0) in
    let going = stands p (sym c.is_over.ensures ∙ c.if-is_over.false) in
    record {
      item_fits = omega (arith, going.item, long.1, some, c.well_formed);
      at_fits = omega (arith, long.1, c.well_formed);
      enough_left = long.0;
    }

pub next_field-requires-clause-field_le_next : goal.next_field-requires-clause-field_le_next
next_field-requires-clause-field_le_next c = (stands _ (sym c.is_over.ensures ∙ c.if-is_over.false)).field

pub returns-in-Some : goal.returns-in-Some
returns-in-Some c =
    let going = sym c.is_over.ensures ∙ c.if-is_over.false in
    let short = sym c.is_too_long.ensures ∙ c.if-is_too_long.false in
    let next = rw (c.part_of-rest.ensures, c.kind_of.ensures) at (sym c.next_item.ensures ∙ c.in-Some.is) in
    rw (step_item c.args.tape.now (view_machine c.args.m) going short _ next) (rw c.past_item.ensures at c.one_item.ensures)

pub returns-in-None : goal.returns-in-None
returns-in-None c =
    let going = sym c.is_over.ensures ∙ c.if-is_over.false in
    let short = sym c.is_too_long.ensures ∙ c.if-is_too_long.false in
    let next = rw (c.part_of-rest.ensures, c.kind_of.ensures) at (sym c.next_item.ensures ∙ c.in-None.is) in
    rw (step_field c.args.tape.now (view_machine c.args.m) going short next) c.next_field.ensures
