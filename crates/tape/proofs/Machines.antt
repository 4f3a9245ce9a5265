-- How the machine's steps meet the rules.
use mathlib.Core.Path.{◌≡◌, refl, sym}
use mathlib.Core.Bool.{Bool, true, false, cond}
use mathlib.Core.List.{List}
use Prim.Native.Nat.{ℕ, ◌+◌, ◌-◌, ◌≤◌, ◌<◌}
use native.Mathlib.Omega.{arith}
use borrow.Author.Tests.{ltb-true, ltb-false, lt-ltb, le-ltb}
use Rattle.std.specs.Prelude.{Option, Some, None}
use Rattle.tape.specs.declared.Tag.{Tag}
use lib.Dec.{ltb}
use lib.ListN.{length, get_or}
use Rattle.lists.specs.Buffers.{Lent, lent_as, RoomFor}
use Rattle.codes.specs.Answers.{paper_room, wire_room}
use Rattle.printer.specs.State.{PrinterState}
use Rattle.printer.specs.Refinement.{view_printer}
use Rattle.printer.specs.UnusedTails as T
use Rattle.printer.proofs.Views.{sized_view}
use Rattle.printer.proofs.FreshPrinter.{fresh_view}
use Rattle.tape.specs.declared.Machine.{Machine}
use Rattle.tape.specs.declared.Place.{Place}
use Rattle.tape.specs.declared.Shown.{Shown}
use Rattle.tape.specs.declared.Item.{Item}
use Rattle.tape.specs.Fields.{found_at, kind_of, item_of}
use Rattle.tape.specs.Lines.{answer_line, bad_tape}
use Rattle.tape.specs.Running.{lent_paper, lent_wire, with_room, item_call, item_answer}
use Rattle.tape.specs.Refinement.Steps.{width, next_item, At, is_over, is_too_long, rest_at, at_tape_end, past_item, goes, item_step, field_step, next_step, stepped, start}
use Rattle.tape.specs.Refinement.Machine.{view_machine, RefinesItem, RefinesProgress, start_cells}
use Rattle.tape.specs.Whole.{line_room}
use Rattle.tape.proofs.Calling.{line_room_lem, item_fits}

same_run : {s t : PrinterState} {p q v w : ℕ} (after : Place) → s ≡ t → p ≡ q → v ≡ w
    → ◌≡◌ {A = At} (record { run = record { printer = s; tails = record { paper = p; wire = v } }; place = after }) (record { run = record { printer = t; tails = record { paper = q; wire = w } }; place = after })
same_run after e f g = rw (e, f, g)

-- one item in the unused tails paper and wire, the first p and w bytes of the buffers being used
module _ (m : Machine) (i : Item) (p w : ℕ)
    (lent-paper : lent_paper - p ≡ cond (ltb (lent_paper - m.paper) paper_room) lent_paper (lent_paper - m.paper)) (paper-enough : p + paper_room ≤ lent_paper)
    (lent-wire : lent_wire - w ≡ cond (ltb (lent_wire - m.wire) wire_room) lent_wire (lent_wire - m.wire)) (wire-enough : w + wire_room ≤ lent_wire)
    (paper wire : List ℕ) (paper_left : length paper ≡ lent_paper - p) (wire_left : length wire ≡ lent_wire - w) where
  pub item_room : (field item : ℕ) (out : List ℕ) → line_room ≤ length out
      → RoomFor (answer_line field item (item_call (view_printer m.printer) i (length paper) (length wire))) out
  item_room field item out h = omega (arith, line_room_lem (view_printer m.printer) (length paper) (length wire) (sized_view m.printer) field item i)

  module _ {last_p last_w : List ℕ} {out : Lent} {r : Shown}
      (met : RefinesItem (item_call (view_printer m.printer) i) (answer_line m.place.field m.place.item) m.printer (lent_as paper last_p) (lent_as wire last_w) out r) where
    pub paper_fits : p + r.paper ≤ lent_paper
    paper_fits = omega (arith, met.wrote.paper.count, (item_fits (view_printer m.printer) (length paper) (length wire) (sized_view m.printer) i).paper)

    pub wire_fits_lem : w + r.wire ≤ lent_wire
    wire_fits_lem = omega (arith, met.wrote.wire.count, (item_fits (view_printer m.printer) (length paper) (length wire) (sized_view m.printer) i).wire)

    same : item_call (view_printer m.printer) i (length paper) (length wire) ≡ item_answer (with_room (view_machine m).run) i
    unfolding item_answer T.lent_afresh
    same = rw (paper_left, wire_left, lent-paper, lent-wire)

    unused : ((with_room (view_machine m).run).tails.paper ≡ lent_paper - p) × ((with_room (view_machine m).run).tails.wire ≡ lent_wire - w)
    unfolding T.lent_afresh
    unused = (sym lent-paper, sym lent-wire)

    pub item_met : (after : Place)
        → RefinesProgress (item_step (view_machine m) after i) m out
        (record { written = r.written; machine = record { printer = r.state; paper = p + r.paper; wire = w + r.wire; place = after } })
    item_met after =
        let e = rw same at met in
        record {
          lines = e.line;
          view = same_run after e.view (omega (arith, e.wrote.paper.count, unused.0)) (omega (arith, e.wrote.wire.count, unused.1));
          clean = e.clean;
        }

-- the run that the code makes is at the start
pub start_view : view_machine start_cells ≡ start
start_view = rw fresh_view

-- which way a step goes
pub step_long : (tape : List ℕ) (a : At) → is_over a.place ≡ false → is_too_long tape a.place ≡ true → stepped tape a ≡ goes (bad_tape 0) a.run (at_tape_end a.place)
unfolding stepped
step_long tape a going long = rw (going, long)

-- an item is next where enough is left for it
pub some_next : (tag : Tag) (body : List ℕ) (i : Item) → next_item tag body ≡ Some i
    → (width tag ≤ length body) × (item_of tag (get_or body 0 0) (get_or body 1 0) ≡ i)
some_next tag body i e = go (ltb (length body) (width tag)) refl e
  where
    go : (b : Bool) → ltb (length body) (width tag) ≡ b → cond b None (Some (item_of tag (get_or body 0 0) (get_or body 1 0))) ≡ Some i
        → (width tag ≤ length body) × (item_of tag (get_or body 0 0) (get_or body 1 0) ≡ i)
    go true f e = absurd (cc)
    go false f e = (ltb-false (length body) (width tag) f, cc)

pub none_next : (tag : Tag) (body : List ℕ) → next_item tag body ≡ None → length body < width tag
none_next tag body e = go (ltb (length body) (width tag)) refl e
  where
    go : (b : Bool) → ltb (length body) (width tag) ≡ b → ◌≡◌ {A = Option Item} (cond b None (Some (item_of tag (get_or body 0 0) (get_or body 1 0)))) None
        → length body < width tag
    go true f e = ltb-true (length body) (width tag) f
    go false f e = absurd (cc)

module _ (tape : List ℕ) (a : At) (going : is_over a.place ≡ false) (short : is_too_long tape a.place ≡ false) where
  pub step_field : next_item (kind_of a.place.tag) (rest_at tape a.place) ≡ None → stepped tape a ≡ field_step a (found_at tape a.place.next)
  unfolding stepped next_step
  step_field e = rw (going, short, lt-ltb (length (rest_at tape a.place)) (width (kind_of a.place.tag)) (none_next (kind_of a.place.tag) (rest_at tape a.place) e))

  pub step_item : (i : Item) → next_item (kind_of a.place.tag) (rest_at tape a.place) ≡ Some i → stepped tape a ≡ item_step a (past_item a.place) i
  unfolding stepped next_step
  step_item i e =
      let next = some_next (kind_of a.place.tag) (rest_at tape a.place) i e in
      rw (going, short, le-ltb (length (rest_at tape a.place)) (width (kind_of a.place.tag)) next.0, next.1)
