-- Many steps, one behind the other.
use mathlib.Core.Path.{◌≡◌, refl, sym, ap, ◌∙◌}
use mathlib.Core.Bool.{Bool, true, false, not, ◌&&◌}
use mathlib.Core.List.{List, ◌++◌, append_assoc, append-nil}
use Prim.Native.Nat.{ℕ, ◌+◌, ◌-◌, ◌≤◌, ◌<◌}
use native.Mathlib.Omega.{arith}
use borrow.Author.Tests.{le-leb}
use lib.Dec.{ltb, leb}
use lib.ListN.{length, get_or, length-append}
use Rattle.lists.specs.Buffers.{Lent, lent_as, WroteAtStart, RoomFor}
use Rattle.lists.proofs.Lengths.{either}
use Rattle.lists.proofs.Parts.{rest_of, with_rest, same_long, wrote_then}
use Rattle.printer.specs.Refinement.{view_printer, CleanPrinter}
use Rattle.printer.proofs.Views.{sized_view}
use Rattle.std.specs.Prelude.{Some, None, Ok, Err}
use Rattle.tape.specs.declared.Machine.{Machine}
use Rattle.tape.specs.declared.Stepped.{Stepped}
use Rattle.tape.specs.Fields.{Found, found_at, kind_of, item_of}
use Rattle.tape.specs.Running.{with_room, item_answer}
use Rattle.tape.specs.Refinement.Steps.{width, At, Progress, is_over, is_too_long, rest_at, field_step, next_step, stepped, ahead}
use Rattle.tape.specs.Refinement.ManySteps.{goes_on, lines_first, ran_for}
use Rattle.tape.specs.Refinement.Machine.{view_machine, RefinesProgress}
use Rattle.tape.specs.Whole.{line_room}
use Rattle.tape.proofs.Bounds.{bad_fits}
use Rattle.tape.proofs.Calling.{line_room_lem}
use Rattle.tape.proofs.Steps.{step_falls}
use Rattle.tape.proofs.ManySteps.{ran_next, ran_stops}

-- what a step prints is one line at most
found_fits : (a : At) (f : Found) → length (field_step a f).lines ≤ line_room
found_fits a (Ok None) = omega arith
found_fits a (Err e) = bad_fits (a.place.field + 1)
found_fits a (Ok (Some f)) = omega arith

either_way : (b : Bool) {c : Bool} → c ≡ false → b && c ≡ false
either_way true e = e
either_way false e = refl

behind_both : (l m : List ℕ) (g : Progress) → lines_first (l ++ m) g ≡ lines_first l (lines_first m g)
behind_both l m g = rw (append_assoc l m g.lines)

pub step_fits : (tape : List ℕ) (m : Machine) → length (stepped tape (view_machine m)).lines ≤ line_room
unfolding stepped next_step item_answer
step_fits tape m =
    let a = view_machine m in
    let rest = rest_at tape m.place in
    let lent = with_room a.run in
    either (λ (g : Progress). length g.lines ≤ line_room) (is_over m.place) (omega arith)
    (either (λ (g : Progress). length g.lines ≤ line_room) (is_too_long tape m.place) (bad_fits 0)
    (either (λ (g : Progress). length g.lines ≤ line_room) (ltb (length rest) (width (kind_of m.place.tag))) (found_fits a (found_at tape m.place.next))
    (line_room_lem (view_printer m.printer) lent.tails.paper lent.tails.wire (sized_view m.printer) m.place.field m.place.item (item_of (kind_of m.place.tag) (get_or rest 0 0) (get_or rest 1 0)))))

-- what was output, and the run that is still to come
pub record Runs (tape : List ℕ) (m₀ : Machine) (out : Lent) (m : Machine) (n : ℕ) : Type 0 where
  pub output : List ℕ
  pub wrote : WroteAtStart output out n
  pub room : RoomFor output out.before
  pub goes : ran_for tape (view_machine m₀) (length out.before) ≡ lines_first output (ran_for tape (view_machine m) (length out.before - n))
  pub clean : CleanPrinter m₀.printer → CleanPrinter m.printer

module _ {tape : List ℕ} {m₀ : Machine} {out : Lent} {m : Machine} {n : ℕ} (runs : Runs tape m₀ out m n) where
  pub still_long : length out.after ≡ length out.before
  still_long = same_long runs.wrote runs.room

  module _ (enough : line_room ≤ length out.after - n) {last : List ℕ} {r : Stepped}
      (met : RefinesProgress (stepped tape (view_machine m)) m (lent_as (rest_of out n) last) r) where
    -- something less is ahead
    pub falls : is_over m.place ≡ false → ahead tape r.machine.place < ahead tape m.place
    falls going =
        let e : r.machine.place ≡ (stepped tape (view_machine m)).at.place = ap (λ (a : At). a.place) met.view in
        rw e (step_falls tape (view_machine m) going)

    pub one_more : is_over m.place ≡ false → Runs tape m₀ (with_rest out n last) r.machine (n + r.written)
    one_more going =
        let lines = (stepped tape (view_machine m)).lines in
        record {
          output = runs.output ++ lines;
          wrote = wrote_then runs.wrote runs.room lines last r.written met.lines;
          room = simp length-append (omega (arith, runs.wrote.count, step_fits tape m, still_long));
          goes = runs.goes ∙ rest;
          clean = λ k. met.clean (runs.clean k);
        }
      where
        g : Progress
        g = stepped tape (view_machine m)

        on : goes_on (view_machine m) (length out.before - n) ≡ true
        on = rw (going, le-leb line_room (length out.before - n) (omega (arith, enough, still_long)))

        left : length out.before - n - length g.lines ≡ length out.before - (n + r.written)
        left = omega (arith, met.lines.count)

        rest : lines_first runs.output (ran_for tape (view_machine m) (length out.before - n))
            ≡ lines_first (runs.output ++ g.lines) (ran_for tape (view_machine r.machine) (length out.before - (n + r.written)))
        rest =
            rw (ran_next tape (view_machine m) (length out.before - n) on, left, met.view)
            (sym (behind_both runs.output g.lines (ran_for tape g.at (length out.before - (n + r.written)))))

  -- the run stops, as the next line might not fit or as it is over
  pub short_stops : leb line_room (length out.after - n) ≡ false → goes_on (view_machine m) (length out.before - n) ≡ false
  short_stops e =
      let f : leb line_room (length out.before - n) ≡ false = rw still_long at e in
      either_way (not (is_over m.place)) f

  pub run_met : goes_on (view_machine m) (length out.before - n) ≡ false
      → RefinesProgress (ran_for tape (view_machine m₀) (length out.before)) m₀ out (record { written = n; machine = m })
  run_met stops =
      let all : ran_for tape (view_machine m₀) (length out.before) ≡ record { lines = runs.output; at = view_machine m }
      = runs.goes ∙ (rw (ran_stops tape (view_machine m) (length out.before - n) stops, append-nil runs.output)) in
      rw all (record { lines = runs.wrote; view = refl; clean = runs.clean })
