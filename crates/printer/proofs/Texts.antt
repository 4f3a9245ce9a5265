-- A macro's text read byte by byte: the loop's invariant, and that one more byte keeps it.
use mathlib.Core.Path.{◌≡◌, refl, sym, ap₂, subst, ◌∙◌}
use mathlib.Core.List.{List, []}
use Prim.Native.Nat.{ℕ, ◌+◌, ◌≤◌, ◌<◌}
use native.Mathlib.Omega.{arith}
use lib.ListN.{length, drop, get_or, length-append, drop_of_length-le}
use Rattle.lists.specs.Buffers.{Lent, lent_as, untouched, WroteBothAtStart, RoomFor}
use Rattle.lists.proofs.Starts.{wrote_none}
use Rattle.lists.proofs.Parts.{rest_of, with_rest, wrote_then, part_room}
use Rattle.codes.specs.Answers.{first_note}
use Rattle.codes.specs.declared.Note.{Note}
use Rattle.codes.specs.declared.Note.TheVariants.{Clear}
use Rattle.printer.specs.declared.Printer.{Printer}
use Rattle.printer.specs.declared.Step.{Step}
use Rattle.printer.specs.State.{PrinterState, Effect, nothing, followed}
use Rattle.printer.specs.Network.{byte_read, bytes_read}
use Rattle.printer.specs.Refinement.{view_printer, CleanPrinter, RefinesStep}
use Rattle.printer.proofs.Steps.{text_next, text_done}

-- i bytes of the text are read: what they did, and what is still to come
pub record TextLoop (s : Printer) (text : List ℕ) (paper wire : Lent) (t : Printer) (n : Note) (i p w : ℕ) : Type 0 where
  pub within : i ≤ length text
  pub effect : Effect
  pub all : followed effect (bytes_read effect.state (drop i text)) ≡ bytes_read (view_printer s) text
  pub note : n ≡ effect.note
  pub wrote : WroteBothAtStart effect.paper effect.wire paper wire p w
  pub view : view_printer t ≡ effect.state
  pub clean : CleanPrinter s → CleanPrinter t

pub begun : (s : Printer) (text paper wire : List ℕ) → TextLoop s text (untouched paper) (untouched wire) s Clear 0 0 0
begun s text paper wire = record {
  within = omega arith;
  effect = nothing (view_printer s);
  all = refl;
  note = refl;
  wrote = record { paper = wrote_none paper; wire = wrote_none wire };
  view = refl;
  clean = λ k. k;
}

module _ {s t : Printer} {text : List ℕ} {paper wire : Lent} {n : Note} {i p w : ℕ} (g : TextLoop s text paper wire t n i p w)
    (paper_room : RoomFor (bytes_read (view_printer s) text).paper paper.before) (wire_room : RoomFor (bytes_read (view_printer s) text).wire wire.before) where
  pub paper_done : RoomFor g.effect.paper paper.before
  paper_done = omega (arith, simp length-append at (rw (← g.all) at paper_room))

  pub wire_done : RoomFor g.effect.wire wire.before
  wire_done = omega (arith, simp length-append at (rw (← g.all) at wire_room))

  module _ (lt : i < length text) where
    -- the next byte's step, and what it did with those before it
    next : Effect
    next = byte_read g.effect.state (get_or text i 0)

    both : Effect
    both = followed g.effect next

    both_all : followed both (bytes_read both.state (drop (i + 1) text)) ≡ bytes_read (view_printer s) text
    unfolding both next
    both_all = sym (text_next g.effect text i lt) ∙ g.all

    paper_both : RoomFor both.paper paper.before
    paper_both = omega (arith, simp length-append at (rw (← both_all) at paper_room))

    wire_both : RoomFor both.wire wire.before
    wire_both = omega (arith, simp length-append at (rw (← both_all) at wire_room))

    at_view : view_printer t ≡ g.effect.state
    at_view = g.view

    pub paper_next : RoomFor (byte_read (view_printer t) (get_or text i 0)).paper (rest_of paper p)
    unfolding both next
    paper_next = subst (λ (x : PrinterState). RoomFor (byte_read x (get_or text i 0)).paper (rest_of paper p)) (sym at_view) (part_room g.wrote.paper paper_done next.paper paper_both)

    pub wire_next : RoomFor (byte_read (view_printer t) (get_or text i 0)).wire (rest_of wire w)
    unfolding both next
    wire_next = subst (λ (x : PrinterState). RoomFor (byte_read x (get_or text i 0)).wire (rest_of wire w)) (sym at_view) (part_room g.wrote.wire wire_done next.wire wire_both)

    module _ {last_p last_w : List ℕ} {r : Step} (m : RefinesStep (byte_read (view_printer t) (get_or text i 0)) t (lent_as (rest_of paper p) last_p) (lent_as (rest_of wire w) last_w) r) where
      met_next : RefinesStep next t (lent_as (rest_of paper p) last_p) (lent_as (rest_of wire w) last_w) r
      unfolding next
      met_next = subst (λ (x : PrinterState). RefinesStep (byte_read x (get_or text i 0)) t (lent_as (rest_of paper p) last_p) (lent_as (rest_of wire w) last_w) r) at_view m

      pub turn : TextLoop s text (with_rest paper p last_p) (with_rest wire w last_w) r.state (first_note n r.note) (i + 1) (p + r.paper) (w + r.wire)
      unfolding both
      turn = record {
        within = omega arith;
        effect = both;
        all = both_all;
        note = ap₂ first_note g.note met_next.note;
        wrote = record {
          paper = wrote_then g.wrote.paper paper_done next.paper last_p r.paper met_next.wrote.paper;
          wire = wrote_then g.wrote.wire wire_done next.wire last_w r.wire met_next.wrote.wire;
        };
        view = met_next.view;
        clean = λ k. met_next.clean (g.clean k);
      }

  -- the whole text is read
  pub ended : length text ≤ i → RefinesStep (bytes_read (view_printer s) text) s paper wire (record { note = n; paper = p; wire = w; state = t })
  unfolding bytes_read
  ended le =
      let none : drop i text ≡ [] = drop_of_length-le text {i = i} le in
      let is : g.effect ≡ bytes_read (view_printer s) text = sym (text_done g.effect) ∙ (rw none at g.all) in
      rw (← is) (record { note = g.note; wrote = g.wrote; view = g.view; clean = g.clean })
