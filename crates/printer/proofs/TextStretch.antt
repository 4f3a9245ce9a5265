-- A plain stretch of a macro's text is printed by one copy: it keeps the invariant of the loop that reads the text.
use mathlib.Core.Path.{◌≡◌, sym, ap, subst, ◌∙◌}
use mathlib.Core.List.{List, append-nil}
use Prim.Native.Nat.{ℕ, ◌+◌, ◌≤◌}
use native.Mathlib.Omega.{arith}
use lib.ListN.{length, take, drop, length-append, length-drop}
use Rattle.lists.specs.Buffers.{Lent, lent_as, WroteAtStart, RoomFor}
use Rattle.lists.proofs.Parts.{rest_of, with_rest, wrote_then, part_room}
use Rattle.codes.specs.declared.Note.{Note}
use Rattle.codes.proofs.Notes.{first_clear}
use Rattle.printer.specs.declared.Printer.{Printer}
use Rattle.printer.specs.State.{PrinterState, Effect, printing, followed}
use Rattle.printer.specs.Network.{bytes_read}
use Rattle.printer.specs.Stretches.{text_stretch}
use Rattle.printer.specs.Refinement.{view_printer}
use Rattle.printer.specs.NetworkEnd.{followed_assoc}
use Rattle.printer.proofs.PlainBytes.{text_within, text_stretch_lem}
use Rattle.printer.proofs.Texts.{TextLoop, paper_done}

module _ {s t : Printer} {text : List ℕ} {paper wire : Lent} {n : Note} {i p w : ℕ}
    (g : TextLoop s text paper wire t n i p w)
    (paper_room : RoomFor (bytes_read (view_printer s) text).paper paper.before) (wire_room : RoomFor (bytes_read (view_printer s) text).wire wire.before)
    (k : ℕ) (plain : k ≡ text_stretch t.sides t.reader.phase t.rcte.held (drop i text)) where
  pub stretch_within : i + k ≤ length text
  stretch_within = omega (arith, g.within, simp length-drop at (text_within (view_printer t) text i k plain))

  stretch : Effect
  stretch = printing (take k (drop i text)) g.effect.state

  stretch_all : followed (followed g.effect stretch) (bytes_read g.effect.state (drop (i + k) text)) ≡ bytes_read (view_printer s) text
  unfolding stretch
  stretch_all =
      let law : bytes_read g.effect.state (drop i text) ≡ followed stretch (bytes_read g.effect.state (drop (i + k) text))
      = subst (λ (x : PrinterState). bytes_read x (drop i text) ≡ followed (printing (take k (drop i text)) x) (bytes_read x (drop (i + k) text))) g.view (text_stretch_lem (view_printer t) text i k plain) in
      followed_assoc g.effect stretch (bytes_read g.effect.state (drop (i + k) text)) ∙ ap (λ (d : Effect). followed g.effect d) (sym law) ∙ g.all

  paper_stretch : RoomFor (followed g.effect stretch).paper paper.before
  paper_stretch = simp length-append (omega (arith, simp length-append at (rw (← stretch_all) at paper_room)))

  pub stretch_room : RoomFor (take k (drop i text)) (rest_of paper p)
  unfolding stretch
  stretch_room = part_room g.wrote.paper (paper_done g paper_room wire_room) (take k (drop i text)) paper_stretch

  module _ {last : List ℕ} {r : ℕ} (m : WroteAtStart (take k (drop i text)) (lent_as (rest_of paper p) last) r) where
    pub turn_stretch : TextLoop s text (with_rest paper p last) wire t n (i + k) (p + r) w
    unfolding stretch
    turn_stretch = record {
      within = stretch_within;
      effect = followed g.effect stretch;
      all = stretch_all;
      note = g.note ∙ sym (first_clear g.effect.note);
      wrote = record {
        paper = wrote_then g.wrote.paper (paper_done g paper_room wire_room) (take k (drop i text)) last r m;
        wire = rw append-nil g.wrote.wire;
      };
      view = g.view;
      clean = g.clean;
    }
