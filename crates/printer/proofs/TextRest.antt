-- A macro's text read from the front of what is left of it: the loop's invariant, and that a stretch or a byte keeps it.
use mathlib.Core.Path.{◌≡◌, refl, ap, ◌∙◌}
use mathlib.Core.List.{List}
use Prim.Native.Nat.{ℕ, ◌+◌, ◌-◌, ◌≤◌, ◌<◌}
use native.Mathlib.Omega.{arith}
use lib.ListN.{length, take, drop, get_or, length-drop}
use lib.Seq.{take_all, drop-drop, get_or-drop}
use Rattle.lists.specs.Buffers.{Lent, lent_as, untouched, WroteAtStart, RoomFor}
use Rattle.lists.proofs.Parts.{rest_of, with_rest}
use Rattle.codes.specs.Answers.{first_note}
use Rattle.codes.specs.declared.Note.TheVariants.{Clear}
use Rattle.printer.specs.declared.Printer.{Printer}
use Rattle.printer.specs.declared.Step.{Step}
use Rattle.printer.specs.Network.{byte_read, bytes_read}
use Rattle.printer.specs.Stretches.{text_stretch}
use Rattle.printer.specs.Refinement.{view_printer, RefinesStep}
use Rattle.printer.proofs.Texts.{TextLoop, begun, paper_next, wire_next, turn, ended}
use Rattle.printer.proofs.TextStretch.{stretch_within, stretch_room, turn_stretch}

-- what is left of the text is behind its first i bytes, which are read
pub record RestLoop (s : Printer) (text : List ℕ) (paper wire : Lent) (r : Step) (rest : List ℕ) : Type 0 where
  pub i : ℕ
  pub at_i : rest ≡ drop i text
  pub loop : TextLoop s text paper wire r.state r.note i r.paper r.wire

pub rest_begun : (s : Printer) (text paper wire : List ℕ) → RestLoop s text (untouched paper) (untouched wire) (record { note = Clear; paper = 0; wire = 0; state = s }) text
rest_begun s text paper wire = record { i = 0; at_i = refl; loop = begun s text paper wire }

module _ {s : Printer} {text : List ℕ} {paper wire : Lent} {r : Step} {rest : List ℕ} (g : RestLoop s text paper wire r rest) where
  rest_long : length rest ≡ length text - g.i
  rest_long = rw g.at_i (simp length-drop refl)

  behind : (k : ℕ) → take (length rest - k) (drop k rest) ≡ drop (g.i + k) text
  behind k =
      let all : take (length rest - k) (drop k rest) ≡ drop k rest = take_all (length rest - k) (drop k rest) (simp length-drop (omega arith)) in
      all ∙ ap (λ (x : List ℕ). drop k x) g.at_i ∙ drop-drop k g.i text

  module _ (paper_room : RoomFor (bytes_read (view_printer s) text).paper paper.before) (wire_room : RoomFor (bytes_read (view_printer s) text).wire wire.before) where
    module _ (k : ℕ) (plain : k ≡ text_stretch r.state.sides r.state.reader.phase r.state.rcte.held rest) where
      plain_at : k ≡ text_stretch r.state.sides r.state.reader.phase r.state.rcte.held (drop g.i text)
      plain_at = rw (← g.at_i) plain

      pub rest_within : k ≤ length rest
      rest_within = omega (arith, rest_long, g.loop.within, stretch_within g.loop paper_room wire_room k plain_at)

      pub rest_room : RoomFor (take k rest) (rest_of paper r.paper)
      rest_room = rw g.at_i (stretch_room g.loop paper_room wire_room k plain_at)

      pub rest_printed : {last : List ℕ} {m : ℕ} → WroteAtStart (take k rest) (lent_as (rest_of paper r.paper) last) m
          → RestLoop s text (with_rest paper r.paper last) wire (record { note = r.note; paper = r.paper + m; wire = r.wire; state = r.state }) (take (length rest - k) (drop k rest))
      rest_printed w = record { i = g.i + k; at_i = behind k; loop = turn_stretch g.loop paper_room wire_room k plain_at (rw g.at_i at w) }

    module _ (some : 0 < length rest) where
      lt : g.i < length text
      lt = omega (arith, rest_long, some)

      first_byte : get_or rest 0 0 ≡ get_or text g.i 0
      first_byte =
          let same : g.i + 0 ≡ g.i = omega arith in
          rw g.at_i (rw same at (get_or-drop g.i text 0 0))

      pub paper_first : RoomFor (byte_read (view_printer r.state) (get_or rest 0 0)).paper (rest_of paper r.paper)
      paper_first = rw first_byte (paper_next g.loop paper_room wire_room lt)

      pub wire_first : RoomFor (byte_read (view_printer r.state) (get_or rest 0 0)).wire (rest_of wire r.wire)
      wire_first = rw first_byte (wire_next g.loop paper_room wire_room lt)

      pub rest_turn : {last_p last_w : List ℕ} {t : Step} → RefinesStep (byte_read (view_printer r.state) (get_or rest 0 0)) r.state (lent_as (rest_of paper r.paper) last_p) (lent_as (rest_of wire r.wire) last_w) t
          → RestLoop s text (with_rest paper r.paper last_p) (with_rest wire r.wire last_w)
          (record { note = first_note r.note t.note; paper = r.paper + t.paper; wire = r.wire + t.wire; state = t.state }) (take (length rest - 1) (drop 1 rest))
      rest_turn m = record { i = g.i + 1; at_i = behind 1; loop = turn g.loop paper_room wire_room lt (rw first_byte at m) }

    pub rest_ended : length rest ≡ 0 → RefinesStep (bytes_read (view_printer s) text) s paper wire r
    rest_ended none = ended g.loop paper_room wire_room (omega (arith, rest_long, none))
