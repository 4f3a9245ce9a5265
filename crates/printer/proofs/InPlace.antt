-- A byte that is handled in place does what a network byte does.
use mathlib.Core.Path.{◌≡◌, refl, sym, ap, ◌∙◌}
use mathlib.Core.Bool.{Bool, true, false, not, ◌&&◌, false≢true, cond}
use mathlib.Core.List.{List, [], ◌∷◌, append-nil}
use Prim.Native.Nat.{ℕ, ◌+◌, ◌≤◌}
use native.Mathlib.Omega.{arith}
use borrow.Author.Tests.{eqb-true}
use lib.ListN.{length, drop, drop_of_length-le}
use lib.Seq.{take-length}
use Rattle.lists.specs.Fronts.{front}
use Rattle.lists.proofs.Lengths.{either}
use Rattle.codes.specs.Answers.{paper_room, wire_room}
use Rattle.codes.specs.Telnet.{not_iac}
use Rattle.codes.specs.declared.Note.TheVariants.{Clear}
use Rattle.negotiation.specs.declared.End.{End}
use Rattle.negotiation.specs.declared.OptionState.{OptionState}
use Rattle.negotiation.specs.declared.Side.{Side}
use Rattle.negotiation.specs.declared.Side.TheVariants.{Echo, BulletinSga, Rcte, Macro, PrinterSga, Disposes, Uncarried}
use Rattle.negotiation.specs.declared.Sides.{Sides}
use Rattle.negotiation.specs.Carried.{moved, reply_bytes, heard_by}
use Rattle.reader.specs.declared.Item.{Item}
use Rattle.reader.specs.declared.Item.TheVariants.{Nothing, Data, Negotiated, BodyEnd, StrayCommand}
use Rattle.reader.specs.declared.Phase.{Phase}
use Rattle.reader.specs.declared.PhaseRead.{PhaseRead}
use Rattle.std.proofs.Common.{Option, Some, None}
use Rattle.reader.specs.Phases.{phase_read}
use Rattle.reader.specs.Reading.{in_phase, byte_by, is_between}
use Rattle.reader.proofs.PhaseAlone.{phase_alone}
use Rattle.received_macros.specs.Texts.{Entry, plain, text, entry_of}
use Rattle.received_macros.specs.Refinement.{view_texts, is_unmarked}
use Rattle.received_macros.proofs.View.{unmarked_plain}
use Rattle.printer.specs.declared.Printer.{Printer}
use Rattle.printer.specs.State.{PrinterState, with_sides, with_reader, bm_in_force, Effect, printing}
use Rattle.printer.specs.Network.{data_read, side_moved, moved_with_reply, negotiation_read, item_read, byte_read, bytes_read, entry_read, network_read}
use Rattle.printer.specs.Stretches.{is_settled, text_stretch}
use Rattle.printer.specs.Refinement.{view_printer}
use Rattle.printer.specs.Limits.{Fits}
use Rattle.printer.specs.InPlace.{InPlaceEffect, unhandled, prints_in_place, replies_in_place, moves_alone, is_plain_text, text_in_place, turn_in_place, item_in_place, moved_in_place, byte_in_place, entry_in_place, may_replace, in_place_read, step_in_place, ReadInPlace, UnhandledStays, InPlaceFits}
use Rattle.printer.proofs.Choosing.{plain_read, off_read, inside_read, chosen_read}
use Rattle.printer.proofs.PlainBytes.{is_settled_in, settled_still, text_stretch_lem}
use Rattle.printer.specs.NetworkEnd.{followed_nothing}
use Rattle.printer.proofs.Limits.{network_fits}
use Rattle.printer.proofs.Views.{sized_view}

-- the same of any state of the rules
abbrev pub step_of : PrinterState → InPlaceEffect → Effect
step_of s e = record { note = Clear; paper = e.paper; wire = e.wire; taken = []; state = with_reader (with_sides s e.sides) (in_phase s.reader e.phase) }

-- a step is what is handled, if it is
abbrev pub Does : PrinterState → Effect → InPlaceEffect → Type 0
Does s d e = e.handled ≡ true → d ≡ step_of s e

-- one that is handled where a test holds
does_if : (s : PrinterState) (d : Effect) (t : Bool) (e : InPlaceEffect) (p : Phase) → (t ≡ true → Does s d e) → Does s d (cond t e (unhandled s.sides p))
does_if s d true e p h k = h refl k
does_if s d false e p h k = absurd (false≢true k)

-- the state with the reader as a byte left it
abbrev in_next : PrinterState → Phase → PrinterState
in_next s next = with_reader s (in_phase s.reader next)

module _ (s : PrinterState) (next : Phase) where
  -- a side that moves alone
  side_moves : (side : Side) (q : OptionState) (reply : List ℕ) → moves_alone side ≡ true
      → moved_with_reply (in_next s next) side q reply ≡ step_of s (replies_in_place reply (moved s.sides side q) next)
  unfolding side_moved
  side_moves Echo q reply h = rw append-nil
  side_moves BulletinSga q reply h = rw append-nil
  side_moves Rcte q reply h = absurd (false≢true h)
  side_moves Macro q reply h = absurd (false≢true h)
  side_moves PrinterSga q reply h = rw append-nil
  side_moves (Disposes d) q reply h = absurd (false≢true h)
  side_moves Uncarried q reply h = rw append-nil

  item_does : (i : Item) → Does s (item_read (in_next s next) i) (item_in_place s.sides s.reader.phase next s.rcte.held i)
  unfolding item_in_place turn_in_place data_read negotiation_read
  item_does Nothing h = refl
  item_does (Data b) h =
      does_if s (data_read (in_next s next) b) (is_settled_in (in_next s next)) _ _ (λ t k. ap (λ (x : PrinterState). printing (b ∷ []) x) (settled_still (in_next s next) t)) h
  item_does (Negotiated v option) h = does_if s _ _ _ _ (λ t k. side_moves _ _ _ t) h
  item_does BodyEnd h = absurd (false≢true h)
  item_does StrayCommand h = absurd (false≢true h)

-- a byte read as it stands
byte_does : (s : PrinterState) (b : ℕ) → Does s (byte_read s b) (byte_in_place s.sides s.reader.phase s.rcte.held b)
unfolding byte_read byte_in_place
byte_does s b h = go (phase_read s.reader.phase b) refl h
  where
    go : (m : Option PhaseRead) → phase_read s.reader.phase b ≡ m → Does s (byte_read s b) (moved_in_place s.sides s.reader.phase s.rcte.held m)
    go None e k = absurd (false≢true k)
    go (Some m) e k = ap (byte_by with_reader item_read s) (phase_alone s.reader b m e) ∙ item_does s m.phase m.item k

-- a text that is plain throughout
free_text : (s : PrinterState) (t : List ℕ) → is_settled_in s ≡ true → is_plain_text t ≡ true → bytes_read s t ≡ printing t s
unfolding text_stretch bytes_read
free_text s t settled free =
    let whole : length t ≡ text_stretch s.sides s.reader.phase s.rcte.held t = rw settled (sym (eqb-true (front not_iac t) (length t) free)) in
    let none : drop (0 + length t) t ≡ [] = drop_of_length-le t {i = 0 + length t} (omega arith) in
    rw (take-length, none) at (text_stretch_lem s t 0 (length t) whole) ∙ followed_nothing (printing t s)

pub entry_does : (s : PrinterState) (b : ℕ) (e : Entry) → Does s (entry_read s b e) (entry_in_place s.sides s.reader.phase s.rcte.held e)
unfolding entry_in_place
entry_does s b plain h = absurd (false≢true h)
entry_does s b (text t) h =
    does_if s (bytes_read s t) (is_settled_in s) _ _ (λ settled. does_if s (bytes_read s t) (is_plain_text t) _ _ (λ free k. free_text s t settled free)) h

pub read_in_place : ReadInPlace
unfolding in_place_read
read_in_place p b h = go (bm_in_force s) (is_between s.reader.phase) (is_unmarked p.table.marks b) refl refl refl h
  where
    s : PrinterState
    s = view_printer p

    go : (m t u : Bool) → bm_in_force s ≡ m → is_between s.reader.phase ≡ t → is_unmarked p.table.marks b ≡ u
        → Does s (network_read s b) (cond (m && t && not u) (entry_in_place s.sides s.reader.phase s.rcte.held (entry_of s.table b)) (byte_in_place s.sides s.reader.phase s.rcte.held b))
    go true true false m t u k = chosen_read s b m t ∙ entry_does s b (entry_of s.table b) k
    go true true true m t u k = plain_read s b (unmarked_plain p.table b u) ∙ byte_does s b k
    go true false x m t u k = inside_read s b t ∙ byte_does s b k
    go false x y m t u k = off_read s b m ∙ byte_does s b k

-- a byte that is not handled
module _ (sides : Sides) (phase : Phase) where
  abbrev Stays : InPlaceEffect → Type 0
  Stays e = e.handled ≡ false → e ≡ unhandled sides phase

  handled_stays : (e : InPlaceEffect) → e.handled ≡ true → Stays e
  handled_stays e h k = absurd (false≢true (sym k ∙ h))

  stays_if : (t : Bool) (e : InPlaceEffect) → Stays e → Stays (cond t e (unhandled sides phase))
  stays_if true e h k = h k
  stays_if false e h k = refl

  item_stays : (next : Phase) (held : Bool) (i : Item) → Stays (item_in_place sides phase next held i)
  unfolding item_in_place turn_in_place
  item_stays next held Nothing k = handled_stays _ refl k
  item_stays next held (Data b) k = stays_if (is_settled sides next held) (prints_in_place (b ∷ []) sides next) (handled_stays _ refl) k
  item_stays next held (Negotiated v option) k =
      let t = heard_by End.Printer sides v option in
      stays_if (moves_alone t.side) (replies_in_place (reply_bytes t.whose t.reply option) (moved sides t.side t.next) next) (handled_stays _ refl) k
  item_stays next held BodyEnd k = refl
  item_stays next held StrayCommand k = refl

  byte_stays : (held : Bool) (b : ℕ) → Stays (byte_in_place sides phase held b)
  unfolding byte_in_place
  byte_stays held b = go (phase_read phase b)
    where
      go : (m : Option PhaseRead) → Stays (moved_in_place sides phase held m)
      go None k = refl
      go (Some m) k = item_stays m.phase held m.item k

  pub entry_stays : (held : Bool) (e : Entry) → Stays (entry_in_place sides phase held e)
  unfolding entry_in_place
  entry_stays held plain k = refl
  entry_stays held (text t) k = stays_if (is_settled sides phase held) (text_in_place sides phase t) (stays_if (is_plain_text t) (prints_in_place t sides phase) (handled_stays _ refl)) k

  -- a byte that has a mark leaves both parts as they were
  abbrev UnmovedParts : InPlaceEffect → Type 0
  UnmovedParts e = (e.sides ≡ sides) × (e.phase ≡ phase)

  pub entry_kept : (held : Bool) (e : Entry) → UnmovedParts (entry_in_place sides phase held e)
  unfolding entry_in_place
  entry_kept held plain = (refl, refl)
  entry_kept held (text t) = either UnmovedParts (is_settled sides phase held) (either UnmovedParts (is_plain_text t) (refl, refl) (refl, refl)) (refl, refl)

pub unhandled_stays : UnhandledStays
unfolding in_place_read
unhandled_stays sides phase held t b =
    either (Stays sides phase) (may_replace sides phase t.marks b) (entry_stays sides phase held (entry_of (view_texts t) b)) (byte_stays sides phase held b)

-- what is written, whatever the effect is
abbrev Within : InPlaceEffect → Type 0
Within e = (length e.paper ≤ paper_room) × (length e.wire ≤ wire_room)

handled_fits : (p : Printer) (b : ℕ) (e : InPlaceEffect) → network_read (view_printer p) b ≡ step_in_place p e → Within e
handled_fits p b e h =
    let fits : Fits (step_in_place p e) = rw (← h) (network_fits (view_printer p) b (sized_view p)) in
    (fits.paper, fits.wire)

pub in_place_fits : InPlaceFits
in_place_fits p b = go _ (read_in_place p b) (unhandled_stays p.sides p.reader.phase p.rcte.held p.table b)
  where
    go : (e : InPlaceEffect) → (e.handled ≡ true → network_read (view_printer p) b ≡ step_in_place p e) → (e.handled ≡ false → e ≡ unhandled p.sides p.reader.phase) → Within e
    go e does stays = either_way e.handled refl
      where
        either_way : (t : Bool) → e.handled ≡ t → Within e
        either_way true h = handled_fits p b e (does h)
        either_way false h = rw (stays h) (omega arith, omega arith)
