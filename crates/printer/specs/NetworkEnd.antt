-- The printer end reads runs as reader/NetworkEnd asks: its rule keeps the laws.
use Rattle.std.specs.Prelude.{◌≡◌, ℕ, Option, Some, None, true, false, refl}
use mathlib.Core.List.{append_assoc, append-nil}
use Rattle.codes.specs.Answers.{no_room, guarded}
use Rattle.codes.specs.declared.Code.TheVariants.{Done, NoRoom}
use Rattle.codes.proofs.Notes.{first_assoc, first_clear}
use Rattle.lists.specs.Buffers.{Lent}
use Rattle.reader.specs.NetworkEnd.{Lawful, Stepped}
use Rattle.reader.specs.declared.network_runs.ByteOutcome.{ByteOutcome}
use Rattle.printer.specs.declared.Printer.{Printer}
use Rattle.printer.specs.State.{PrinterState, Effect, nothing, followed, printing}
use Rattle.printer.specs.Network.{network_read}
use Rattle.printer.specs.Calls.{network_call}
use Rattle.printer.specs.NetworkRun.{printer_byte}
use Rattle.printer.specs.InPlace.{InPlaceEffect, in_place_read, in_place}
use Rattle.printer.specs.Refinement.{view_printer, CleanPrinter, WholePrinter}

pub call_refused : (s : PrinterState) (b p w : ℕ) → no_room p w ≡ true → (network_call s b p w).code ≡ NoRoom
unfolding network_call guarded
call_refused s b p w h = rw h

pub call_done : (s : PrinterState) (b p w : ℕ) → no_room p w ≡ false → ((network_call s b p w).code ≡ Done) × ((network_call s b p w).effect ≡ network_read s b)
unfolding network_call guarded
call_done s b p w h = (rw h, rw h)

pub followed_assoc : (a b c : Effect) → followed (followed a b) c ≡ followed a (followed b c)
followed_assoc a b c =
    rw (first_assoc a.note b.note c.note, append_assoc a.paper b.paper c.paper, append_assoc a.wire b.wire c.wire, append_assoc a.taken b.taken c.taken)

-- a step behind which nothing happens
pub followed_nothing : (d : Effect) → followed d (nothing d.state) ≡ d
followed_nothing d = rw (first_clear d.note, append-nil d.paper, append-nil d.wire, append-nil d.taken)

abbrev pub lawful : Lawful printer_byte
lawful = record {
  read = network_read;
  plain = printing;
  refused = call_refused;
  done = call_done;
  note_both = λ c d. refl;
  first_both = λ c d. refl;
  wire_both = λ c d. refl;
  state_both = λ c d. refl;
  assoc = followed_assoc;
  none_before = λ s d. refl;
  none_behind = followed_nothing;
  plain_none = λ s. refl;
  plain_more = λ x xs s. refl;
  plain_note = λ xs s. refl;
  plain_first = λ xs s. refl;
  plain_wire = λ xs s. refl;
  plain_state = λ xs s. refl;
}

-- what bytes keep of the code's state besides its view
pub record Keeps (s t : Printer) : Type 0 where
  pub clean : CleanPrinter s → CleanPrinter t
  pub whole : WholePrinter s → WholePrinter t

-- the code read a byte
abbrev pub Reads : ℕ → (s t : Printer) → (paper wire : Lent) → ByteOutcome → Type 0
Reads b s t paper wire r = Stepped lawful view_printer Keeps (network_read (view_printer s) b) s t r.note paper wire r.first r.wire

-- .. in place, just where the rule handles it: only the option states and the phase are others then, and otherwise the state and the
-- buffers are as they were
abbrev pub in_place_of : Printer → ℕ → InPlaceEffect
in_place_of s b = in_place_read s.sides s.reader.phase s.rcte.held s.table b

abbrev pub ReadsInPlace : InPlaceEffect → ℕ → (s t : Printer) → (paper wire : Lent) → Option ByteOutcome → Type 0
ReadsInPlace e b s t paper wire (Some r) = (e.handled ≡ true) × (t ≡ in_place s e.sides e.phase) × Reads b s t paper wire r
ReadsInPlace e b s t paper wire None = (e.handled ≡ false) × (t ≡ s) × (paper.after ≡ paper.before) × (wire.after ≡ wire.before)
