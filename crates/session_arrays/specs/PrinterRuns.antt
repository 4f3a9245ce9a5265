-- A run of network bytes at the printer end, on arrays that a host lends.
use Rattle.std.specs.Prelude.{◌≡◌, Bool, true, false, List, ℕ, length, get_or, Option, Some, None}
use Rattle.lists.specs.Buffers.{Lent, WroteBothAtStart}
use Rattle.codes.specs.Answers.{code_number, note_number}
use Rattle.codes.specs.declared.Code.TheVariants.{Done}
use Rattle.negotiation.specs.declared.Sides.{Sides}
use Rattle.reader.specs.declared.Phase.{Phase}
use Rattle.reader.specs.Numbers.{phase_of}
use Rattle.reader.specs.NetworkRun.{RunCallEffect}
use Rattle.printer.specs.declared.Parts.{Parts}
use Rattle.printer.specs.State.{PrinterState, Effect}
use Rattle.printer.specs.Stretches.{data_stretch, is_plain_byte}
use Rattle.printer.specs.InPlace.{InPlaceEffect, in_place_read, table_in}
use Rattle.printer.specs.Refinement.{view_printer, CleanPrinter}
use Rattle.reader.specs.declared.network_runs.ByteOutcome.{ByteOutcome}
use Rattle.session_arrays.specs.declared.RunOutcome.{RunOutcome}
use Rattle.session_arrays.specs.Numbers.{flag_of, sides_in}
use Rattle.session_arrays.specs.declared.printer_arrays.LentPrinterArrays.{LentPrinterArrays}
use Rattle.session_arrays.specs.PrinterArrays.{PrinterArrays, arrays_of_printer, decoded_printer, encoded_printer, small_in_place, LentPrinter, arrays_in, SameArrays}

-- the arrays as a session leaves them: nothing stands in unused cells, and each part has the number that is stored for it
pub record SoundPrinter (a : PrinterArrays) : Type 0 where
  pub clean : CleanPrinter (decoded_printer a)
  pub encoded : encoded_printer (decoded_printer a) ≡ a

-- a byte that was read does what the rule says, and leaves sound arrays sound
pub record RefinesByteOnPrinterArrays (d : Effect) (arrays : LentPrinter) (paper wire : Lent) (r : ByteOutcome) : Type 0 where
  pub note : r.note ≡ d.note
  pub wrote : WroteBothAtStart d.paper d.wire paper wire r.first r.wire
  pub view : view_printer (decoded_printer arrays.after) ≡ d.state
  pub sound : SoundPrinter arrays.before → SoundPrinter arrays.after

-- as `RefinesRunOutcome` of the run by value; the state that the arrays stand for is the rule's, and a refusal leaves them as they were
pub record RefinesRunOutcomeOnPrinterArrays (a : RunCallEffect Effect) (arrays : LentPrinter) (paper wire : Lent) (r : RunOutcome) : Type 0 where
  pub code : r.code ≡ code_number a.code
  pub note : r.note ≡ note_number a.ran.effect.note
  pub taken : r.taken ≡ a.ran.taken
  pub wrote : WroteBothAtStart a.ran.effect.paper a.ran.effect.wire paper wire r.first r.wire
  pub view : view_printer (decoded_printer arrays.after) ≡ a.ran.effect.state
  pub sound : SoundPrinter arrays.before → SoundPrinter arrays.after
  pub same : (a.code ≡ Done → ⊥) → arrays.after ≡ arrays.before

-- what a run owes to its rule, which goes by the sizes of the two buffers
abbrev pub RefinesRunOnPrinterArrays : (ℕ → ℕ → RunCallEffect Effect) → LentPrinter → Lent → Lent → RunOutcome → Type 0
RefinesRunOnPrinterArrays rule arrays paper wire r = RefinesRunOutcomeOnPrinterArrays (rule (length paper.before) (length wire.before)) arrays paper wire r

-- what says how a byte is read, in the small parts
abbrev pub parts_in : List ℕ → Parts
parts_in small = record { sides = sides_in small; phase = phase_of (get_or small 9 0); held = flag_of (get_or small 11 0) }

-- how many bytes at the front are plain, by the parts that this takes
abbrev pub stretch_in : (small marks bytes : List ℕ) → ℕ
stretch_in small marks bytes = data_stretch (sides_in small) (phase_of (get_or small 9 0)) (flag_of (get_or small 11 0)) marks bytes

-- .. and whether one byte is
abbrev pub is_plain_in : (small marks : List ℕ) → ℕ → Bool
is_plain_in small marks b = is_plain_byte (sides_in small) (phase_of (get_or small 9 0)) (flag_of (get_or small 11 0)) marks b

-- a byte read in place, from the small parts and the macros alone
abbrev pub in_place_in : (small marks cells : List ℕ) → ℕ → InPlaceEffect
in_place_in small marks cells b = in_place_read (sides_in small) (phase_of (get_or small 9 0)) (flag_of (get_or small 11 0)) (table_in marks cells) b

abbrev pub in_place_of : PrinterArrays → ℕ → InPlaceEffect
in_place_of a b = in_place_in a.small a.marks a.cells b

-- the option states and the phase stored, and nothing else
abbrev pub stored_in_place : Sides → Phase → PrinterArrays → PrinterArrays
stored_in_place sides phase a =
    arrays_of_printer (small_in_place a.small sides phase) a.classes a.counts a.body a.marks a.cells a.waiting a.gathered

-- .. by the code, just where the rule handles it: it is read, these parts are stored and nothing else, and otherwise the arrays and the
-- buffers are as they were
abbrev pub ReadsInPlace : InPlaceEffect → Effect → LentPrinter → (paper wire : Lent) → Option ByteOutcome → Type 0
ReadsInPlace e d arrays paper wire (Some r) =
    (e.handled ≡ true) × (arrays.after ≡ stored_in_place e.sides e.phase arrays.before) × RefinesByteOnPrinterArrays d arrays paper wire r
ReadsInPlace e d arrays paper wire None = (e.handled ≡ false) × (arrays.after ≡ arrays.before) × (paper.after ≡ paper.before) × (wire.after ≡ wire.before)

-- the struct of arrays as it reads runs: the state that it stands for, and what bytes keep of it besides
abbrev pub view_lent : LentPrinterArrays → PrinterState
view_lent a = view_printer (decoded_printer (arrays_in a))

pub record Keeps (s t : LentPrinterArrays) : Type 0 where
  pub sound : SoundPrinter (arrays_in s) → SoundPrinter (arrays_in t)
  pub same_arrays : SameArrays s t
