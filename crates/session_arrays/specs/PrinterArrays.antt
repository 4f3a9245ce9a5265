-- The printer end as arrays of numbers that a host lends.
use Rattle.std.specs.Prelude.{◌≡◌, cond, List, [], ◌∷◌, ◌++◌, ℕ, length, get_or, drop}
use denote.Ref.{MutBor}
use denote.Triple.Both.{Both}
use Rattle.lists.specs.Buffers.{Lent}
use Rattle.codes.specs.Answers.{code_number, note_number, is_done}
use Rattle.negotiation.specs.declared.Sides.{Sides}
use Rattle.reader.specs.declared.Phase.{Phase}
use Rattle.rcte.specs.Control.{wait_room}
use Rattle.rcte.specs.declared.Rcte.{Rcte}
use Rattle.printer.specs.State.{PrinterState, CallEffect}
use Rattle.printer.specs.Calls.{dispositions_report, waiting_count}
use Rattle.printer.specs.Refinement.{view_printer, RefinesAnswer}
use Rattle.printer.specs.declared.Printer.{Printer}
use Rattle.printer.specs.declared.Answer.{Answer}
use Rattle.session_arrays.specs.declared.Outcome.{Outcome}
use Rattle.session_arrays.specs.declared.Reported.{Reported}
use Rattle.session_arrays.specs.declared.printer_arrays.LentPrinterArrays.{LentPrinterArrays}
use Rattle.session_arrays.specs.Numbers.{flag_number, flag_of, sides_in, reader_in, sides_and_phase, small_of, values_in, value_numbers, reports_in}

-- small: the states of the nine sides, the reader's phase and whether its body is marred, RCTE's hold, the two bits of its
-- action, DS and DR of each option about output disposition. classes: RCTE's break and transmission classes. counts: bytes of the
-- body, waiting keys, gathered bytes.
pub record PrinterArrays : Type 0 where
  pub small : List ℕ
  pub classes : List ℕ
  pub counts : List ℕ
  pub body : List ℕ
  pub marks : List ℕ
  pub cells : List ℕ
  pub waiting : List ℕ
  pub gathered : List ℕ

abbrev pub rcte_in : (small classes counts waiting gathered : List ℕ) → Rcte
rcte_in small classes counts waiting gathered = record {
  held = flag_of (get_or small 11 0);
  action = record { skipbreak = flag_of (get_or small 12 0); skiptext = flag_of (get_or small 13 0) };
  breaks = get_or classes 0 0;
  sends = get_or classes 1 0;
  waiting = waiting;
  count = get_or counts 1 0;
  gathered = gathered;
  filled = get_or counts 2 0;
}

-- every record of arrays is a state
abbrev pub decoded_printer : PrinterArrays → Printer
decoded_printer a = record {
  sides = sides_in a.small;
  reader = reader_in a.small a.counts a.body;
  table = record { marks = a.marks; cells = a.cells };
  rcte = rcte_in a.small a.classes a.counts a.waiting a.gathered;
  values = values_in a.small 14;
}

abbrev pub small_of_printer : Printer → List ℕ
small_of_printer p =
    small_of p.sides p.reader
    (flag_number p.rcte.held ∷ flag_number p.rcte.action.skipbreak ∷ flag_number p.rcte.action.skiptext ∷ value_numbers p.values)

-- the small parts with other option states and another phase, the rest as it was
abbrev pub small_in_place : List ℕ → Sides → Phase → List ℕ
small_in_place small sides phase = sides_and_phase sides phase ++ drop 10 small

abbrev pub encoded_printer : Printer → PrinterArrays
encoded_printer p = record {
  small = small_of_printer p;
  classes = p.rcte.breaks ∷ p.rcte.sends ∷ [];
  counts = p.reader.len ∷ p.rcte.count ∷ p.rcte.filled ∷ [];
  body = p.reader.body;
  marks = p.table.marks;
  cells = p.table.cells;
  waiting = p.rcte.waiting;
  gathered = p.rcte.gathered;
}

-- Assumed: nothing. Promised: a state that was stored is found again, every byte. Ruled out: two states with the same arrays.
abbrev pub PrinterFoundAgain : Type 0
PrinterFoundAgain = (p : Printer) → decoded_printer (encoded_printer p) ≡ p

-- the arrays as a call begins and as it ends
pub record LentPrinter : Type 0 where
  pub before : PrinterArrays
  pub after : PrinterArrays

-- an answer in numbers
abbrev pub printer_outcome : Answer → Outcome
printer_outcome a = record { code = code_number a.code; note = note_number a.note; first = a.paper; wire = a.wire }

-- the arrays behind a call: those of its new state, or as they were if it was refused
abbrev pub printer_kept : PrinterArrays → Answer → PrinterArrays
printer_kept before a = cond (is_done a.code) (encoded_printer a.state) before

-- what is left of an answer once its state is stored
pub record KeepsPrinter (a : Answer) (arrays : LentPrinter) (r : Outcome) : Type 0 where
  pub numbers : r ≡ printer_outcome a
  pub kept : arrays.after ≡ printer_kept arrays.before a

-- what a call on lent arrays owes to its rule: there is the answer of the call by value on the state that the arrays stand
-- for; its numbers are returned, and its state is stored if it is done
pub record RefinesOnPrinterArrays (rule : PrinterState → ℕ → ℕ → CallEffect) (arrays : LentPrinter) (paper wire : Lent) (r : Outcome) : Type 0 where
  pub answer : Answer
  pub refines : RefinesAnswer (rule (view_printer (decoded_printer arrays.before))) (decoded_printer arrays.before) paper wire answer
  pub keeps : KeepsPrinter answer arrays r

-- what a question owes that looks at one array alone: the answer of the end, whatever the others hold
pub record ReportsPrinter (small : List ℕ) (r : Reported) : Type 0 where
  pub met : (a : PrinterArrays) → a.small ≡ small → reports_in r ≡ dispositions_report (view_printer (decoded_printer a))

pub record CountsWaiting (counts : List ℕ) (n : ℕ) : Type 0 where
  pub met : (a : PrinterArrays) → a.counts ≡ counts → length a.waiting ≡ wait_room → n ≡ waiting_count (view_printer (decoded_printer a))

-- the arrays behind the parameters of a call
abbrev pub arrays_of_printer : (small classes counts body marks cells waiting gathered : List ℕ) → PrinterArrays
arrays_of_printer small classes counts body marks cells waiting gathered = record {
  small = small;
  classes = classes;
  counts = counts;
  body = body;
  marks = marks;
  cells = cells;
  waiting = waiting;
  gathered = gathered;
}

abbrev pub lent_printer : (small classes counts body marks cells waiting gathered : Both (MutBor (List ℕ)) (MutBor (List ℕ))) → LentPrinter
lent_printer small classes counts body marks cells waiting gathered = record {
  before = arrays_of_printer small.entry.now classes.entry.now counts.entry.now body.entry.now marks.entry.now cells.entry.now waiting.entry.now gathered.entry.now;
  after = arrays_of_printer small.exit.now classes.exit.now counts.exit.now body.exit.now marks.exit.now cells.exit.now waiting.exit.now gathered.exit.now;
}

-- .. in one struct, as they stand, and as they stood before
abbrev pub arrays_in : LentPrinterArrays → PrinterArrays
arrays_in a = arrays_of_printer a.small.now a.classes.now a.counts.now a.body.now a.marks.now a.cells.now a.waiting.now a.gathered.now

abbrev pub lent_between : LentPrinterArrays → LentPrinterArrays → LentPrinter
lent_between before after = record { before = arrays_in before; after = arrays_in after }

-- the struct still lends what it lent; each method says so, for a caller behind `&mut` could be handed other references
pub record SameArrays (before after : LentPrinterArrays) : Type 0 where
  pub small : after.small.ghost_name ≡ before.small.ghost_name
  pub classes : after.classes.ghost_name ≡ before.classes.ghost_name
  pub counts : after.counts.ghost_name ≡ before.counts.ghost_name
  pub body : after.body.ghost_name ≡ before.body.ghost_name
  pub marks : after.marks.ghost_name ≡ before.marks.ghost_name
  pub cells : after.cells.ghost_name ≡ before.cells.ghost_name
  pub waiting : after.waiting.ghost_name ≡ before.waiting.ghost_name
  pub gathered : after.gathered.ghost_name ≡ before.gathered.ghost_name
