-- The printer end as the code keeps it: its view, its clean cells, and how a step and an answer of the code meet the rules.
use Rattle.std.specs.Prelude.{◌≡◌, Bool, not, ◌&&◌, ◌||◌, List, ℕ, length}
use Rattle.lists.specs.Buffers.{Lent, untouched, WroteBothAtStart}
use Rattle.codes.specs.declared.Code.{Code}
use Rattle.codes.specs.declared.Code.TheVariants.{Done}
use Rattle.codes.specs.declared.Note.{Note}
use Rattle.codes.specs.declared.Note.TheVariants.{Clear}
use Rattle.reader.specs.declared.Phase.{Phase}
use Rattle.reader.specs.Reading.{body_room, is_data}
use Rattle.received_macros.specs.Texts.{text_room}
use Rattle.rcte.specs.Taking.{gather_room}
use Rattle.rcte.specs.Control.{wait_room}
use Rattle.reader.specs.Refinement.{view_reader, CleanReader, idle_cells}
use Rattle.received_macros.specs.Refinement.{view_texts, CleanTexts, empty_cells}
use Rattle.rcte.specs.Refinement.{view_rcte, CleanRcte, started_cells}
use Rattle.disposition.specs.ByOption.{all_unspoken}
use Rattle.printer.specs.declared.Printer.{Printer}
use Rattle.printer.specs.declared.Parts.{Parts}
use Rattle.printer.specs.declared.Step.{Step}
use Rattle.rcte.specs.declared.RcteStep.{RcteStep}
use Rattle.printer.specs.declared.Answer.{Answer}
use Rattle.reader.specs.declared.Item.TheVariants.{BodyEnd}
use Rattle.negotiation.specs.declared.End.{End}
use Rattle.negotiation.specs.declared.Sides.{Sides}
use Rattle.negotiation.specs.Table.{is_yes}
use Rattle.negotiation.specs.Carried.{all_no, macros_in_force}
use Rattle.printer.specs.State.{PrinterState, Effect, CallEffect}
use Rattle.printer.specs.Network.{item_read}

abbrev pub view_printer : Printer → PrinterState
view_printer p = record { sides = p.sides; reader = view_reader p.reader; table = view_texts p.table; rcte = view_rcte p.rcte; values = p.values }

pub record CleanPrinter (p : Printer) : Type 0 where
  pub reader : CleanReader p.reader
  pub table : CleanTexts p.table
  pub rcte : CleanRcte p.rcte

-- the arrays have the lengths of their types
pub record WholePrinter (p : Printer) : Type 0 where
  pub body : length p.reader.body ≡ body_room
  pub cells : length p.table.cells ≡ text_room
  pub waiting : length p.rcte.waiting ≡ wait_room
  pub gathered : length p.rcte.gathered ≡ gather_room

-- a step of the code does what the rule says, and leaves nothing behind in cells that are no longer used
pub record RefinesStep (d : Effect) (p : Printer) (paper wire : Lent) (r : Step) : Type 0 where
  pub note : r.note ≡ d.note
  pub wrote : WroteBothAtStart d.paper d.wire paper wire r.paper r.wire
  pub view : view_printer r.state ≡ d.state
  pub clean : CleanPrinter p → CleanPrinter r.state

-- an answer of the code is the rule's: code, note, counts, every lent byte and the new state; a refusal returns the very
-- state that it was given
pub record RefinesOutcome (a : CallEffect) (p : Printer) (paper wire : Lent) (r : Answer) : Type 0 where
  pub code : r.code ≡ a.code
  pub note : r.note ≡ a.effect.note
  pub wrote : WroteBothAtStart a.effect.paper a.effect.wire paper wire r.paper r.wire
  pub view : view_printer r.state ≡ a.effect.state
  pub clean : CleanPrinter p → CleanPrinter r.state
  pub whole : WholePrinter p → WholePrinter r.state
  pub same : (a.code ≡ Done → ⊥) → r.state ≡ p

-- where nothing is written on the paper
pub record RefinesOutcomeOnWire (a : CallEffect) (p : Printer) (wire : Lent) (r : Answer) : Type 0 where
  pub met : (paper : List ℕ) → RefinesOutcome a p (untouched paper) wire r

-- what a call owes to its rule, which goes by the sizes of the two buffers
abbrev pub RefinesAnswer : (ℕ → ℕ → CallEffect) → Printer → Lent → Lent → Answer → Type 0
RefinesAnswer rule p paper wire r = RefinesOutcome (rule (length paper.before) (length wire.before)) p paper wire r

-- the code's answers: a refusal, with the state that was given and nothing written, and a step that was done
abbrev pub refusal : Printer → Code → Answer
refusal p c = record { code = c; note = Clear; paper = 0; wire = 0; state = p }

abbrev pub answered : Step → Answer
answered r = record { code = Done; note = r.note; paper = r.paper; wire = r.wire; state = r.state }

-- a step that writes so many bytes, on the wire alone
abbrev pub step_of : Note → (wire : ℕ) → Printer → Step
step_of n wire p = record { note = n; paper = 0; wire = wire; state = p }

-- what RCTE's control did, as a step of the code
abbrev pub rcte_stepped : Printer → RcteStep → Step
rcte_stepped p e = record { note = Clear; paper = e.paper; wire = e.wire; state = record p { rcte = e.rcte } }

-- a step that only changes the state
pub record RefinesState (d : Effect) (p r : Printer) : Type 0 where
  pub view : view_printer r ≡ d.state
  pub clean : CleanPrinter p → CleanPrinter r

-- one that writes nothing, that writes only on the wire, or only on the paper
pub record RefinesStepUnwritten (d : Effect) (p : Printer) (r : Step) : Type 0 where
  pub met : (paper wire : List ℕ) → RefinesStep d p (untouched paper) (untouched wire) r

pub record RefinesStepOnWire (d : Effect) (p : Printer) (wire : Lent) (r : Step) : Type 0 where
  pub met : (paper : List ℕ) → RefinesStep d p (untouched paper) wire r

pub record RefinesStepOnPaper (d : Effect) (p : Printer) (paper : Lent) (r : Step) : Type 0 where
  pub met : (wire : List ℕ) → RefinesStep d p paper (untouched wire) r

-- a byte that is data, with no macro to replace it and no RCTE to hold behind it
abbrev pub is_ordinary : Sides → Phase → ℕ → Bool
is_ordinary sides phase b = not (macros_in_force End.Printer sides || is_yes sides.rcte) && is_data phase b

-- the end of a body: the reader's body is handled, and the reader is empty
abbrev pub body_end_read : PrinterState → Effect
body_end_read s = item_read s BodyEnd

-- the printer end at first, as the code makes it
abbrev pub fresh_cells : Printer
fresh_cells = record { sides = all_no; reader = idle_cells; table = empty_cells; rcte = started_cells; values = all_unspoken }

-- what says how a byte is read
abbrev pub parts_of : Printer → Parts
parts_of p = record { sides = p.sides; phase = p.reader.phase; held = p.rcte.held }
