-- A run as the code keeps it, and how its steps meet the rules.
use Rattle.std.specs.Prelude.{◌≡◌, List, ℕ, ◌-◌, length}
use Rattle.lists.specs.Buffers.{Lent, WroteAtStart, WroteBothAtStart}
use Rattle.printer.specs.State as rule
use Rattle.printer.specs.declared.Printer.{Printer}
use Rattle.printer.specs.Refinement.{view_printer, CleanPrinter, fresh_cells}
use Rattle.tape.specs.declared.Machine.{Machine}
use Rattle.tape.specs.declared.Shown.{Shown}
use Rattle.tape.specs.declared.Stepped.{Stepped}
use Rattle.tape.specs.Running.{lent_paper, lent_wire}
use Rattle.tape.specs.Refinement.Steps.{At, Progress, start}

abbrev pub view_machine : Machine → At
view_machine m = record {
  run = record { printer = view_printer m.printer; tails = record { paper = lent_paper - m.paper; wire = lent_wire - m.wire } };
  place = m.place;
}

-- an item: its line, its bytes in the two lent buffers, and the state
pub record RefinesShown (a : rule.CallEffect) (bytes : List ℕ) (p : Printer) (paper wire out : Lent) (r : Shown) : Type 0 where
  pub line : WroteAtStart bytes out r.written
  pub wrote : WroteBothAtStart a.effect.paper a.effect.wire paper wire r.paper r.wire
  pub view : view_printer r.state ≡ a.effect.state
  pub clean : CleanPrinter p → CleanPrinter r.state

-- its call goes by the sizes of those buffers, and its line by the answer
abbrev pub RefinesItem : (ℕ → ℕ → rule.CallEffect) → (rule.CallEffect → List ℕ) → Printer → Lent → Lent → Lent → Shown → Type 0
RefinesItem call line p paper wire out r =
    let a = call (length paper.before) (length wire.before) in
    RefinesShown a (line a) p paper wire out r

-- a step, or many: what is printed, and the run after it
pub record RefinesProgress (g : Progress) (m : Machine) (out : Lent) (r : Stepped) : Type 0 where
  pub lines : WroteAtStart g.lines out r.written
  pub view : view_machine r.machine ≡ g.at
  pub clean : CleanPrinter m.printer → CleanPrinter r.machine.printer

-- a run goes by the room that its output has
abbrev pub RefinesRun : (ℕ → Progress) → Machine → Lent → Stepped → Type 0
RefinesRun rule m out r = RefinesProgress (rule (length out.before)) m out r

-- a run in front of its tape, as the code makes it
abbrev pub start_cells : Machine
start_cells = record { printer = fresh_cells; paper = 0; wire = 0; place = start.place }
