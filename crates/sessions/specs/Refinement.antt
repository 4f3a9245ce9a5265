-- The answer of a call on a lent record: its outcome, with the state that stands in the record behind it.
use Rattle.std.specs.Prelude.{ℕ}
use denote.Ref.{MutBor}
use denote.Triple.Both.{Both}
use Rattle.lists.specs.Buffers.{Lent}
use Rattle.printer.specs.State as rules-printer
use Rattle.printer.specs.Refinement as printer_kept
use Rattle.printer.specs.Refinement.{view_printer}
use Rattle.printer.specs.declared.Printer.{Printer}
use Rattle.printer.specs.declared.Answer as printer-answer
use Rattle.bulletin.specs.State as rules-bulletin
use Rattle.bulletin.specs.Refinement as bulletin_kept
use Rattle.bulletin.specs.Refinement.{view_bulletin}
use Rattle.bulletin.specs.declared.Bulletin.{Bulletin}
use Rattle.bulletin.specs.declared.Answer as bulletin-answer
use Rattle.sessions.specs.declared.PrinterOutcome.{PrinterOutcome}
use Rattle.sessions.specs.declared.BulletinOutcome.{BulletinOutcome}

abbrev pub printer_answer : PrinterOutcome → Printer → printer-answer.Answer
printer_answer r s = record { code = r.code; note = r.note; paper = r.paper; wire = r.wire; state = s }

abbrev pub bulletin_answer : BulletinOutcome → Bulletin → bulletin-answer.Answer
bulletin_answer r s = record { code = r.code; note = r.note; host = r.host; wire = r.wire; state = s }

-- what a call on a lent record owes to its rule: what the call by value owes, of the state that the record held as the call
-- began and with the one that it holds as it ends
abbrev pub RefinesOnPrinter : (rules-printer.PrinterState → ℕ → ℕ → rules-printer.CallEffect) → Both (MutBor Printer) (MutBor Printer) → Lent → Lent → PrinterOutcome → Type 0
RefinesOnPrinter rule s paper wire r =
    printer_kept.RefinesAnswer (rule (view_printer s.entry.now)) s.entry.now paper wire (printer_answer r s.exit.now)

abbrev pub RefinesOnBulletin : (rules-bulletin.BulletinState → ℕ → ℕ → rules-bulletin.CallEffect) → Both (MutBor Bulletin) (MutBor Bulletin) → Lent → Lent → BulletinOutcome → Type 0
RefinesOnBulletin rule s host wire r =
    bulletin_kept.RefinesAnswer (rule (view_bulletin s.entry.now)) s.entry.now host wire (bulletin_answer r s.exit.now)

-- .. where no buffer for data is lent
abbrev pub RefinesOnBulletinWire : (rules-bulletin.BulletinState → ℕ → rules-bulletin.CallEffect) → Both (MutBor Bulletin) (MutBor Bulletin) → Lent → BulletinOutcome → Type 0
RefinesOnBulletinWire rule s wire r =
    bulletin_kept.RefinesAnswerOnWire (rule (view_bulletin s.entry.now)) s.entry.now wire (bulletin_answer r s.exit.now)
