-- The checks on a body before its shape, in their order: marred or empty, another option, not in force.
use Rattle.std.specs.Prelude.{Bool, true, false, ◌&&◌, cond, List, ℕ, eqb, Result, Ok, Err}
use Rattle.codes.specs.Telnet.{RCTE, BM}
use Rattle.codes.specs.Dispositions.{disposition_numbered, of_disposition}
use Rattle.codes.specs.declared.Note.{Note}
use Rattle.codes.specs.declared.Note.TheVariants.{Unreadable, Inactive, OtherOption}
use Rattle.negotiation.specs.declared.End.{End}
use Rattle.negotiation.specs.declared.End.TheVariants.{Printer, Bulletin}
use Rattle.negotiation.specs.declared.Sides.{Sides}
use Rattle.negotiation.specs.Table.{is_yes}
use Rattle.negotiation.specs.Carried.{macros_in_force, disposition_in_force}
use Rattle.reader.specs.Reading.{by_option}
use Rattle.subnegotiation.specs.declared.Subject.{Subject}
use Rattle.subnegotiation.specs.declared.Subject.TheVariants.{Rcte, Disposes, Macro}

-- what a body is about, or the note that ends its handling
abbrev pub Checked : Type 0
Checked = Result Subject Note

-- RCTE's bodies are commands to the printer end; the bulletin end reads none
abbrev pub reads_rcte : End → Bool
reads_rcte Printer = true
reads_rcte Bulletin = false

abbrev pub in_force : Bool → Subject → Checked
in_force on subject = cond on (Ok subject) (Err Inactive)

-- one of the options about output disposition, or none that has bodies here
abbrev pub disposition_checked : Sides → ℕ → Checked
disposition_checked s option = of_disposition (Err OtherOption) (λ d. in_force (disposition_in_force s d) (Disposes d)) (disposition_numbered option)

-- of a body neither marred nor empty: first its option, then whether that is in force
unfoldable pub option_checked : End → Sides → ℕ → Checked
option_checked end s option =
    cond (eqb option RCTE && reads_rcte end) (in_force (is_yes s.rcte) Rcte)
    (cond (eqb option BM) (in_force (macros_in_force end s) Macro)
    (disposition_checked s option))

unfoldable pub checked : End → Sides → Bool → List ℕ → Checked
checked end s marred body = by_option marred body (Err Unreadable) (option_checked end s)
