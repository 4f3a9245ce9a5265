-- When a command is dropped: what the checks of a printer end say of it while no option is off.
use Rattle.std.specs.Prelude.{Bool, List, ℕ, Option, Some, None, Result, Ok, Err}
use Rattle.codes.specs.Telnet.{DS}
use Rattle.codes.specs.declared.Note.{Note}
use Rattle.codes.specs.declared.Note.TheVariants.{Clear, Inactive, OtherOption}
use Rattle.negotiation.specs.declared.End.{End}
use Rattle.negotiation.specs.declared.OptionState.TheVariants.{Yes}
use Rattle.negotiation.specs.declared.Sides.{Sides}
use Rattle.reader.specs.declared.Item.{Item}
use Rattle.reader.specs.declared.Item.TheVariants.{Nothing, Data, Negotiated, BodyEnd, StrayCommand}
use Rattle.reader.specs.Reading.{ReaderState, ReadEffect}
use Rattle.bodies.specs.RcteBodies.{rcte_body}
use Rattle.bodies.specs.MacroBodies.{macro_body}
use Rattle.bodies.specs.ValueBodies.{value_body}
use Rattle.subnegotiation.specs.Checks.{Checked, checked}
use Rattle.subnegotiation.specs.declared.Subject.{Subject}
use Rattle.mending.specs.declared.Reason.{Reason}
use Rattle.mending.specs.declared.Reason.TheVariants.{Unreadable, Stray}

-- a piece is copied, or dropped for a reason
abbrev pub Judged : Type 0
Judged = Result (Unit {0}) Reason

abbrev pub all_in_force : Sides
all_in_force = record {
  echo = Yes;
  sga = Yes;
  rcte = Yes;
  bm = Yes;
  printersga = Yes;
  dispositions = record { naocrd = Yes; naolfd = Yes; naoffd = Yes; naohtd = Yes };
}

-- by the note that ends a body's handling: 1 is dropped, 3 copied; 2 would be, but no option is off
abbrev pub note_judged : Note → Judged
note_judged Note.Unreadable = Err Unreadable
note_judged Note.Stray = Err Stray
note_judged Inactive = Ok tt
note_judged OtherOption = Ok tt
note_judged Clear = Ok tt

-- by its shape
abbrev pub readable : {A : Type 0} → Option A → Judged
readable None = Err Unreadable
readable (Some x) = Ok tt

abbrev pub shape_judged : List ℕ → Checked → Judged
shape_judged body (Err n) = note_judged n
shape_judged body (Ok Subject.Rcte) = readable (rcte_body body)
shape_judged body (Ok (Subject.Disposes d)) = readable (value_body d DS body)
shape_judged body (Ok Subject.Macro) = readable (macro_body body)

unfoldable pub body_judged : Bool → List ℕ → Judged
body_judged marred body = shape_judged body (checked End.Printer all_in_force marred body)

-- what a byte completes, with the reader behind it
abbrev pub item_judged : ReaderState → Item → Judged
item_judged r Nothing = Ok tt
item_judged r (Data b) = Ok tt
item_judged r (Negotiated v option) = Ok tt
item_judged r BodyEnd = body_judged r.marred r.body
item_judged r StrayCommand = Err Stray

abbrev pub judged : ReadEffect → Judged
judged x = item_judged x.reader x.item
