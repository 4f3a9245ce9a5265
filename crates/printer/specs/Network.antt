-- A network byte at the printer end.
use Rattle.std.specs.Prelude.{Bool, true, false, ◌&&◌, cond, List, [], ◌∷◌, ℕ, drop, Option, Some, None, Ok, Err}
use Rattle.codes.specs.Telnet.{DS}
use Rattle.codes.specs.declared.Disposition.{Disposition}
use Rattle.codes.specs.declared.Note.TheVariants.{Unreadable, Stray}
use Rattle.codes.specs.declared.Verb.{Verb}
use Rattle.negotiation.specs.declared.End.{End}
use Rattle.negotiation.specs.declared.OptionState.{OptionState}
use Rattle.negotiation.specs.declared.Side.{Side}
use Rattle.negotiation.specs.declared.Side.TheVariants.{Echo, BulletinSga, Rcte, Macro, PrinterSga, Disposes, Uncarried}
use Rattle.negotiation.specs.Table.{is_yes, is_yes_or_ending}
use Rattle.negotiation.specs.Carried.{moved, reply_bytes, heard_by}
use Rattle.reader.specs.declared.Item.{Item}
use Rattle.reader.specs.Reading.{idle, read, item_by, byte_by, is_between}
use Rattle.bodies.specs.declared.RcteCommand.{RcteCommand}
use Rattle.bodies.specs.declared.MacroCommand.{MacroCommand}
use Rattle.bodies.specs.declared.MacroCommand.TheVariants.{Define, Literal}
use Rattle.bodies.specs.RcteBodies.{rcte_body}
use Rattle.bodies.specs.MacroBodies.{macro_body, define_rest}
use Rattle.bodies.specs.ValueBodies.{value_body}
use Rattle.received_macros.specs.Texts.{Verdict, Entry, plain, text, no_macros, entry_of, judged, after_define, verdict_bytes}
use Rattle.rcte.specs.Control.{started, holding, commanded, rcte_ended}
use Rattle.disposition.specs.ByOption.{unspoken, with_ds, values_of, with_values_of}
use Rattle.subnegotiation.specs.declared.Subject.{Subject}
use Rattle.subnegotiation.specs.Checks.{Checked, checked}
use Rattle.printer.specs.State.{PrinterState, with_sides, with_reader, with_table, with_rcte, with_values, rcte_in_force, echo_in_force, bm_in_force, Effect, sends, nothing, notes, printing, of_rcte, sending_first, followed}

-- data is printed as it is; under RCTE it then holds
abbrev pub after_data : PrinterState → PrinterState
after_data s = cond (rcte_in_force s) (with_rcte s (holding s.rcte)) s

unfoldable pub data_read : PrinterState → ℕ → Effect
data_read s b = printing (b ∷ []) (after_data s)

-- the state of RCTE's side changed: it ends as it leaves YES, and starts anew as it reaches YES
abbrev pub rcte_moved : Bool → Bool → PrinterState → Effect
rcte_moved true true s = nothing s
rcte_moved true false s = of_rcte (rcte_ended (echo_in_force s) s.rcte) s
rcte_moved false true s = nothing (with_rcte s started)
rcte_moved false false s = nothing s

-- a side's state changed, with what follows from it
unfoldable pub side_moved : PrinterState → Side → OptionState → Effect
side_moved s Rcte q = rcte_moved (rcte_in_force s) (is_yes q) (with_sides s (moved s.sides Rcte q))
side_moved s Macro q = nothing (with_table (with_sides s (moved s.sides Macro q)) (cond (is_yes_or_ending q) s.table no_macros))
side_moved s (Disposes d) q =
    nothing (with_values (with_sides s (moved s.sides (Disposes d) q)) (cond (is_yes q) s.values (with_values_of s.values d unspoken)))
side_moved s Echo q = nothing (with_sides s (moved s.sides Echo q))
side_moved s BulletinSga q = nothing (with_sides s (moved s.sides BulletinSga q))
side_moved s PrinterSga q = nothing (with_sides s (moved s.sides PrinterSga q))
side_moved s Uncarried q = nothing s

-- the bytes of the negotiation go before what it brings about
abbrev pub moved_with_reply : PrinterState → Side → OptionState → List ℕ → Effect
moved_with_reply s side q reply = sending_first reply (side_moved s side q)

unfoldable pub negotiation_read : PrinterState → Verb → ℕ → Effect
negotiation_read s v option =
    let t = heard_by End.Printer s.sides v option in
    moved_with_reply s t.side t.next (reply_bytes t.whose t.reply option)

-- the bodies; each of these is reached with the option in force
abbrev pub rcte_read : PrinterState → Option RcteCommand → Effect
rcte_read s None = notes Unreadable s
rcte_read s (Some c) = of_rcte (commanded s.rcte c) s

abbrev pub define_read : PrinterState → ℕ → List ℕ → Verdict → Effect
define_read s x rest v = sends (verdict_bytes v x) (with_table s (after_define v s.table x (drop 1 rest)))

abbrev pub define_judged : PrinterState → ℕ → List ℕ → Effect
define_judged s x rest = define_read s x rest (judged s.table x rest)

abbrev pub macro_read : PrinterState → List ℕ → Option MacroCommand → Effect
macro_read s body None = notes Unreadable s
macro_read s body (Some (Define x)) = define_judged s x (define_rest body)
macro_read s body (Some (Literal x)) = data_read s x

abbrev pub value_read : PrinterState → Disposition → Option ℕ → Effect
value_read s d None = notes Unreadable s
value_read s d (Some v) = nothing (with_values s (with_values_of s.values d (with_ds (values_of s.values d) v)))

-- a body by its option, or the note that ends its handling
abbrev pub body_handled : PrinterState → List ℕ → Checked → Effect
body_handled s body (Err n) = notes n s
body_handled s body (Ok Subject.Rcte) = rcte_read s (rcte_body body)
body_handled s body (Ok (Subject.Disposes d)) = value_read s d (value_body d DS body)
body_handled s body (Ok Subject.Macro) = macro_read s body (macro_body body)

unfoldable pub body_read : PrinterState → Bool → List ℕ → Effect
body_read s marred body = body_handled s body (checked End.Printer s.sides marred body)

-- an item handled, in the state that has the reader as the byte left it; a body leaves the reader empty
abbrev pub item_read : PrinterState → Item → Effect
item_read s i =
    item_by (nothing s) (data_read s) (negotiation_read s) (body_read (with_reader s idle) s.reader.marred s.reader.body) (notes Stray s) i

-- a byte read as it stands
unfoldable pub byte_read : PrinterState → ℕ → Effect
byte_read s b = byte_by with_reader item_read s (read s.reader b)

-- the bytes of a macro's text, read like bytes that arrived, but none replaced
unfoldable pub bytes_read : PrinterState → List ℕ → Effect
bytes_read s [] = nothing s
bytes_read s (b ∷ bs) = let d = byte_read s b in followed d (bytes_read d.state bs)

abbrev pub entry_read : PrinterState → ℕ → Entry → Effect
entry_read s b plain = byte_read s b
entry_read s b (text t) = bytes_read s t

-- a defined byte stands for its text if BM is in force and no command is being read
unfoldable pub network_read : PrinterState → ℕ → Effect
network_read s b = cond (bm_in_force s && is_between s.reader.phase) (entry_read s b (entry_of s.table b)) (byte_read s b)
