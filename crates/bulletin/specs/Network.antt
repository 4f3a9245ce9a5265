-- A network byte at the bulletin end.
use Rattle.std.specs.Prelude.{Bool, cond, List, [], ◌∷◌, ℕ, set, Option, Some, None, Ok, Err}
use Rattle.codes.specs.Telnet.{DR}
use Rattle.codes.specs.declared.Disposition.{Disposition}
use Rattle.codes.specs.declared.Note.TheVariants.{Clear, Unreadable, OtherOption, Stray}
use Rattle.codes.specs.declared.Verb.{Verb}
use Rattle.negotiation.specs.declared.End.{End}
use Rattle.negotiation.specs.declared.OptionState.{OptionState}
use Rattle.negotiation.specs.declared.Side.{Side}
use Rattle.negotiation.specs.declared.Side.TheVariants.{Echo, BulletinSga, Rcte, Macro, PrinterSga, Disposes, Uncarried}
use Rattle.negotiation.specs.Table.{is_yes}
use Rattle.negotiation.specs.Carried.{moved, reply_bytes, heard_by}
use Rattle.reader.specs.declared.Item.{Item}
use Rattle.reader.specs.Reading.{idle, read, item_by, byte_by}
use Rattle.bodies.specs.declared.MacroReply.{MacroReply}
use Rattle.bodies.specs.declared.MacroReply.TheVariants.{Accept, Refuse, PleaseCancel}
use Rattle.bodies.specs.MacroBodies.{reply_body}
use Rattle.bodies.specs.ValueBodies.{value_body}
use Rattle.sent_macros.specs.Sending.{Definitions, no_definitions, sent_of, on_accept, on_refuse, cancel_bytes, cancelled}
use Rattle.issues.specs.Issues.{forgetting, kept_after}
use Rattle.disposition.specs.ByOption.{unspoken, with_dr, values_of, no_waits}
use Rattle.subnegotiation.specs.Checks.{Checked, checked}
use Rattle.subnegotiation.specs.declared.Subject.{Subject}
use Rattle.bulletin.specs.State.{BulletinState, with_sides, with_reader, with_macros, with_values, with_waits, Effect, sends, nothing, notes}

-- data goes to the host, and ends every wait
unfoldable pub data_read : BulletinState → ℕ → Effect
data_read s b = record { note = Clear; host = b ∷ []; wire = []; state = with_waits s no_waits }

-- a side's state changed: leaving YES empties BM's table with the issues that were kept, and forgets the two values of an option about
-- output disposition
abbrev pub side_state : BulletinState → Side → OptionState → BulletinState
side_state s Macro q =
    with_macros (with_sides s (moved s.sides Macro q)) (cond (is_yes q) s.table no_definitions) (cond (is_yes q) s.issues (forgetting s.issues))
side_state s (Disposes d) q = with_values (with_sides s (moved s.sides (Disposes d) q)) d (cond (is_yes q) (values_of s.values d) unspoken)
side_state s Rcte q = with_sides s (moved s.sides Rcte q)
side_state s Echo q = with_sides s (moved s.sides Echo q)
side_state s BulletinSga q = with_sides s (moved s.sides BulletinSga q)
side_state s PrinterSga q = with_sides s (moved s.sides PrinterSga q)
side_state s Uncarried q = s

unfoldable pub side_moved : BulletinState → Side → OptionState → List ℕ → Effect
side_moved s side q reply = sends reply (side_state s side q)

unfoldable pub negotiation_read : BulletinState → Verb → ℕ → Effect
negotiation_read s v option =
    let t = heard_by End.Bulletin s.sides v option in
    side_moved s t.side t.next (reply_bytes t.whose t.reply option)

-- what the printer end says of a macro: the table behind it, and the bytes that answer it
abbrev pub table_after : Definitions → MacroReply → Definitions
table_after t (Accept x) = set t x (on_accept (sent_of t x))
table_after t (Refuse x) = set t x (on_refuse (sent_of t x))
table_after t (PleaseCancel x) = cancelled t x

abbrev pub bytes_after : Definitions → MacroReply → List ℕ
bytes_after t (Accept x) = []
bytes_after t (Refuse x) = []
bytes_after t (PleaseCancel x) = cancel_bytes t x

-- an answer to PLEASE CANCEL is sent whether output waits or not
abbrev pub macro_replied : BulletinState → MacroReply → Effect
macro_replied s r = sends (bytes_after s.table r) (with_macros s (table_after s.table r) (kept_after s.table s.issues r))

abbrev pub reply_read : BulletinState → Option MacroReply → Effect
reply_read s None = notes Unreadable s
reply_read s (Some r) = macro_replied s r

abbrev pub value_read : BulletinState → Disposition → Option ℕ → Effect
value_read s d None = notes Unreadable s
value_read s d (Some v) = nothing (with_values s d (with_dr (values_of s.values d) v))

-- a body by its option, or the note that ends its handling; one of RCTE is never given to this end
abbrev pub body_handled : BulletinState → List ℕ → Checked → Effect
body_handled s body (Err n) = notes n s
body_handled s body (Ok Subject.Rcte) = notes OtherOption s
body_handled s body (Ok (Subject.Disposes d)) = value_read s d (value_body d DR body)
body_handled s body (Ok Subject.Macro) = reply_read s (reply_body body)

unfoldable pub body_read : BulletinState → Bool → List ℕ → Effect
body_read s marred body = body_handled s body (checked End.Bulletin s.sides marred body)

-- an item handled, in the state that has the reader as the byte left it; a body leaves the reader empty
abbrev pub item_read : BulletinState → Item → Effect
item_read s i =
    item_by (nothing s) (data_read s) (negotiation_read s) (body_read (with_reader s idle) s.reader.marred s.reader.body) (notes Stray s) i

unfoldable pub network_read : BulletinState → ℕ → Effect
network_read s b = byte_by with_reader item_read s (read s.reader b)
