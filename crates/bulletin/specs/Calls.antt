-- The bulletin end's calls: each a total function of the state, its arguments and the sizes of the lent buffers.
use Rattle.std.specs.Prelude.{Bool, true, false, ◌&&◌, ◌||◌, not, cond, List, [], ◌∷◌, ◌++◌, ℕ, ◌/◌, ◌%◌, leb, eqb}
use Rattle.codes.specs.Answers.{no_room, no_wire, Guard, refused_if, guarded}
use Rattle.codes.specs.Telnet.{RCTE, DS, IAC}
use Rattle.codes.specs.Dispositions.{disposition_numbered, of_disposition, for_each}
use Rattle.codes.specs.declared.Disposition.{Disposition}
use Rattle.codes.specs.declared.Code.TheVariants.{NoRoom, BadCommand, NotCarried, NotInForce, BadMacroByte, TooLong, Unanswered, BadValue, OutputWaits}
use Rattle.codes.specs.declared.Whose.{Whose}
use Rattle.keys.specs.declared.Key.{Key}
use Rattle.keys.specs.declared.Key.TheVariants.{Char, Line, Command}
use Rattle.keys.specs.Keys.{bad_command}
use Rattle.wire.specs.Frames.{frame, command}
use Rattle.negotiation.specs.declared.End.{End}
use Rattle.negotiation.specs.declared.Side.{Side}
use Rattle.negotiation.specs.Carried.{reply_bytes, disposition_in_force, asked_side, asked_whose, asked_enable, asking_of, asked_by}
use Rattle.bodies.specs.RcteBodies.{sets_breaks, sets_sends}
use Rattle.sent_macros.specs.Sending.{Definitions, sent_of, is_pending, is_too_long, define_bytes, all_data_bytes, accepted_text, status_of}
use Rattle.issues.specs.Issues.{with_present, kept_of, macro_guards}
use Rattle.disposition.specs.ByOption.{Waits, Handlings, with_ds, values_of, wait_of, is_waiting, handling_of}
use Rattle.disposition.specs.Handled.{suggestion, suggest_guards, Report, reports_of}
use Rattle.disposition.specs.ItemData.{item_data, takes_part, awaits}
use Rattle.bulletin.specs.declared.Output.{Output}
use Rattle.bulletin.specs.declared.Output.TheVariants.{Ready, Waiting}
use Rattle.bulletin.specs.declared.Standing.{Standing}
use Rattle.bulletin.specs.State.{BulletinState, with_definition, with_values, with_waits, with_issues, rcte_in_force, bm_in_force, handlings_now, definitions_now, Effect, sends, nothing, CallEffect, done, refused}
use Rattle.bulletin.specs.Network.{network_read, side_moved}

unfoldable pub network_call : BulletinState → ℕ → ℕ → ℕ → CallEffect
network_call s b host wire = guarded (refused_if (no_room host wire) NoRoom ∷ []) (refused s) (done (network_read s b))

abbrev pub ask_of : BulletinState → ℕ → Whose → Side → Bool → CallEffect
ask_of s option whose side enable =
    asked_by (refused s) (λ q reply. done (side_moved s side q (reply_bytes whose reply option))) (asking_of s.sides side enable)

unfoldable pub ask_call : BulletinState → ℕ → ℕ → ℕ → CallEffect
ask_call s option way wire =
    guarded (refused_if (no_wire wire) NoRoom ∷ []) (refused s)
    (ask_of s option (asked_whose way) (asked_side End.Bulletin option way) (asked_enable way))

-- DS, suggested by the bulletin end; the value that counts is its own
abbrev pub suggest_of : BulletinState → ℕ → Disposition → CallEffect
suggest_of s v d =
    let values = values_of s.values d in
    guarded (suggest_guards d (disposition_in_force s.sides d) values.ds v) (refused s)
    (done (sends (suggestion d DS v) (with_values s d (with_ds values v))))

unfoldable pub suggest_call : BulletinState → ℕ → ℕ → ℕ → CallEffect
suggest_call s option v wire =
    guarded (refused_if (no_wire wire) NoRoom ∷ []) (refused s)
    (of_disposition (refused s NotCarried) (suggest_of s v) (disposition_numbered option))

-- an order's cmd is 0, or odd and at most 31
abbrev pub bad_order : ℕ → Bool
bad_order cmd = not (eqb cmd 0 || (eqb (cmd % 2) 1 && leb cmd 31))

-- a class pair's two bytes, if its bit is on
abbrev pub pair_bytes : Bool → ℕ → List ℕ
pair_bytes true pair = pair / 256 % 256 ∷ pair % 256 ∷ []
pair_bytes false pair = []

abbrev pub order_pairs : ℕ → ℕ → ℕ → List ℕ
order_pairs cmd breaks sends = pair_bytes (sets_breaks cmd) breaks ++ pair_bytes (sets_sends cmd) sends

abbrev pub order_body : ℕ → ℕ → ℕ → List ℕ
order_body cmd breaks sends = RCTE ∷ cmd ∷ order_pairs cmd breaks sends

unfoldable pub order_bytes : ℕ → ℕ → ℕ → List ℕ
order_bytes cmd breaks sends = frame (order_body cmd breaks sends)

abbrev pub order_guards : BulletinState → ℕ → ℕ → List Guard
order_guards s cmd wire = refused_if (no_wire wire) NoRoom ∷ refused_if (not (rcte_in_force s)) NotInForce ∷ refused_if (bad_order cmd) BadValue ∷ []

unfoldable pub order_call : BulletinState → ℕ → ℕ → ℕ → ℕ → CallEffect
order_call s cmd bc tc wire = guarded (order_guards s cmd wire) (refused s) (done (sends (order_bytes cmd bc tc) s))

abbrev pub define_guards_before_size : BulletinState → ℕ → ℕ → List Guard
define_guards_before_size s x wire =
    refused_if (no_wire wire) NoRoom
    ∷ refused_if (not (bm_in_force s)) NotInForce
    ∷ refused_if (eqb x IAC) BadMacroByte
    ∷ refused_if (is_pending (sent_of s.table x)) Unanswered
    ∷ []

abbrev pub define_guards : BulletinState → ℕ → List ℕ → ℕ → List Guard
define_guards s x t wire = define_guards_before_size s x wire ++ refused_if (is_too_long s.table x t) TooLong ∷ []

unfoldable pub define_call : BulletinState → ℕ → List ℕ → ℕ → CallEffect
define_call s x t wire =
    guarded (define_guards s x t wire) (refused s)
    (done (sends (define_bytes x t) (with_definition s x t)))

abbrev pub use_guards : BulletinState → ℕ → ℕ → List Guard
use_guards s x wire =
    refused_if (no_wire wire) NoRoom
    ∷ refused_if (not (bm_in_force s)) NotInForce
    ∷ refused_if (is_waiting s.waits) OutputWaits
    ∷ macro_guards s.table s.issues x

-- use of a macro: its byte goes out bare
unfoldable pub use_call : BulletinState → ℕ → ℕ → CallEffect
use_call s x wire = guarded (use_guards s x wire) (refused s) (done (sends (x ∷ []) s))

-- the bytes of an item: its data, byte by byte; a Command as it is
abbrev pub item_bytes : Definitions → Handlings → Key → List ℕ
item_bytes t h (Char b) = all_data_bytes t (item_data h (Char b))
item_bytes t h Line = all_data_bytes t (item_data h Line)
item_bytes t h (Command c) = command c

-- each option that takes part in the item, its outcome being the sender's 254, waits behind it
abbrev pub wait_after : Waits → Handlings → Key → Disposition → Bool
wait_after w h k d = wait_of w d || (takes_part k d && awaits (handling_of h d))

abbrev pub waits_after : BulletinState → Key → Waits
waits_after s k = for_each (wait_after s.waits (handlings_now s) k)

unfoldable pub item_sent : BulletinState → Key → Effect
item_sent s k = sends (item_bytes (definitions_now s) (handlings_now s) k) (with_waits s (waits_after s k))

abbrev pub text_guards : BulletinState → Key → ℕ → List Guard
text_guards s k wire = refused_if (no_wire wire) NoRoom ∷ refused_if (bad_command k) BadCommand ∷ refused_if (is_waiting s.waits) OutputWaits ∷ []

unfoldable pub text_call : BulletinState → Key → ℕ → CallEffect
text_call s k wire = guarded (text_guards s k wire) (refused s) (done (item_sent s k))

-- the data that a text item and a use of a macro stand for
unfoldable pub text_data : BulletinState → Key → List ℕ
text_data s k = item_data (handlings_now s) k

unfoldable pub use_data : BulletinState → ℕ → List ℕ
use_data s x = accepted_text (sent_of s.table x)

-- another issue is in force; it writes nothing, and asks for a wire buffer all the same
unfoldable pub issue_call : BulletinState → ℕ → ℕ → CallEffect
issue_call s n wire = guarded (refused_if (no_wire wire) NoRoom ∷ []) (refused s) (done (nothing (with_issues s (with_present s.issues n))))

-- what a host may ask before it sends: how a macro byte stands, of each option about output disposition who handles its character
-- and how, whether output waits
abbrev pub macro_standing : BulletinState → ℕ → Standing
macro_standing s x = record {
  status = status_of (sent_of (definitions_now s) x);
  kept = cond (bm_in_force s) (kept_of s.issues x) 0;
  present = s.issues.present;
}

abbrev pub dispositions_report : BulletinState → List Report
dispositions_report s = reports_of (handlings_now s)

abbrev pub output_now : BulletinState → Output
output_now s = cond (is_waiting s.waits) Waiting Ready
