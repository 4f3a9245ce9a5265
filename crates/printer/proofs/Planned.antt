-- Every call but a key call is planned: only its acts touch the state of RCTE.
use mathlib.Core.Path.{◌≡◌, refl, sym, ap, ◌∙◌}
use mathlib.Core.Bool.{Bool, true, false, ◌&&◌, cond}
use mathlib.Core.List.{List, [], ◌∷◌, ◌++◌}
use Prim.Native.Nat.{ℕ}
use lib.ListN.{drop}
use Rattle.codes.specs.Answers.{no_room, first_note, Guard, refused_if, guarded}
use Rattle.codes.specs.Dispositions.{disposition_numbered, of_disposition}
use Rattle.codes.specs.Telnet.{DS, DR, whose_of, enables}
use Rattle.codes.specs.declared.Code.{Code}
use Rattle.codes.specs.declared.Code.TheVariants.{Done, NoRoom, NotCarried}
use Rattle.codes.specs.declared.Disposition.{Disposition}
use Rattle.std.specs.Prelude.{Option, Some, None, Result}
use Rattle.codes.specs.declared.Note.{Note}
use Rattle.codes.specs.declared.Note.TheVariants.{Clear, Unreadable, Stray}
use Rattle.codes.specs.declared.Verb.{Verb}
use Rattle.negotiation.specs.declared.End.{End}
use Rattle.negotiation.specs.declared.OptionState.{OptionState}
use Rattle.negotiation.specs.declared.OptionState.TheVariants.{No}
use Rattle.negotiation.specs.declared.Side.{Side}
use Rattle.negotiation.specs.declared.Side.TheVariants.{Echo, BulletinSga, Rcte, Macro, PrinterSga, Disposes, Uncarried}
use Rattle.negotiation.specs.declared.Sides.{Sides}
use Rattle.negotiation.specs.declared.Move.{Move}
use Rattle.negotiation.specs.declared.Turn.{Turn}
use Rattle.negotiation.specs.Table.{is_yes, is_yes_or_ending, heard}
use Rattle.negotiation.specs.Carried.{moved, may_enable, state_of, declined, reply_bytes, disposition_in_force, asked_by, asked_whose, asked_side, asked_enable}
use Rattle.reader.specs.declared.Item.{Item}
use Rattle.reader.specs.declared.Item.TheVariants.{Nothing, Data, Negotiated, BodyEnd, StrayCommand}
use Rattle.reader.specs.Reading.{ReaderState, idle, read, is_between}
use Rattle.bodies.specs.declared.RcteCommand.{RcteCommand}
use Rattle.bodies.specs.declared.MacroCommand.{MacroCommand}
use Rattle.bodies.specs.declared.MacroCommand.TheVariants.{Define, Literal}
use Rattle.bodies.specs.RcteBodies.{rcte_body}
use Rattle.bodies.specs.MacroBodies.{macro_body, define_rest}
use Rattle.bodies.specs.ValueBodies.{value_body}
use Rattle.received_macros.specs.Texts.{Entry, plain, text, no_macros, entry_of, judged, after_define, verdict_bytes}
use Rattle.disposition.specs.ByOption.{unspoken, with_ds, with_dr, values_of, with_values_of}
use Rattle.disposition.specs.Handled.{suggestion, suggest_guards}
use Rattle.rcte.specs.Control.{RcteState as RcteState, holding}
use Rattle.printer.specs.State.{PrinterState, with_sides, with_reader, with_table, with_rcte, with_values, rcte_in_force, echo_in_force, bm_in_force, Effect, printing, sending_first, followed, CallEffect, done, refused}
use Rattle.printer.specs.Network.{data_read, rcte_moved, side_moved, moved_with_reply, negotiation_read, rcte_read, macro_read, value_read, body_handled, body_read, item_read, byte_read, bytes_read, entry_read, network_read}
use Rattle.printer.specs.Calls.{network_call, ask_call, suggest_of, suggest_call}
use Rattle.printer.specs.Session.{called}
use Rattle.printer.specs.Session.Call.{network, ask, suggest}
use Rattle.negotiation.proofs.Outcomes.{heard_cases, asking_cases}
use Rattle.subnegotiation.specs.Checks.{Checked}
use Rattle.subnegotiation.proofs.Outcomes.{checked_cases}
use Rattle.printer.proofs.Acts.{acted, effect_of, Planned}
use Rattle.printer.proofs.Acts.Acts.{puts, holds, starts, ends, commands, both}

-- a step from the state s with the note n and bytes, which leaves t with RCTE as it was
moved_step : (s t : PrinterState) → rcte_in_force s ≡ rcte_in_force t → (n : Note) (paper wire : List ℕ)
    → Planned s.sides (λ e. record { note = n; paper = paper; wire = wire; taken = []; state = with_rcte t e })
unfolding acted
moved_step s t p n paper wire = record { note = n; others = t; acts = puts p paper wire; does = λ e. refl }

-- .. and with all sides as they were
plain_step : (s t : PrinterState) → s.sides ≡ t.sides → (n : Note) (paper wire : List ℕ)
    → Planned s.sides (λ e. record { note = n; paper = paper; wire = wire; taken = []; state = with_rcte t e })
plain_step s t p n paper wire = moved_step s t (ap (λ x. is_yes x.rcte) p) n paper wire

either : {x : Sides} (b : Bool) {d e : RcteState → Effect} → Planned x d → Planned x e → Planned x (λ s. cond b (d s) (e s))
either true p q = p
either false p q = q

data_read_lem : (s : PrinterState) (b : ℕ) → Planned s.sides (λ e. data_read (with_rcte s e) b)
unfolding data_read acted
data_read_lem s b = go (rcte_in_force s) refl
  where
    go : (on : Bool) → rcte_in_force s ≡ on → Planned s.sides (λ e. printing (b ∷ []) (cond on (with_rcte s (holding e)) (with_rcte s e)))
    go true p = record { note = Clear; others = s; acts = holds p p (b ∷ []); does = λ e. refl }
    go false p = plain_step s s refl Clear (b ∷ []) []

rcte_moved_lem : (s t : PrinterState) (reply : List ℕ) (on still : Bool) → rcte_in_force s ≡ on → rcte_in_force t ≡ still
    → Planned s.sides (λ e. sending_first reply (rcte_moved on still (with_rcte t e)))
unfolding acted
rcte_moved_lem s t reply true true p q = moved_step s t (p ∙ sym q) Clear [] (reply ++ [])
rcte_moved_lem s t reply true false p q = record { note = Clear; others = t; acts = ends p q reply (echo_in_force t); does = λ e. refl }
rcte_moved_lem s t reply false true p q = record { note = Clear; others = t; acts = starts p q (reply ++ []); does = λ e. refl }
rcte_moved_lem s t reply false false p q = moved_step s t (p ∙ sym q) Clear [] (reply ++ [])

side_moved_lem : (s : PrinterState) (side : Side) (q : OptionState) (reply : List ℕ)
    → Planned s.sides (λ e. moved_with_reply (with_rcte s e) side q reply)
unfolding side_moved
side_moved_lem s Rcte q reply = rcte_moved_lem s (with_sides s (moved s.sides Rcte q)) reply (rcte_in_force s) (is_yes q) refl refl
side_moved_lem s Macro q reply =
    moved_step s (with_table (with_sides s (moved s.sides Macro q)) (cond (is_yes_or_ending q) s.table no_macros)) refl Clear [] (reply ++ [])
side_moved_lem s (Disposes d) q reply =
    let values = cond (is_yes q) s.values (with_values_of s.values d unspoken) in
    moved_step s (with_values (with_sides s (moved s.sides (Disposes d) q)) values) refl Clear [] (reply ++ [])
side_moved_lem s Echo q reply = moved_step s (with_sides s (moved s.sides Echo q)) refl Clear [] (reply ++ [])
side_moved_lem s BulletinSga q reply = moved_step s (with_sides s (moved s.sides BulletinSga q)) refl Clear [] (reply ++ [])
side_moved_lem s PrinterSga q reply = moved_step s (with_sides s (moved s.sides PrinterSga q)) refl Clear [] (reply ++ [])
side_moved_lem s Uncarried q reply = plain_step s s refl Clear [] (reply ++ [])

negotiation_read_lem : (s : PrinterState) (v : Verb) (option : ℕ) → Planned s.sides (λ e. negotiation_read (with_rcte s e) v option)
unfolding negotiation_read
negotiation_read_lem s v option =
    heard_cases (λ (t : Turn). Planned s.sides (λ e. moved_with_reply (with_rcte s e) t.side t.next (reply_bytes t.whose t.reply option)))
    End.Printer s.sides v option
    (λ side. let h = heard (enables v) (may_enable s.sides side) (state_of s.sides side) in
    side_moved_lem s side h.next (reply_bytes (whose_of v) h.reply option))
    (side_moved_lem s Uncarried No (reply_bytes (whose_of v) (declined (enables v)) option))

rcte_read_lem : (s : PrinterState) (b : Option RcteCommand) → rcte_in_force s ≡ true → Planned s.sides (λ e. rcte_read (with_rcte s e) b)
unfolding acted
rcte_read_lem s None p = plain_step s s refl Unreadable [] []
rcte_read_lem s (Some c) p = record { note = Clear; others = s; acts = commands p p c; does = λ e. refl }

macro_read_lem : (s : PrinterState) (body : List ℕ) (b : Option MacroCommand) → Planned s.sides (λ e. macro_read (with_rcte s e) body b)
macro_read_lem s body None = plain_step s s refl Unreadable [] []
macro_read_lem s body (Some (Define x)) =
    let v = judged s.table x (define_rest body) in
    plain_step s (with_table s (after_define v s.table x (drop 1 (define_rest body)))) refl Clear [] (verdict_bytes v x)
macro_read_lem s body (Some (Literal x)) = data_read_lem s x

value_read_lem : (s : PrinterState) (d : Disposition) (b : Option ℕ) → Planned s.sides (λ e. value_read (with_rcte s e) d b)
value_read_lem s d None = plain_step s s refl Unreadable [] []
value_read_lem s d (Some v) =
    plain_step s (with_values s (with_values_of s.values d (with_ds (values_of s.values d) v))) refl Clear [] []

body_read_lem : (s : PrinterState) (marred : Bool) (body : List ℕ) → Planned s.sides (λ e. body_read (with_rcte s e) marred body)
unfolding body_read
body_read_lem s marred body =
    checked_cases (λ (c : Checked). Planned s.sides (λ e. body_handled (with_rcte s e) body c)) End.Printer s.sides
    (λ n. plain_step s s refl n [] [])
    (λ on. rcte_read_lem s (rcte_body body) on)
    (λ d on. value_read_lem s d (value_body d DS body))
    (λ on. macro_read_lem s body (macro_body body))
    marred body

-- the state s has the reader as the byte found it, r as it left it
item_read_lem : (s : PrinterState) (r : ReaderState) (i : Item) → Planned s.sides (λ e. item_read (with_reader (with_rcte s e) r) i)
item_read_lem s r Nothing = plain_step s (with_reader s r) refl Clear [] []
item_read_lem s r (Data b) = data_read_lem (with_reader s r) b
item_read_lem s r (Negotiated v option) = negotiation_read_lem (with_reader s r) v option
item_read_lem s r BodyEnd = body_read_lem (with_reader s idle) r.marred r.body
item_read_lem s r StrayCommand = plain_step s (with_reader s r) refl Stray [] []

byte_read_lem : (s : PrinterState) (b : ℕ) → Planned s.sides (λ e. byte_read (with_rcte s e) b)
unfolding byte_read
byte_read_lem s b = let r = read s.reader b in item_read_lem s r.reader r.item

-- one step after another
in_turn : {sides : Sides} {x : RcteState → Effect} (p : Planned sides x) (y : PrinterState → Effect)
    → Planned p.others.sides (λ e. y (with_rcte p.others e))
    → Planned sides (λ e. followed (x e) (y (x e).state))
unfolding acted
in_turn {sides} {x} p y q = record {
  note = first_note p.note q.note;
  others = q.others;
  acts = both p.acts q.acts;
  does = λ e.
      let x = acted p.acts e in
      ap (λ d. followed d (y d.state)) (p.does e) ∙ ap (λ d. followed (effect_of p.note p.others x) d) (q.does x.rcte);
}

bytes_read_lem : (s : PrinterState) (bs : List ℕ) → Planned s.sides (λ e. bytes_read (with_rcte s e) bs)
unfolding bytes_read acted
bytes_read_lem s [] = plain_step s s refl Clear [] []
bytes_read_lem s (b ∷ bs) =
    let p = byte_read_lem s b in
    in_turn p (λ t. bytes_read t bs) (bytes_read_lem p.others bs)

network_read_lem : (s : PrinterState) (b : ℕ) → Planned s.sides (λ e. network_read (with_rcte s e) b)
unfolding network_read
network_read_lem s b = either (bm_in_force s && is_between s.reader.phase) (entry (entry_of s.table b)) (byte_read_lem s b)
  where
    entry : (x : Entry) → Planned s.sides (λ e. entry_read (with_rcte s e) b x)
    entry plain = byte_read_lem s b
    entry (text t) = bytes_read_lem s t

-- an answer whose code, too, is known beforehand
pub record Answered (sides : Sides) (call : RcteState → CallEffect) : Type 0 where
  pub code : Code
  pub says : (e : RcteState) → (call e).code ≡ code
  pub step : Planned sides (λ e. (call e).effect)

does_step : {sides : Sides} {x : RcteState → Effect} → Planned sides x → Answered sides (λ e. done (x e))
does_step p = record { code = Done; says = λ e. refl; step = p }

refuses_step : (s : PrinterState) (c : Code) → Answered s.sides (λ e. refused (with_rcte s e) c)
refuses_step s c = record { code = c; says = λ e. refl; step = plain_step s s refl Clear [] [] }

guarded_step : (s : PrinterState) (gs : List Guard) {x : RcteState → CallEffect} → Answered s.sides x
    → Answered s.sides (λ e. guarded gs (refused (with_rcte s e)) (x e))
unfolding guarded
guarded_step s [] p = p
guarded_step s (g ∷ gs) {x} p = go g.holds (guarded_step s gs p)
  where
    go : (b : Bool) {y : RcteState → CallEffect} → Answered s.sides y → Answered s.sides (λ e. cond b (refused (with_rcte s e) g.code) (y e))
    go true q = refuses_step s g.code
    go false q = q

pub network_call_lem : (s : PrinterState) (b paper wire : ℕ) → Answered s.sides (λ e. called (with_rcte s e) (network b paper wire))
unfolding called network_call
network_call_lem s b paper wire = guarded_step s (refused_if (no_room paper wire) NoRoom ∷ []) (does_step (network_read_lem s b))

pub ask_call_lem : (s : PrinterState) (option way paper wire : ℕ) → Answered s.sides (λ e. called (with_rcte s e) (ask option way paper wire))
unfolding called ask_call
ask_call_lem s option way paper wire =
    let whose = asked_whose way in
    let side = asked_side End.Printer option way in
    let enable = asked_enable way in
    guarded_step s (refused_if (no_room paper wire) NoRoom ∷ [])
    (asking_cases
    (λ (a : Result Move Code). Answered s.sides (λ e. asked_by (refused (with_rcte s e)) (λ q r. done (moved_with_reply (with_rcte s e) side q (reply_bytes whose r option))) a))
    s.sides side enable
    (refuses_step s)
    (λ q r c m. does_step (side_moved_lem s side q (reply_bytes whose r option))))

suggest_found : (s : PrinterState) (v : ℕ) (found : Option Disposition)
    → Answered s.sides (λ e. of_disposition (refused (with_rcte s e) NotCarried) (suggest_of (with_rcte s e) v) found)
suggest_found s v None = refuses_step s NotCarried
suggest_found s v (Some d) =
    let values = values_of s.values d in
    guarded_step s (suggest_guards d (disposition_in_force s.sides d) values.dr v)
    (does_step (plain_step s (with_values s (with_values_of s.values d (with_dr values v))) refl Clear [] (suggestion d DR v)))

pub suggest_call_lem : (s : PrinterState) (option v paper wire : ℕ) → Answered s.sides (λ e. called (with_rcte s e) (suggest option v paper wire))
unfolding called suggest_call
suggest_call_lem s option v paper wire =
    guarded_step s (refused_if (no_room paper wire) NoRoom ∷ []) (suggest_found s v (disposition_numbered option))
