-- A network byte: what it writes is bounded by gathered bytes, waiting keys and the bytes read, and the sizes are kept.
use Rattle.std.specs.Prelude.{Option, Some, None, Ok, Err}
use mathlib.Core.Path.{◌≡◌, refl}
use mathlib.Core.Bool.{Bool, true, false, not, cond}
use mathlib.Core.List.{List, [], ◌∷◌, flat_map}
use Prim.Native.Nat.{ℕ, suc, ◌+◌, ◌*◌, ◌≤◌, ◌<◌}
use native.Mathlib.Omega.{arith}
use borrow.Author.Tests.{eqb-true, not-false}
use lib.Dec.{ltb, eqb, lit≤, lit<}
use lib.ListN.{length, drop, length-append}
use lib.Seq.{get_or-drop}
use Rattle.lists.proofs.Lengths.{chosen, either, every_set, every_replicate}
use Rattle.codes.specs.Telnet.{BM, ACCEPT, REFUSE, DS}
use Rattle.codes.specs.declared.Disposition.{Disposition}
use Rattle.codes.specs.declared.Note.{Note}
use Rattle.codes.specs.declared.Note.TheVariants.{Unreadable, Stray}
use Rattle.codes.specs.declared.Verb.{Verb}
use Rattle.negotiation.proofs.Replies.{reply_long}
use Rattle.wire.proofs.Coded.{coded_long, coded_one}
use Rattle.wire.specs.Frames.{frame}
use Rattle.negotiation.specs.declared.End.{End}
use Rattle.negotiation.specs.declared.Sides.{Sides}
use Rattle.negotiation.specs.declared.OptionState.{OptionState}
use Rattle.negotiation.specs.declared.Side.{Side}
use Rattle.negotiation.specs.declared.Side.TheVariants.{Echo, BulletinSga, Rcte, Macro, PrinterSga, Disposes, Uncarried}
use Rattle.negotiation.specs.Table.{is_yes, is_yes_or_ending}
use Rattle.negotiation.specs.Carried.{moved, reply_bytes, heard_by}
use Rattle.reader.specs.declared.Item.{Item}
use Rattle.reader.specs.declared.Item.TheVariants.{Nothing, Data, Negotiated, BodyEnd, StrayCommand}
use Rattle.reader.specs.Reading.{ReaderState, body_room, idle, read, by_option}
use Rattle.bodies.specs.declared.RcteCommand.{RcteCommand}
use Rattle.bodies.specs.declared.MacroCommand.{MacroCommand}
use Rattle.bodies.specs.declared.MacroCommand.TheVariants.{Define, Literal}
use Rattle.bodies.specs.RcteBodies.{rcte_body}
use Rattle.bodies.specs.MacroBodies.{macro_body, define_rest}
use Rattle.bodies.specs.ValueBodies.{value_body}
use Rattle.std.proofs.Common.{Ok, Err}
use Rattle.received_macros.specs.Texts.{Verdict, plain, Table, no_macros, entry_of, is_itself, entry_for, defined, total, text_room, judged_rest, judged, after_define, reason_number, verdict_bytes}
use Rattle.rcte.specs.Taking.{gather_room}
use Rattle.rcte.specs.Control as control
use Rattle.rcte.specs.Control.{RcteEffect, wait_room, started, holding, commanded, orders_now, rcte_ended}
use Rattle.disposition.specs.ByOption.{AllValues}
use Rattle.disposition.specs.ByOption.{unspoken, with_ds, values_of, with_values_of}
use Rattle.subnegotiation.specs.declared.Subject.{Subject}
use Rattle.subnegotiation.specs.Checks.{Checked}
use Rattle.subnegotiation.specs.Checks.{option_checked, checked}
use Rattle.printer.specs.State.{PrinterState, with_sides, with_reader, with_table, with_rcte, with_values, rcte_in_force, echo_in_force, Effect, sends, nothing, notes, printing, of_rcte}
use Rattle.printer.specs.Network.{data_read, rcte_moved, side_moved, moved_with_reply, negotiation_read, rcte_read, macro_read, value_read, body_handled, body_read, item_read, byte_read, bytes_read}
use Rattle.printer.specs.Limits.{text_limit, InBytes, Limited}
use Rattle.received_macros.specs.Refinement.{text_of}
use Rattle.rcte.proofs.Bounds.{BoundedBy, releases, ends}
use Rattle.printer.proofs.LimitsReader.{wire_bound, item_bound, reads}

-- a text that a table may hold
abbrev Short : List ℕ → Type 0
Short t = (length t ≤ text_limit) × InBytes t

abbrev AllShort : Table → Type 0
AllShort t = (x : ℕ) → Short (text_of (entry_of t x))

no_text : Short []
no_text = (lit≤ tt, λ i. lit< tt)

limited : {s : PrinterState} → length s.rcte.waiting ≤ wait_room → length s.rcte.gathered ≤ gather_room
    → length s.reader.body ≤ body_room → InBytes s.reader.body → AllShort s.table → Limited s
limited w g b i t = record {
  sized = record { waiting = w; gathered = g; body = b; texts = λ x. (t x).0 };
  bytewise = record { body = i; texts = λ x. (t x).1 };
}

-- a state with one of its parts changed
module _ {s : PrinterState} (h : Limited s) where
  texts_of : AllShort s.table
  texts_of x = (h.sized.texts x, h.bytewise.texts x)

  with_sides_lem : (x : Sides) → Limited (with_sides s x)
  with_sides_lem x = limited h.sized.waiting h.sized.gathered h.sized.body h.bytewise.body texts_of

  pub with_values_lem : (x : AllValues) → Limited (with_values s x)
  with_values_lem x = limited h.sized.waiting h.sized.gathered h.sized.body h.bytewise.body texts_of

  pub with_rcte_lem : (x : control.RcteState) → length x.waiting ≤ wait_room → length x.gathered ≤ gather_room → Limited (with_rcte s x)
  with_rcte_lem x w g = limited w g h.sized.body h.bytewise.body texts_of

  with_reader_lem : (x : ReaderState) → length x.body ≤ body_room → InBytes x.body → Limited (with_reader s x)
  with_reader_lem x b i = limited h.sized.waiting h.sized.gathered b i texts_of

  with_table_lem : (x : Table) → AllShort x → Limited (with_table s x)
  with_table_lem x t = limited h.sized.waiting h.sized.gathered h.sized.body h.bytewise.body t

-- the wire bytes that gathered bytes, waiting keys and the reader's bound may still give
abbrev bytes_left : control.RcteState → ReaderState → ℕ
bytes_left e r = length e.gathered + 2 * length e.waiting + wire_bound r

-- a step from the control e and the reader r: it prints at most p bytes beyond those of the keys that it uses up, and sends
-- at most n beyond what is left no more; where H holds, the sizes hold behind it
pub record Step (e : control.RcteState) (r : ReaderState) (p n : ℕ) (H : Type 0) (d : Effect) : Type 0 where
  pub paper : length d.paper + 2 * length d.state.rcte.waiting ≤ 2 * length e.waiting + p
  pub wire : length d.wire + bytes_left d.state.rcte d.state.reader ≤ bytes_left e r + n
  pub kept : H → Limited d.state

module _ {H : Type 0} (n : ℕ) (s : PrinterState) (h : H → Limited s) where
  sending : (bytes : List ℕ) → length bytes ≤ n → Step s.rcte s.reader 1 n H (sends bytes s)
  sending bytes l = record { paper = omega arith; wire = omega arith; kept = h }

  noting : (note : Note) → Step s.rcte s.reader 1 n H (notes note s)
  noting note = record { paper = omega arith; wire = omega arith; kept = h }

  data_step : (b : ℕ) → Step s.rcte s.reader 1 n H (data_read s b)
  unfolding data_read
  data_step b =
      either (λ x. Step s.rcte s.reader 1 n H (printing (b ∷ []) x)) (rcte_in_force s)
      (record { paper = omega arith; wire = omega arith; kept = λ y. with_rcte_lem (h y) (holding s.rcte) (h y).sized.waiting (h y).sized.gathered })
      (record { paper = omega arith; wire = omega arith; kept = h })

  rcte_step : (e : RcteEffect) → BoundedBy s.rcte.gathered s.rcte.waiting e → Step s.rcte s.reader 1 n H (of_rcte e s)
  rcte_step e p = record {
    paper = omega (arith, p.paper);
    wire = omega (arith, p.wire);
    kept = λ y. with_rcte_lem (h y) e.rcte (omega (arith, p.paper, (h y).sized.waiting)) (p.room (h y).sized.gathered);
  }

  rcte_moved_lem : (was is : Bool) → Step s.rcte s.reader 1 n H (rcte_moved was is s)
  rcte_moved_lem true true = sending [] (omega arith)
  rcte_moved_lem true false = rcte_step (rcte_ended (echo_in_force s) s.rcte) (ends (echo_in_force s) s.rcte)
  rcte_moved_lem false true = record { paper = omega arith; wire = omega arith; kept = λ y. with_rcte_lem (h y) started (lit≤ tt) (lit≤ tt) }
  rcte_moved_lem false false = sending [] (omega arith)

turns : (s : PrinterState) (x : Sides) → Step s.rcte s.reader 1 0 (Limited s) (nothing (with_sides s x))
turns s x = sending 0 (with_sides s x) (λ h. with_sides_lem h x) [] (omega arith)

-- a side's state changes: RCTE may end, BM's table may be emptied
pub moves : (s : PrinterState) (side : Side) (q : OptionState) → Step s.rcte s.reader 1 0 (Limited s) (side_moved s side q)
unfolding side_moved
moves s Rcte q =
    let x = moved s.sides Rcte q in
    rcte_moved_lem 0 (with_sides s x) (λ h. with_sides_lem h x) (rcte_in_force s) (is_yes q)
moves s Macro q =
    let x = moved s.sides Macro q in
    let t = cond (is_yes_or_ending q) s.table no_macros in
    let none : AllShort no_macros = every_replicate (λ e. Short (text_of e)) plain 256 plain no_text no_text in
    sending 0 (with_table (with_sides s x) t) (λ h. with_table_lem (with_sides_lem h x) t (either AllShort (is_yes_or_ending q) (texts_of h) none)) [] (omega arith)
moves s (Disposes d) q =
    let x = moved s.sides (Disposes d) q in
    let v = cond (is_yes q) s.values (with_values_of s.values d unspoken) in
    sending 0 (with_values (with_sides s x) v) (λ h. with_values_lem (with_sides_lem h x) v) [] (omega arith)
moves s Echo q = turns s (moved s.sides Echo q)
moves s BulletinSga q = turns s (moved s.sides BulletinSga q)
moves s PrinterSga q = turns s (moved s.sides PrinterSga q)
moves s Uncarried q = sending 0 s (λ h. h) [] (omega arith)

pub replies : (n : ℕ) (s : PrinterState) (side : Side) (q : OptionState) (reply : List ℕ) → length reply ≤ n
    → Step s.rcte s.reader 1 n (Limited s) (moved_with_reply s side q reply)
replies n s side q reply l =
    let m = moves s side q in
    record { paper = m.paper; wire = simp length-append (omega (arith, m.wire)); kept = m.kept }

negotiates : (s : PrinterState) (v : Verb) (option : ℕ) → Step s.rcte s.reader 1 3 (Limited s) (negotiation_read s v option)
unfolding negotiation_read
negotiates s v option =
    let t = heard_by End.Printer s.sides v option in
    replies 3 s t.side t.next (reply_bytes t.whose t.reply option) (reply_long t.whose t.reply option)

-- a DEFINE that is accepted has a text as long as its count says
accepts : (t : Table) (x : ℕ) (rest : List ℕ) → InBytes rest → AllShort t → AllShort (after_define (judged_rest t x rest) t x (drop 1 rest))
unfolding defined
accepts t x [] i all = all
accepts t x (count ∷ string) i all =
    let Q : Verdict → Type 0 = λ v. AllShort (after_define v t x string) in
    let long : eqb (length string) count ≡ true → Short string = λ e. (omega (arith, eqb-true (length string) count e, i 0), λ j. i (suc j)) in
    chosen Q (not (eqb (length string) count)) (λ e. all)
    (λ e. either Q (ltb text_room (total (defined t x string))) all
    (every_set (λ e. Short (text_of e)) plain t x (entry_for x string) (either (λ e. Short (text_of e)) (is_itself x string) no_text (long (not-false _ e))) all))

defines : (t : Table) (x : ℕ) (rest : List ℕ) → InBytes rest → AllShort t → AllShort (after_define (judged t x rest) t x (drop 1 rest))
unfolding judged
defines t x rest i all = either (λ v. AllShort (after_define v t x (drop 1 rest))) (eqb x 255) all (accepts t x rest i all)

verdict_long : (v : Verdict) (x : ℕ) → length (verdict_bytes v x) ≤ 10
unfolding frame flat_map
verdict_long (Ok _) x = simp length-append (omega (arith, coded_one BM refl, coded_one ACCEPT refl, coded_long x))
verdict_long (Err reason) x = simp length-append (omega (arith, coded_one BM refl, coded_one REFUSE refl, coded_long x, coded_long (reason_number reason)))

-- the bodies, of a state s; a reply to one is at most ten bytes
module _ {H : Type 0} (n : ℕ) (ten : 10 ≤ n) (s : PrinterState) (h : H → Limited s) where
  rctes : (b : Option RcteCommand) → Step s.rcte s.reader 1 n H (rcte_read s b)
  unfolding commanded
  rctes None = noting n s h Unreadable
  rctes (Some c) =
      let e = s.rcte in
      rcte_step n s h (commanded e c) (releases (orders_now c e.orders) e.gathered e.waiting)

  macros : (body : List ℕ) (b : Option MacroCommand) → (H → InBytes body) → Step s.rcte s.reader 1 n H (macro_read s body b)
  macros body None i = noting n s h Unreadable
  macros body (Some (Define x)) i =
      let rest = define_rest body in
      let v = judged s.table x rest in
      let t = after_define v s.table x (drop 1 rest) in
      let bytes : H → InBytes rest = λ y j. rw (get_or-drop 3 body j 0) (i y (3 + j)) in
      sending n (with_table s t) (λ y. with_table_lem (h y) t (defines s.table x rest (bytes y) (texts_of (h y)))) (verdict_bytes v x) (omega (arith, verdict_long v x))
  macros body (Some (Literal x)) i = data_step n s h x

  values : (d : Disposition) (b : Option ℕ) → Step s.rcte s.reader 1 n H (value_read s d b)
  values d None = noting n s h Unreadable
  values d (Some v) =
      let x = with_values_of s.values d (with_ds (values_of s.values d) v) in
      sending n (with_values s x) (λ y. with_values_lem (h y) x) [] (omega arith)

  handles : (body : List ℕ) (c : Checked) → (H → InBytes body) → Step s.rcte s.reader 1 n H (body_handled s body c)
  handles body (Err note) i = noting n s h note
  handles body (Ok Subject.Rcte) i = rctes (rcte_body body)
  handles body (Ok (Subject.Disposes d)) i = values d (value_body d DS body)
  handles body (Ok Subject.Macro) i = macros body (macro_body body) i

-- the bound of a body that is not empty is enough for its reply
bodies : {H : Type 0} (s : PrinterState) → (H → Limited s) → (marred : Bool) (body : List ℕ) → (H → InBytes body)
    → Step s.rcte s.reader 1 (8 + 2 * length body) H (body_read s marred body)
unfolding body_read checked by_option
bodies s h true body i = noting (8 + 2 * length body) s h Unreadable
bodies s h false [] i = noting 8 s h Unreadable
bodies s h false (option ∷ rest) i =
    handles (8 + 2 * suc (length rest)) (omega arith) s h (option ∷ rest) (option_checked End.Printer s.sides option) i

items : (s : PrinterState) (i : Item) → Step s.rcte s.reader 1 (item_bound i s.reader.body) (Limited s) (item_read s i)
items s Nothing = sending 0 s (λ h. h) [] (lit≤ tt)
items s (Data b) = data_step 0 s (λ h. h) b
items s (Negotiated v option) = negotiates s v option
items s BodyEnd =
    let d = bodies {H = Limited s} (with_reader s idle) (λ h. with_reader_lem h idle (lit≤ tt) (λ i. lit< tt)) s.reader.marred s.reader.body (λ h. h.bytewise.body) in
    record { paper = d.paper; wire = omega (arith, d.wire); kept = d.kept }
items s StrayCommand = noting 0 s (λ h. h) Stray

pub byte_step : (s : PrinterState) (b : ℕ) → Step s.rcte s.reader 1 2 ((b < 256) × Limited s) (byte_read s b)
unfolding byte_read
byte_step s b =
    let r = read s.reader b in
    let c = reads s.reader b in
    let d = items (with_reader s r.reader) r.item in
    record {
      paper = d.paper;
      wire = omega (arith, d.wire, c.bounded);
      kept = λ y. d.kept (with_reader_lem y.1 r.reader (c.room y.1.sized.body) (c.bytes y.0 y.1.bytewise.body));
    }

pub bytes_step : (s : PrinterState) (bs : List ℕ) → Step s.rcte s.reader (length bs) (2 * length bs) (InBytes bs × Limited s) (bytes_read s bs)
unfolding bytes_read
bytes_step s [] = record { paper = omega arith; wire = omega arith; kept = λ y. y.1 }
bytes_step s (b ∷ bs) =
    let d = byte_step s b in
    let e = bytes_step (byte_read s b).state bs in
    record {
      paper = simp length-append (omega (arith, d.paper, e.paper));
      wire = simp length-append (omega (arith, d.wire, e.wire));
      kept = λ y. e.kept (λ i. y.0 (suc i), d.kept (y.0 0, y.1));
    }
