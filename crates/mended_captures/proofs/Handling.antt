-- What is judged of a piece, and what a printer end does at its last byte.
use Rattle.std.specs.Prelude.{Option, Some, None, Ok, Err}
use mathlib.Core.Path.{◌≡◌, refl}
use mathlib.Core.Bool.{Bool, true, false}
use mathlib.Core.List.{List}
use Prim.Native.Nat.{ℕ}
use Rattle.lists.proofs.Lengths.{either}
use Rattle.codes.specs.Telnet.{DS}
use Rattle.codes.specs.declared.Disposition.{Disposition}
use Rattle.codes.specs.declared.Note.{Note}
use Rattle.codes.specs.declared.Note.TheVariants.{Clear, Unreadable, Inactive, OtherOption, Stray}
use Rattle.codes.specs.declared.Verb.{Verb}
use Rattle.negotiation.specs.declared.End.{End}
use Rattle.negotiation.specs.declared.Side.{Side}
use Rattle.negotiation.specs.declared.Side.TheVariants.{Echo, BulletinSga, Rcte, Macro, PrinterSga, Disposes, Uncarried}
use Rattle.negotiation.specs.declared.OptionState.{OptionState}
use Rattle.negotiation.specs.Table.{is_yes}
use Rattle.reader.specs.declared.Item.{Item}
use Rattle.reader.specs.declared.Item.TheVariants.{Nothing, Data, Negotiated, BodyEnd, StrayCommand}
use Rattle.reader.specs.Reading.{ReaderState, idle}
use Rattle.bodies.specs.declared.RcteCommand.{RcteCommand}
use Rattle.bodies.specs.declared.MacroCommand.{MacroCommand}
use Rattle.bodies.specs.declared.MacroCommand.TheVariants.{Define, Literal}
use Rattle.bodies.specs.RcteBodies.{rcte_body}
use Rattle.bodies.specs.MacroBodies.{macro_body}
use Rattle.bodies.specs.ValueBodies.{value_body}
use Rattle.subnegotiation.specs.Checks.{Checked, checked}
use Rattle.subnegotiation.specs.declared.Subject.{Subject}
use Rattle.printer.specs.State.{PrinterState, with_reader, with_sides, rcte_in_force, Effect, nothing, notes}
use Rattle.printer.specs.Network.{data_read, rcte_moved, side_moved, negotiation_read, rcte_read, macro_read, value_read, body_handled, body_read, item_read, byte_read}
use Rattle.mending.specs.declared.Reason.TheVariants as why
use Rattle.mending.specs.Judging.{Judged, all_in_force, note_judged, readable, shape_judged, body_judged, item_judged, judged}
use Rattle.mending.proofs.Walk.{Whole, last_read}
use Rattle.mended_captures.specs.Notes.{is_faultless, at_rest}
use Rattle.mended_captures.proofs.Readers.{UnlessBody, idle_again}
use Rattle.mended_captures.proofs.Checking.{checked_either}
use Rattle.mended_captures.proofs.PieceRead.{last_effect}

-- What a step owes to a judgement: of what is copied its note is fit, and it leaves the reader as it was; what is dropped gives its
-- note, and nothing else.
abbrev pub Handled : PrinterState → Judged → Effect → Type 0
Handled s (Ok u) d = (is_faultless d.note ≡ true) × (d.state.reader ≡ s.reader)
Handled s (Err why.Unreadable) d = d ≡ notes Unreadable s
Handled s (Err why.Stray) d = d ≡ notes Stray s
Handled s (Err why.Unfinished) d = ⊥

module _ (s : PrinterState) where
  data_handled : (b : ℕ) → Handled s (Ok tt) (data_read s b)
  unfolding data_read
  data_handled b = either (λ (t : PrinterState). (is_faultless Clear ≡ true) × (t.reader ≡ s.reader)) (rcte_in_force s) (refl, refl) (refl, refl)

  rcte_moved_lem : (was on : Bool) (t : PrinterState) → t.reader ≡ s.reader → Handled s (Ok tt) (rcte_moved was on t)
  rcte_moved_lem true true t e = (refl, e)
  rcte_moved_lem true false t e = (refl, e)
  rcte_moved_lem false true t e = (refl, e)
  rcte_moved_lem false false t e = (refl, e)

  side_handled : (side : Side) (q : OptionState) → Handled s (Ok tt) (side_moved s side q)
  unfolding side_moved
  side_handled Echo q = (refl, refl)
  side_handled BulletinSga q = (refl, refl)
  side_handled Rcte q = rcte_moved_lem (rcte_in_force s) (is_yes q) _ refl
  side_handled Macro q = (refl, refl)
  side_handled PrinterSga q = (refl, refl)
  side_handled (Disposes d) q = (refl, refl)
  side_handled Uncarried q = (refl, refl)

  negotiation_handled : (v : Verb) (option : ℕ) → Handled s (Ok tt) (negotiation_read s v option)
  unfolding negotiation_read
  negotiation_handled v option = side_handled _ _

  note_handled : (n : Note) → Handled s (note_judged n) (notes n s)
  note_handled Clear = (refl, refl)
  note_handled Unreadable = refl
  note_handled Inactive = (refl, refl)
  note_handled OtherOption = (refl, refl)
  note_handled Stray = refl

  rcte_handled : (b : Option RcteCommand) → Handled s (readable b) (rcte_read s b)
  rcte_handled None = refl
  rcte_handled (Some c) = (refl, refl)

  macro_handled : (body : List ℕ) (b : Option MacroCommand) → Handled s (readable b) (macro_read s body b)
  macro_handled body None = refl
  macro_handled body (Some (Define x)) = (refl, refl)
  macro_handled body (Some (Literal x)) = data_handled x

  value_handled : (d : Disposition) (b : Option ℕ) → Handled s (readable b) (value_read s d b)
  value_handled d None = refl
  value_handled d (Some v) = (refl, refl)

  -- a body is judged by its handling
  shape_handled : (body : List ℕ) (c : Checked) → Handled s (shape_judged body c) (body_handled s body c)
  shape_handled body (Err n) = note_handled n
  shape_handled body (Ok Subject.Rcte) = rcte_handled (rcte_body body)
  shape_handled body (Ok (Subject.Disposes d)) = value_handled d (value_body d DS body)
  shape_handled body (Ok Subject.Macro) = macro_handled body (macro_body body)

-- The last byte of a piece, from what holds of the body that it may end.
module _ (s : PrinterState) (R : Judged → Effect → Type 0) (handled : (j : Judged) (d : Effect) → Handled (at_rest s) j d → R j d)
    (ended : (marred : Bool) (body : List ℕ) → R (body_judged marred body) (body_read (at_rest s) marred body)) where
  item_handled : (r : ReaderState) (i : Item) → UnlessBody (λ q. q ≡ idle) i r → R (item_judged r i) (item_read (with_reader s r) i)
  item_handled r Nothing e = rw e (handled (Ok tt) (nothing (at_rest s)) (refl, refl))
  item_handled r (Data b) e = rw e (handled (Ok tt) (data_read (at_rest s) b) (data_handled (at_rest s) b))
  item_handled r (Negotiated v option) e = rw e (handled (Ok tt) (negotiation_read (at_rest s) v option) (negotiation_handled (at_rest s) v option))
  item_handled r BodyEnd e = ended r.marred r.body
  item_handled r StrayCommand e = rw e (handled (Err why.Stray) (notes Stray (at_rest s)) refl)

  last_handled : (begun : List ℕ) (b : ℕ) → Whole begun b → R (judged (last_read begun b)) (last_effect s begun b)
  unfolding byte_read
  last_handled begun b w = let x = last_read begun b in item_handled x.reader x.item (idle_again begun b w)

-- with every option in force that is what the judgement says
pub last_judged : (s : PrinterState) (begun : List ℕ) (b : ℕ) → Whole begun b
    → let t = with_sides s all_in_force in Handled (at_rest t) (judged (last_read begun b)) (last_effect t begun b)
unfolding body_judged body_read
last_judged s begun b w =
    let t = with_sides s all_in_force in
    last_handled t (Handled (at_rest t)) (λ j d h. h) (λ marred body. shape_handled (at_rest t) body (checked End.Printer all_in_force marred body)) begun b w

-- in any states of the options what is dropped leaves the end as it was
abbrev pub Read : PrinterState → Judged → Effect → Type 0
Read s (Ok u) d = (is_faultless d.note ≡ true) × (d.state.reader ≡ s.reader)
Read s (Err reason) d = (n : Note) × (d ≡ notes n s)

handled_read : (s : PrinterState) (j : Judged) (d : Effect) → Handled s j d → Read s j d
handled_read s (Ok u) d h = h
handled_read s (Err why.Unreadable) d h = (Unreadable, h)
handled_read s (Err why.Stray) d h = (Stray, h)
handled_read s (Err why.Unfinished) d h = absurd h

inactive_read : (s : PrinterState) (j : Judged) → Read s j (notes Inactive s)
inactive_read s (Ok u) = (refl, refl)
inactive_read s (Err reason) = (Inactive, refl)

pub last_read_lem : (s : PrinterState) (begun : List ℕ) (b : ℕ) → Whole begun b → Read (at_rest s) (judged (last_read begun b)) (last_effect s begun b)
unfolding body_judged body_read
last_read_lem s begun b w = last_handled s (Read (at_rest s)) (handled_read (at_rest s)) ended begun b w
  where
    ended : (marred : Bool) (body : List ℕ) → Read (at_rest s) (body_judged marred body) (body_read (at_rest s) marred body)
    ended marred body =
        let c = checked End.Printer all_in_force marred body in
        let j = shape_judged body c in
        checked_either (λ (k : Checked). Read (at_rest s) j (body_handled (at_rest s) body k)) s.sides (inactive_read (at_rest s) j) marred body
        (handled_read (at_rest s) j (body_handled (at_rest s) body c) (shape_handled (at_rest s) body c))
