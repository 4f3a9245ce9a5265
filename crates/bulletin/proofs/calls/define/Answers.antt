use mathlib.Core.Path.{refl, sym, ◌∙◌}
use mathlib.Core.List.{[], ◌∷◌, ◌++◌}
use lib.ListN.{length}
use Rattle.codes.specs.Answers.{refused_if, allowed}
use Rattle.codes.specs.declared.Code.TheVariants.{TooLong}
use Rattle.codes.specs.declared.Note.TheVariants.{Clear}
use Rattle.codes.proofs.Allowed.{first_refuses, first_allows, allowed_before, refused_before, none_holds_of}
use Rattle.sent_macros.specs.Sending.{is_too_long, defining_bytes}
use Rattle.sent_macros.specs.Refinement.{view_table}
use Rattle.bulletin.specs.Refinement.{view_bulletin}
use Rattle.bulletin.specs.Calls.{define_guards_before_size, define_call}
use Rattle.bulletin.proofs.Limits.{defining_fits}
use Rattle.bulletin.proofs.Meeting.{met_step, met_macros}
use Rattle.bulletin.proofs.Answering.{stopped_on_wire, passed_on_wire, done_on_wire}
use Rattle.bulletin.proofs.Rooms.{room_on_wire}
use Rattle.bulletin.proofs.calls.define.Goals as goal

pub returns-in-Err : goal.returns-in-Err
unfolding define_call
returns-in-Err c =
    let a = c.args in
    let earlier = define_guards_before_size (view_bulletin a.s) a.x (length a.wire.now) in
    let size = refused_if (is_too_long (view_table a.s.table) a.x a.text.now) TooLong in
    rw c.refused.ensures
    (stopped_on_wire (earlier ++ size ∷ []) _ refl (refused_before earlier (size ∷ []) c.in-Err.code (sym c.define_refusal.ensures ∙ c.in-Err.is)))

pub define-requires : goal.define-requires
define-requires c =
    let a = c.args in
    let t = view_table a.s.table in
    let none = none_holds_of (define_guards_before_size (view_bulletin a.s) a.x (length a.wire.now)) (sym c.define_refusal.ensures ∙ c.in_default.is) in
    room_on_wire (defining_bytes t a.x a.text.now) a.wire.now none.0 (defining_fits t a.x a.text.now)

pub returns-in_default-define : goal.returns-in_default-define
unfolding define_call
returns-in_default-define c =
    let a = c.args in
    let earlier = define_guards_before_size (view_bulletin a.s) a.x (length a.wire.now) in
    let size = refused_if (is_too_long (view_table a.s.table) a.x a.text.now) TooLong in
    let found = c.in_default-define.ensures in
    let first = allowed_before earlier (size ∷ []) (sym c.define_refusal.ensures ∙ c.in_default.is) ∙ first_refuses size [] found.long in
    rw (found.wire.cells, c.refused-in_default-define.ensures) (stopped_on_wire (earlier ++ size ∷ []) _ refl first)

pub returns : goal.returns
unfolding define_call allowed
returns c =
    let a = c.args in
    let earlier = define_guards_before_size (view_bulletin a.s) a.x (length a.wire.now) in
    let size = refused_if (is_too_long (view_table a.s.table) a.x a.text.now) TooLong in
    let found = c.in-Some.ensures in
    let first = allowed_before earlier (size ∷ []) (sym c.define_refusal.ensures ∙ c.in_default.is) ∙ first_allows size [] found.fits in
    rw (c.done.ensures.0, ← c.keep.ensures)
    (passed_on_wire (earlier ++ size ∷ []) _ refl first
    (done_on_wire c.sends.ensures (met_step Clear (met_macros found.table.view found.table.clean _) found.wire) c.done.ensures.1))
