use mathlib.Core.Path.{sym, ap, ◌∙◌}
use mathlib.Core.List.{List}
use Prim.Native.Nat.{ℕ}
use Rattle.negotiation.specs.declared.End.{End}
use Rattle.negotiation.specs.Carried.{macros_in_force}
use Rattle.session_arrays.specs.Numbers.{sides_in}
use Rattle.session_arrays.proofs.BulletinArrays.{standing_on, standing_off}
use Rattle.prambow.proofs.bulletin_calls.prambow_bulletin_macro_standing_arrays.Goals as goal

pub returns-then-macros_in_force : goal.returns-then-macros_in_force
returns-then-macros_in_force c = record {
  met = λ a e f g h.
      rw (← standing_on a c.args.x (ap (λ (s : List ℕ). macros_in_force End.Bulletin (sides_in s)) e ∙ ap (macros_in_force End.Bulletin) (sym c.sides_in.ensures) ∙ sym c.macros_in_force.ensures ∙ c.if-macros_in_force.true), f, g, h, c.into.ensures, c.status_at.ensures);
}

pub returns : goal.returns
returns c = record {
  met = λ a e f g h.
      rw (← standing_off a c.args.x (ap (λ (s : List ℕ). macros_in_force End.Bulletin (sides_in s)) e ∙ ap (macros_in_force End.Bulletin) (sym c.sides_in.ensures) ∙ sym c.macros_in_force.ensures ∙ c.if-macros_in_force.false), g);
}
