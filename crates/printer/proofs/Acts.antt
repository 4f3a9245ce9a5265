-- What a call other than a key call does to the state of RCTE, told apart from the state itself.
use mathlib.Core.Path.{◌≡◌}
use mathlib.Core.Bool.{Bool, true, false}
use mathlib.Core.List.{List, [], ◌++◌}
use Prim.Native.Nat.{ℕ}
use Rattle.codes.specs.declared.Note.{Note}
use Rattle.negotiation.specs.declared.Sides.{Sides}
use Rattle.negotiation.specs.Table.{is_yes}
use Rattle.bodies.specs.declared.RcteCommand.{RcteCommand}
use Rattle.rcte.specs.Control.{RcteState, RcteEffect, started, holding, commanded, rcte_ended}
use Rattle.printer.specs.State.{PrinterState, with_rcte, rcte_in_force, Effect}

-- Acts a b: whether RCTE is in force before is a, and after is b. Bytes of their own; a data byte that holds; RCTE's start and its
-- end behind a reply; a command; and one act after another.
pub data Acts : Bool → Bool → Type 0 where
  puts : {a b : Bool} → a ≡ b → (paper wire : List ℕ) → Acts a b
  holds : {a b : Bool} → a ≡ true → b ≡ true → (paper : List ℕ) → Acts a b
  starts : {a b : Bool} → a ≡ false → b ≡ true → (reply : List ℕ) → Acts a b
  ends : {a b : Bool} → a ≡ true → b ≡ false → (reply : List ℕ) → (echoed : Bool) → Acts a b
  commands : {a b : Bool} → a ≡ true → b ≡ true → RcteCommand → Acts a b
  both : {a b c : Bool} → Acts a b → Acts b c → Acts a c

abbrev pub wrote : List ℕ → List ℕ → RcteState → RcteEffect
wrote paper wire e = record { paper = paper; wire = wire; taken = []; rcte = e }

abbrev pub with_reply : List ℕ → RcteEffect → RcteEffect
with_reply reply x = record { paper = x.paper; wire = reply ++ x.wire; taken = x.taken; rcte = x.rcte }

abbrev pub and_then : RcteEffect → RcteEffect → RcteEffect
and_then x y = record { paper = x.paper ++ y.paper; wire = x.wire ++ y.wire; taken = x.taken ++ y.taken; rcte = y.rcte }

unfoldable pub acted : {a b : Bool} → Acts a b → RcteState → RcteEffect
acted (puts p paper wire) e = wrote paper wire e
acted (holds p q paper) e = wrote paper [] (holding e)
acted (starts p q reply) e = wrote [] reply started
acted (ends p q reply echoed) e = with_reply reply (rcte_ended echoed e)
acted (commands p q c) e = commanded e c
acted (both x y) e = let d = acted x e in and_then d (acted y d.rcte)

abbrev pub effect_of : Note → PrinterState → RcteEffect → Effect
effect_of n s x = record { note = n; paper = x.paper; wire = x.wire; taken = x.taken; state = with_rcte s x.rcte }

-- a step, begun with these sides, of which all but the state of RCTE is known beforehand
pub record Planned (sides : Sides) (step : RcteState → Effect) : Type 0 where
  pub note : Note
  pub others : PrinterState
  pub acts : Acts (is_yes sides.rcte) (rcte_in_force others)
  pub does : (e : RcteState) → step e ≡ effect_of note others (acted acts e)
