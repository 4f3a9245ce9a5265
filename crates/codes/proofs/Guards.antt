-- A call's answer taken apart: that of a guard, or what the call does where no guard holds.
use mathlib.Core.Path.{◌≡◌, refl}
use mathlib.Core.Bool.{Bool, true, false, cond}
use mathlib.Core.List.{List, [], ◌∷◌}
use lib.Dec.{eqb}
use Rattle.codes.specs.Answers.{Guard, guarded, code_number}
use Rattle.codes.specs.declared.Code.{Code}

abbrev pub NoneHolds : List Guard → Type 0
NoneHolds [] = Unit {0}
NoneHolds (g ∷ gs) = (g.holds ≡ false) × NoneHolds gs

-- each guard's code is a refusal
abbrev pub Refusals : List Guard → Type 0
Refusals [] = Unit {0}
Refusals (g ∷ gs) = (eqb (code_number g.code) 0 ≡ false) × Refusals gs

pub data Judged {A : Type 0} (gs : List Guard) (refused : Code → A) (done given : A) : Type 0 where
  stopped : (c : Code) → eqb (code_number c) 0 ≡ false → given ≡ refused c → Judged gs refused done given
  passed : NoneHolds gs → given ≡ done → Judged gs refused done given

pub judged : {A : Type 0} (gs : List Guard) (refused : Code → A) (done : A) → Refusals gs
    → Judged gs refused done (guarded gs refused done)
unfolding guarded
judged [] refused done r = passed tt refl
judged {A} (g ∷ gs) refused done r = go g.holds refl (judged gs refused done r.1)
  where
    under : g.holds ≡ false → Judged gs refused done (guarded gs refused done)
        → Judged (g ∷ gs) refused done (guarded gs refused done)
    under h (stopped c n e) = stopped c n e
    under h (passed k e) = passed (h, k) e

    go : (t : Bool) → g.holds ≡ t → Judged gs refused done (guarded gs refused done)
        → Judged (g ∷ gs) refused done (cond t (refused g.code) (guarded gs refused done))
    go true h j = stopped g.code r.0 refl
    go false h j = under h j

-- past a guard that does not hold the others decide
pub guarded_passed : {A : Type 0} (refused : Code → A) (done : A) (g : Guard) (gs : List Guard) → g.holds ≡ false → guarded (g ∷ gs) refused done ≡ guarded gs refused done
unfolding guarded
guarded_passed refused done g gs h = rw h
