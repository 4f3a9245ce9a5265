-- A call that goes on where it is allowed, and answers by the code of the first guard that holds where it is not.
use Rattle.std.specs.Prelude.{Result, Ok, Err}
use mathlib.Core.Path.{◌≡◌, refl, sym, ap, ◌∙◌}
use mathlib.Core.Bool.{Bool, true, false, cond}
use mathlib.Core.List.{List, [], ◌∷◌, ◌++◌}
use Rattle.codes.specs.Answers.{Guard, guarded, allowed}
use Rattle.codes.specs.declared.Code.{Code}
use Rattle.codes.proofs.Guards.{NoneHolds}

-- what a call answers, by whether it may go on
abbrev pub by_allowed : {A : Type 0} → (Code → A) → A → Result (Unit {0}) Code → A
by_allowed refused done (Ok u) = done
by_allowed refused done (Err c) = refused c

pub guarded_by : {A : Type 0} (refused : Code → A) (done : A) (gs : List Guard) → guarded gs refused done ≡ by_allowed refused done (allowed gs)
unfolding guarded allowed
guarded_by refused done [] = refl
guarded_by refused done (g ∷ gs) = go g.holds (guarded_by refused done gs)
  where
    go : (t : Bool) → guarded gs refused done ≡ by_allowed refused done (allowed gs)
        → cond t (refused g.code) (guarded gs refused done) ≡ by_allowed refused done (cond t (Err g.code) (allowed gs))
    go true rest = refl
    go false rest = rest

-- guards looked at one by one: past one that does not hold the rest decide
pub first_refuses : (g : Guard) (gs : List Guard) → g.holds ≡ true → allowed (g ∷ gs) ≡ Err g.code
unfolding allowed
first_refuses g gs h = rw h

pub first_allows : (g : Guard) (gs : List Guard) → g.holds ≡ false → allowed (g ∷ gs) ≡ allowed gs
unfolding allowed
first_allows g gs h = rw h

-- guards before others: where they allow the call, the others decide
pub allowed_before : (gs hs : List Guard) {u : Unit {0}} → allowed gs ≡ Ok u → allowed (gs ++ hs) ≡ allowed hs
unfolding allowed
allowed_before [] hs e = refl
allowed_before (g ∷ gs) hs e = go g.holds e (allowed_before gs hs)
  where
    go : (t : Bool) → cond t (Err g.code) (allowed gs) ≡ Ok tt → (allowed gs ≡ Ok tt → allowed (gs ++ hs) ≡ allowed hs)
        → cond t (Err g.code) (allowed (gs ++ hs)) ≡ allowed hs
    go true e rest = absurd (let no : Err g.code ≡ Ok tt = e in cc)
    go false e rest = rest e

pub refused_before : (gs hs : List Guard) (c : Code) → allowed gs ≡ Err c → allowed (gs ++ hs) ≡ Err c
unfolding allowed
refused_before [] hs c e = absurd (let no : Ok tt ≡ Err c = e in cc)
refused_before (g ∷ gs) hs c e = go g.holds e (refused_before gs hs c)
  where
    go : (t : Bool) → cond t (Err g.code) (allowed gs) ≡ Err c → (allowed gs ≡ Err c → allowed (gs ++ hs) ≡ Err c)
        → cond t (Err g.code) (allowed (gs ++ hs)) ≡ Err c
    go true e rest = e
    go false e rest = rest e

-- .. and none of them holds
pub none_holds_of : (gs : List Guard) {u : Unit {0}} → allowed gs ≡ Ok u → NoneHolds gs
unfolding allowed
none_holds_of [] e = tt
none_holds_of (g ∷ gs) e = go g.holds refl e (none_holds_of gs)
  where
    go : (t : Bool) → g.holds ≡ t → cond t (Err g.code) (allowed gs) ≡ Ok tt → (allowed gs ≡ Ok tt → NoneHolds gs) → (g.holds ≡ false) × NoneHolds gs
    go true h e rest = absurd (let no : Err g.code ≡ Ok tt = e in cc)
    go false h e rest = (h, rest e)
