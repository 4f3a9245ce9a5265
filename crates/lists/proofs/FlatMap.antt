-- Runs of lists put one behind the other.
use mathlib.Core.Path.{◌≡◌, refl, sym, ap, ◌∙◌}
use mathlib.Core.List.{List, [], ◌∷◌, ◌++◌, map, append_assoc, append-nil, flat_map}
use Prim.Native.Nat.{ℕ, ◌+◌, ◌<◌}
use native.Mathlib.Numerals.{add-one}
use lib.ListN.{length, take, get_or, length-append}
use lib.Seq.{take-suc}
use Rattle.lists.specs.Lists.{sum}

pub flat_map-append : {X Y : Type 0} (f : X → List Y) (xs ys : List X) → flat_map f (xs ++ ys) ≡ flat_map f xs ++ flat_map f ys
unfolding flat_map
flat_map-append f [] ys = refl
flat_map-append f (x ∷ xs) ys = rw (flat_map-append f xs ys) (sym (append_assoc (f x) (flat_map f xs) (flat_map f ys)))

pub flat_map_one : {X Y : Type 0} (f : X → List Y) (x : X) → flat_map f (x ∷ []) ≡ f x
unfolding flat_map
flat_map_one f x = append-nil (f x)

-- a run grows by one element
pub flat_map_next : {X Y : Type 0} (f : X → List Y) (xs : List X) (i : ℕ) (d : X) → i < length xs
    → flat_map f (take (i + 1) xs) ≡ flat_map f (take i xs) ++ f (get_or xs i d)
flat_map_next f xs i d h =
    rw (add-one i, take-suc xs i d h, flat_map-append f (take i xs) (get_or xs i d ∷ []), flat_map_one f (get_or xs i d))

-- the lengths of a run's parts
pub flat_map-length : {X Y : Type 0} (f : X → List Y) (l : List X) → length (flat_map f l) ≡ sum (map (λ (x : X). length (f x)) l)
unfolding flat_map sum
flat_map-length f [] = refl
flat_map-length f (x ∷ l) = length-append (f x) (flat_map f l) ∙ ap (λ (n : ℕ). length (f x) + n) (flat_map-length f l)

-- a run of a run
pub flat_map-flat_map : {X Y Z : Type 0} (f : X → List Y) (g : Y → List Z) (l : List X)
    → flat_map g (flat_map f l) ≡ flat_map (λ (x : X). flat_map g (f x)) l
unfolding flat_map
flat_map-flat_map f g [] = refl
flat_map-flat_map {X} {Y} {Z} f g (x ∷ l) = flat_map-append g (f x) (flat_map f l) ∙ ap (λ (m : List Z). flat_map g (f x) ++ m) (flat_map-flat_map f g l)

pub flat_map_same : {X Y : Type 0} (f g : X → List Y) → ((x : X) → f x ≡ g x) → (l : List X) → flat_map f l ≡ flat_map g l
unfolding flat_map
flat_map_same f g h [] = refl
flat_map_same f g h (x ∷ l) = rw (h x, flat_map_same f g h l)
