-- The examples, by computation: the rules' bytes are compared with the expected ones by a test, and the test's
-- answer is turned into the equation.
use mathlib.Core.Path.{◌≡◌, refl}
use mathlib.Core.Bool.{Bool, true, ◌&&◌}
use mathlib.Core.List.{List, [], ◌∷◌, map}
use Prim.Native.Nat.{ℕ}
use lib.Dec.{eqb}
use borrow.Author.Tests.{eqb-true}
use Rattle.lists.proofs.Tables.{both_left, both_right}
use Rattle.example_claims.specs.Opened.{printer_rules, tape_rules}
use Rattle.example_claims.specs.OpenedBulletin.{bulletin_rules}
use Rattle.example_claims.specs.Showing.{same_bytes}
use Rattle.example_claims.specs.Starred.{Example, starred, StarredHold}
use Rattle.example_claims.specs.Listing.{ListingHolds}
use Rattle.example_claims.specs.Rfc560.{InteractionHolds}
use mathlib.Core.Bool.{false≢true}

pub same_bytes_lem : (as' bs : List ℕ) → same_bytes as' bs ≡ true → as' ≡ bs
unfolding same_bytes
same_bytes_lem [] [] e = refl
same_bytes_lem [] (b ∷ bs) e = absurd (false≢true e)
same_bytes_lem (a ∷ as') [] e = absurd (false≢true e)
same_bytes_lem (a ∷ as') (b ∷ bs) e =
    rw (eqb-true a b (both_left (eqb a b) (same_bytes as' bs) e), same_bytes_lem as' bs (both_right (eqb a b) (same_bytes as' bs) e))

unfoldable pub all_same : List Example → Bool
all_same [] = true
all_same (x ∷ xs) = same_bytes x.gives x.says && all_same xs

pub all_hold : (xs : List Example) → all_same xs ≡ true → map (λ x. x.gives) xs ≡ map (λ x. x.says) xs
unfolding all_same
all_hold [] e = refl
all_hold (x ∷ xs) e =
    rw (same_bytes_lem x.gives x.says (both_left (same_bytes x.gives x.says) (all_same xs) e), all_hold xs (both_right (same_bytes x.gives x.says) (all_same xs) e))

pub starred_hold : StarredHold
unfolding printer_rules bulletin_rules same_bytes all_same
starred_hold = all_hold starred refl

pub listing_holds : ListingHolds
unfolding tape_rules same_bytes
listing_holds = same_bytes_lem _ _ refl

pub interaction_holds : InteractionHolds
unfolding printer_rules same_bytes
interaction_holds = (same_bytes_lem _ _ refl, same_bytes_lem _ _ refl)
