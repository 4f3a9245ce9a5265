-- The mark that a text gives to its byte.
use mathlib.Core.Path.{◌≡◌, refl}
use mathlib.Core.Bool.{Bool, true, false, ◌&&◌, cond}
use lib.Pointwise.{pointwise}
use mathlib.Core.List.{List, [], ◌∷◌}
use Prim.Native.Nat.{ℕ, ◌+◌, ◌≤◌}
use native.Mathlib.Omega.{arith}
use borrow.Author.Tests.{ne_eqb, eqb-true}
use lib.Dec.{eqb}
use lib.ListN.{length, take}
use lib.Seq.{take-length}
use Rattle.received_macros.specs.Texts.{Entry, plain, text, entry_length, is_itself, entry_for}
use Rattle.received_macros.specs.Refinement.{length_of, entry_at, text_of, mark_for}

-- the mark, by whether the text is X alone
pub mark_by : (x : ℕ) (s : List ℕ) → cond (pointwise eqb s (x ∷ [])) 0 (length s + 1) ≡ mark_for x s
unfolding mark_for
mark_by x [] = refl
mark_by x (y ∷ []) = go (eqb y x)
  where
    go : (b : Bool) → ◌≡◌ {A = ℕ} (cond (b && true) 0 2) (cond b 0 2)
    go true = refl
    go false = refl
mark_by x (y ∷ z ∷ s) = rw (ne_eqb (length (y ∷ z ∷ s)) 1 (λ e. omega arith)) (go (eqb y x))
  where
    go : (b : Bool) → cond (b && false) 0 (length (y ∷ z ∷ s) + 1) ≡ length (y ∷ z ∷ s) + 1
    go true = refl
    go false = refl

-- a mark other than 0 has the text's length, and the text
full : (s : List ℕ) → length s ≤ 255 → entry_at (length s + 1) (take (length_of (length s + 1)) s) ≡ text s
full s h =
    let n : length_of (length s + 1) ≡ length s = omega arith in
    let ne : eqb (length s + 1) 0 ≡ false = ne_eqb (length s + 1) 0 (λ e. omega arith) in
    rw (ne, n, take-length s, take-length s)

-- what the code needs to know of the mark
pub record Marked (s : List ℕ) (e : Entry) (mark : ℕ) : Type 0 where
  pub most : mark ≤ 256
  pub within : length_of mark ≤ length s
  pub long : length_of mark ≡ entry_length e
  pub entry : entry_at mark (take (length_of mark) s) ≡ e

pub marked : (x : ℕ) (s : List ℕ) → length s ≤ 255 → Marked s (entry_for x s) (mark_for x s)
unfolding mark_for
marked x s h = go (is_itself x s)
  where
    go : (b : Bool) → Marked s (cond b plain (text s)) (cond b 0 (length s + 1))
    go true = record { most = omega arith; within = omega arith; long = refl; entry = refl }
    go false = record { most = omega arith; within = omega arith; long = omega arith; entry = full s h }

-- the text of an entry, defined or not
pub text_at : (mark : ℕ) (cells : List ℕ) → text_of (entry_at mark cells) ≡ take (length_of mark) cells
text_at mark cells = go (eqb mark 0) refl
  where
    go : (b : Bool) → eqb mark 0 ≡ b → text_of (cond b plain (text (take (length_of mark) cells))) ≡ take (length_of mark) cells
    go true e =
        let none : length_of mark ≡ 0 = omega (arith, eqb-true mark 0 e) in
        rw none
    go false e = refl
