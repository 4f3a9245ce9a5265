-- A scan from the front of a list finds how many elements pass.
use mathlib.Core.Path.{◌≡◌, refl, sym, ap}
use mathlib.Core.Bool.{Bool, true, false, ◌||◌, false≢true, not, cond}
use mathlib.Core.List.{List, [], ◌∷◌}
use Prim.Native.Nat.{ℕ, zero, suc, ◌+◌, ◌-◌, ◌≤◌, ◌<◌}
use native.Mathlib.Omega.{arith}
use native.Mathlib.Decide.{dec_lt}
use lib.ListN.{length, take, drop, get_or, length-take, length-drop}
use Rattle.std.proofs.Common.{get_or-drop}
use lib.Seq.{get_or-take}
use borrow.Author.Tests.{not-true, not-false, lt-ltb, le-ltb}
use Rattle.std.proofs.Common.{Some, None}
use lib.Dec.{ltb}
use Rattle.std.specs.Option.{unwrap_or}
use Rattle.std.specs.List.{position_or_len}
use Rattle.std.proofs.lemmas.List.Sums.{fails_before_first, passes_at_first, prefix_len-le-length}
use Rattle.lists.specs.Fronts.{front, Pass, Scanned}

-- a test that none met, taken apart
pub neither_left : (a b : Bool) → (a || b) ≡ false → a ≡ false
neither_left true b e = e
neither_left false b e = refl

pub neither_right : (a b : Bool) → (a || b) ≡ false → b ≡ false
neither_right true b e = absurd (false≢true (sym e))
neither_right false b e = e

module _ {f : ℕ → Bool} {xs : List ℕ} where
  -- two stretches behind one another, and a stretch with one element more
  pub pass_both : {a b c : ℕ} → Pass f xs a b → Pass f xs b c → Pass f xs a c
  pass_both {a} {b} {c} p q = record { each = λ k le lt. go k le lt (dec_lt k b) }
    where
      go : (k : ℕ) → a ≤ k → k < c → Dec (k < b) → f (get_or xs k 0) ≡ true
      go k le lt (yes less) = p.each k le less
      go k le lt (no more) = q.each k (omega (arith, more)) lt

  pub pass_none : {a b : ℕ} → b ≤ a → Pass f xs a b
  pass_none h = record { each = λ k le lt. absurd (omega arith) }

  pub pass_more : {a b : ℕ} → Pass f xs a b → f (get_or xs b 0) ≡ true → Pass f xs a (b + 1)
  pass_more {b = b} p e = pass_both p (record { each = λ k le lt. go k (omega arith) })
    where
      go : (k : ℕ) → k ≡ b → f (get_or xs k 0) ≡ true
      go k same = rw same e

  pub scan_further : {n m : ℕ} → Scanned f xs n → m ≤ length xs → Pass f xs n m → Scanned f xs m
  scan_further s le p = record { within = le; passed = pass_both s.passed p }

-- a part that passes is a stretch that passes
pub pass_in_part : (f : ℕ → Bool) (xs : List ℕ) (n m : ℕ) → Pass f (take m (drop n xs)) 0 m → Pass f xs n (n + m)
pass_in_part f xs n m p = record { each = λ k le lt. go k le (omega arith) (p.each (k - n) (omega arith) (omega arith)) }
  where
    go : (k : ℕ) → n ≤ k → k - n < m → f (get_or (take m (drop n xs)) (k - n) 0) ≡ true → f (get_or xs k 0) ≡ true
    go k le lt e =
        let place : n + (k - n) ≡ k = omega arith in
        rw (get_or-take m (drop n xs) (k - n) 0 lt, get_or-drop n xs (k - n) 0, place) at e

-- a scan is over at the end, or at an element that does not pass
pub front_is : (f : ℕ → Bool) (xs : List ℕ) (n : ℕ) → Scanned f xs n → (n < length xs → f (get_or xs n 0) ≡ false) → n ≡ front f xs
unfolding front
front_is f [] n s stops = omega (arith, s.within)
front_is f (x ∷ xs) zero s stops = rw (stops (omega arith))
front_is f (x ∷ xs) (suc n) s stops =
    let rest : Scanned f xs n = record { within = omega (arith, s.within); passed = record { each = λ k le lt. s.passed.each (suc k) (omega arith) (omega arith) } } in
    rw (s.passed.each 0 (omega arith) (omega arith)) (ap suc (front_is f xs n rest (λ lt. stops (omega arith))))

-- a scan, and behind it the first place that does not pass
front_behind : (f : ℕ → Bool) (xs : List ℕ) (n : ℕ) → Scanned f xs n → n + position_or_len (λ x. not (f x)) (drop n xs) ≡ front f xs
front_behind f xs n s =
    let rest = drop n xs in
    let fails : ℕ → Bool = λ x. not (f x) in
    let m = position_or_len fails rest in
    let inside : m ≤ length rest = prefix_len-le-length (λ x. not (fails x)) rest in
    let long : length rest ≡ length xs - n = length-drop n xs in
    let passed : Pass f xs n (n + m) = pass_in_part f xs n m (record { each = λ k le lt. rw (get_or-take m rest k 0 lt) (not-false (f (get_or rest k 0)) (fails_before_first fails rest k 0 lt)) }) in
    let le = s.within in
    front_is f xs (n + m) (scan_further s (omega arith) passed) (λ lt. rw (get_or-drop n xs m 0) at (not-true (f (get_or rest m 0)) (passes_at_first fails rest 0 (omega arith))))

-- a place in a list, if it is one, else the list's length
or_else : (m long : ℕ) → m ≤ long → unwrap_or (cond (ltb m long) (Some m) None) long ≡ m
or_else m long le = go (dec_lt m long)
  where
    go : Dec (m < long) → unwrap_or (cond (ltb m long) (Some m) None) long ≡ m
    go (yes lt) = rw (lt-ltb m long lt)
    go (no ge) = rw (le-ltb m long (omega (arith, ge))) (omega (arith, ge))

pub front_found : (f : ℕ → Bool) (xs : List ℕ) (n : ℕ) → Scanned f xs n
    → let rest = drop n xs in let m = position_or_len (λ x. not (f x)) rest in n + unwrap_or (cond (ltb m (length rest)) (Some m) None) (length rest) ≡ front f xs
front_found f xs n s =
    let rest = drop n xs in
    rw (or_else (position_or_len (λ x. not (f x)) rest) (length rest) (prefix_len-le-length (λ x. not (not (f x))) rest)) (front_behind f xs n s)

pub front_within : (f : ℕ → Bool) (xs : List ℕ) → front f xs ≤ length xs
unfolding front
front_within f [] = omega arith
front_within f (x ∷ xs) = go (f x) (front_within f xs)
  where
    go : (t : Bool) → front f xs ≤ length xs → cond t (suc (front f xs)) 0 ≤ suc (length xs)
    go true h = omega arith
    go false h = omega arith

pub front_passes : (f : ℕ → Bool) (xs : List ℕ) (k : ℕ) → k < front f xs → f (get_or xs k 0) ≡ true
unfolding front
front_passes f [] k lt = absurd (omega arith)
front_passes f (x ∷ xs) k lt = go (f x) refl k lt (front_passes f xs)
  where
    go : (t : Bool) → f x ≡ t → (k : ℕ) → k < cond t (suc (front f xs)) 0 → ((j : ℕ) → j < front f xs → f (get_or xs j 0) ≡ true) → f (get_or (x ∷ xs) k 0) ≡ true
    go true e zero lt later = e
    go true e (suc j) lt later = later j (omega arith)
    go false e j lt later = absurd (omega arith)

-- as many elements as pass, where another test holds, else none
module _ (t : Bool) (f : ℕ → Bool) (xs : List ℕ) (n : ℕ) (e : n ≡ cond t (front f xs) 0) where
  pub chosen_within : n ≤ length xs
  chosen_within = rw e (go t)
    where
      go : (t : Bool) → cond t (front f xs) 0 ≤ length xs
      go true = front_within f xs
      go false = omega arith

  pub chosen_passes : (k : ℕ) → k < length (take n xs) → (t ≡ true) × (f (get_or (take n xs) k 0) ≡ true)
  chosen_passes k lt =
      let under : k < n = omega (arith, simp length-take at lt) in
      rw (get_or-take n xs k 0 under) (go t (rw e at under))
    where
      go : (t : Bool) → k < cond t (front f xs) 0 → (t ≡ true) × (f (get_or xs k 0) ≡ true)
      go true h = (refl, front_passes f xs k h)
      go false h = absurd (omega arith)
