-- The arrays of the state: how many keys wait, which are left, and that the cells behind them are 0.
use mathlib.Core.Path.{◌≡◌, refl, sym}
use mathlib.Core.Bool.{Bool, true, false}
use mathlib.Core.List.{List, [], ◌∷◌, ◌++◌, map, map-append}
use Prim.Native.Nat.{ℕ, suc, ◌+◌, ◌-◌, ◌≤◌, ◌<◌, min}
use native.Mathlib.Numerals.{add-one}
use native.Mathlib.Omega.{arith}
use lib.ListN.{length, take, drop, set, get_or, replicate, length-map, length-take, length-drop}
use lib.Seq.{take_at, drop-cons}
use lib.Dec.{leb}
use borrow.Author.Tests.{le-leb, lt-leb, leb-true, leb-false}
use Rattle.lists.specs.Buffers.{Clean}
use Rattle.lists.proofs.Copying.{map-drop, drop_capped}
use Rattle.lists.proofs.Appended.{appended, clean_appended}
use Rattle.lists.proofs.Zeros.{clean_append}
use Rattle.lists.proofs.Lengths.{every_set, every_append, every_replicate, every_take, every_drop}
use Rattle.keys.specs.declared.Key.{Key}
use Rattle.keys.specs.Refinement.{key_number, key_of_number}
use Rattle.rcte.specs.declared.Rcte.{Rcte}
use Rattle.rcte.specs.Refinement.{keys_in, numbers_in, waiting_in, Numbered}

-- the next of the waiting keys
pub next_key : (numbers : List ℕ) (i : ℕ) → i < length numbers
    → drop i (map key_of_number numbers) ≡ key_of_number (get_or numbers i 0) ∷ drop (i + 1) (map key_of_number numbers)
next_key numbers i h =
    rw (← map-drop key_of_number i numbers, drop-cons numbers i 0, map-drop key_of_number (suc i) numbers, add-one i)

module _ (cells : List ℕ) (n : ℕ) (l : length cells ≡ 256) where
  pub count_of : length (keys_in cells n) ≡ min n 256
  count_of = simp (length-map, length-take) (omega arith)

  pub full : leb 256 n ≡ leb 256 (length (keys_in cells n))
  full = go (leb 256 n) refl
    where
      go : (b : Bool) → leb 256 n ≡ b → b ≡ leb 256 (length (keys_in cells n))
      go true e = sym (le-leb 256 (length (keys_in cells n)) (omega (arith, count_of, leb-true 256 n e)))
      go false e = sym (lt-leb 256 (length (keys_in cells n)) (omega (arith, count_of, leb-false 256 n e)))

  -- a key put behind those that wait
  pub queued_keys : (p : ℕ) (k : Key) → n < 256 → key_of_number p ≡ k → keys_in (set cells n p) (n + 1) ≡ keys_in cells n ++ k ∷ []
  queued_keys p k free e =
      let inside : n < length cells = omega arith in
      let m : min n 256 ≡ n = omega arith in
      rw (appended cells n p inside 256 l, m, map-append key_of_number (take n cells) (p ∷ []), e)

  pub queued_clean : (p : ℕ) → n < 256 → Clean cells n → Clean (set cells n p) (n + 1)
  queued_clean p free clean =
      let inside : n < length cells = omega arith in
      clean_appended cells n p inside clean

-- a cell that has the number of the key that it is read as
abbrev IsNumber : ℕ → Type 0
IsNumber n = key_number (key_of_number n) ≡ n

zero_number : IsNumber 0
unfolding key_of_number
zero_number = refl

pub no_numbers : (n : ℕ) → Numbered (replicate n 0)
no_numbers n = every_replicate IsNumber 0 n 0 zero_number zero_number

-- the cells with the numbers that are left in front
module _ (e : Rcte) (numbers rest : List ℕ) (at t : ℕ) (l : length e.waiting ≡ 256) (of : numbers ≡ numbers_in e)
    (to : t ≡ min at (length numbers)) (is : rest ≡ drop t numbers) where
  pub within : length rest ≤ 256
  within = rw (is, of) (simp (length-drop, length-take) (omega arith))

  pub left_keys : keys_in (rest ++ replicate (256 - length rest) 0) (length rest) ≡ drop at (waiting_in e)
  left_keys =
      let whole : min (length rest) 256 ≡ length rest = omega (arith, within) in
      let same : drop t (waiting_in e) ≡ drop at (waiting_in e) = drop_capped t at (waiting_in e) (rw to (simp length-map (rw of))) in
      rw (whole, take_at rest (replicate (256 - length rest) 0) (length rest) refl, is, of, map-drop key_of_number t (numbers_in e), same)

  pub left_clean : Clean (rest ++ replicate (256 - length rest) 0) (length rest)
  left_clean = clean_append rest (length rest) (256 - length rest) refl

  pub left_numbers : Numbered e.waiting → Numbered (rest ++ replicate (256 - length rest) 0)
  left_numbers h =
      rw (is, of)
      (every_append IsNumber 0 (drop t (numbers_in e)) (replicate (256 - length (drop t (numbers_in e))) 0)
      (every_drop IsNumber 0 t (numbers_in e) (every_take IsNumber 0 zero_number (min e.count 256) e.waiting h))
      (no_numbers (256 - length (drop t (numbers_in e)))))

pub queued_numbers : (cells : List ℕ) (n p : ℕ) → key_number (key_of_number p) ≡ p → Numbered cells → Numbered (set cells n p)
queued_numbers cells n p e h = every_set IsNumber 0 cells n p e h

-- the gathered bytes
module _ (cells : List ℕ) (filled : ℕ) (l : length cells ≡ 512) where
  pub gathered_long : length (take (min filled 512) cells) ≡ min filled 512
  gathered_long = simp length-take (omega arith)

  -- a count within the array is the count of cells in use
  pub clean_within : Clean cells filled → min filled 512 ≡ filled
  clean_within clean = omega (arith, clean.within)
