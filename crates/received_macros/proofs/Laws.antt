-- Laws on packed texts.
use mathlib.Core.Path.{◌≡◌, refl, sym, ap}
use mathlib.Core.Bool.{Bool, true, false, cond}
use mathlib.Core.List.{List, [], ◌∷◌, ◌++◌, append_assoc}
use Prim.Native.Nat.{ℕ, zero, suc, ◌+◌, ◌≤◌, ◌<◌}
use native.Mathlib.Omega.{arith}
use borrow.Author.Tests.{eqb-true}
use lib.Dec.{eqb}
use lib.ListN.{length, get_or, take, drop, set, replicate, take-append-drop, length-take, length-drop}
use lib.Seq.{drop-drop, take-append-le, drop-append-le, take_at, drop_at, take-length}
use Rattle.lists.specs.Lists.{sum}
use Rattle.received_macros.specs.Texts.{Entry, plain, text, entry_length, total, entry_of}
use Rattle.received_macros.specs.Refinement.{length_of, lengths, entry_at, entries}

pub entries_length : (marks cells : List ℕ) → length (entries marks cells) ≡ length marks
unfolding entries
entries_length [] cells = refl
entries_length (m ∷ marks) cells = ap suc (entries_length marks (drop (length_of m) cells))

-- no byte is defined where every mark is 0
pub entries_none : (n : ℕ) (cells : List ℕ) → entries (replicate n 0) cells ≡ replicate n plain
unfolding entries
entries_none zero cells = refl
entries_none (suc n) cells = ap (λ (t : List Entry). plain ∷ t) (entries_none n cells)

-- a byte's entry begins behind the texts before it
pub entry_at_lem : (marks cells : List ℕ) (x : ℕ) → entry_of (entries marks cells) x ≡ entry_at (get_or marks x 0) (drop (lengths (take x marks)) cells)
unfolding entries sum
entry_at_lem [] cells x = refl
entry_at_lem (m ∷ marks) cells zero = refl
entry_at_lem (m ∷ marks) cells (suc x) = rw (← drop-drop (lengths (take x marks)) (length_of m) cells) (entry_at_lem marks (drop (length_of m) cells) x)

pub entries_append : (ms ns cells : List ℕ) → entries (ms ++ ns) cells ≡ entries ms cells ++ entries ns (drop (lengths ms) cells)
unfolding entries sum
entries_append [] ns cells = refl
entries_append (m ∷ ms) ns cells =
    rw (← drop-drop (lengths ms) (length_of m) cells)
    (ap (λ (t : List Entry). entry_at m cells ∷ t) (entries_append ms ns (drop (length_of m) cells)))

-- what stands behind the texts does not matter
pub entries_front : (marks cells more : List ℕ) → lengths marks ≤ length cells → entries marks (cells ++ more) ≡ entries marks cells
unfolding entries sum
entries_front [] cells more h = refl
entries_front (m ∷ marks) cells more h =
    let here : length_of m ≤ length cells = omega arith in
    let rest : lengths marks ≤ length (drop (length_of m) cells) = simp length-drop (omega arith) in
    rw (take-append-le (length_of m) cells more here, drop-append-le (length_of m) cells more here, entries_front marks (drop (length_of m) cells) more rest)

pub entry_length_lem : (mark : ℕ) (cells : List ℕ) → length_of mark ≤ length cells → entry_length (entry_at mark cells) ≡ length_of mark
entry_length_lem mark cells h = go (eqb mark 0) refl
  where
    go : (b : Bool) → eqb mark 0 ≡ b → entry_length (cond b plain (text (take (length_of mark) cells))) ≡ length_of mark
    go true e = omega (arith, eqb-true mark 0 e)
    go false e = simp length-take (omega arith)

pub entries_total : (marks cells : List ℕ) → lengths marks ≤ length cells → total (entries marks cells) ≡ lengths marks
unfolding entries sum total
entries_total [] cells h = refl
entries_total (m ∷ marks) cells h =
    let rest : lengths marks ≤ length (drop (length_of m) cells) = simp length-drop (omega arith) in
    omega (arith, entry_length_lem m cells (omega arith), entries_total marks (drop (length_of m) cells) rest)

entries_within : (marks cells : List ℕ) → lengths marks ≤ length cells → entries marks (take (lengths marks) cells) ≡ entries marks cells
entries_within marks cells h =
    let long : lengths marks ≤ length (take (lengths marks) cells) = simp length-take (omega arith) in
    sym (rw take-append-drop at (entries_front marks (take (lengths marks) cells) (drop (lengths marks) cells) long))

-- the text of one byte replaced, between the texts of the bytes before it and of those behind it
module _ (front back cells s : List ℕ) (old mark : ℕ)
    (room : lengths front + length_of old + lengths back ≤ length cells) (same : length_of mark ≡ length s) where
  behind : (more : List ℕ)
      → entries (mark ∷ back) (s ++ (take (lengths back) (drop (lengths front + length_of old) cells) ++ more))
      ≡ entry_at mark s ∷ entries back (drop (lengths front + length_of old) cells)
  unfolding entries
  behind more =
      let rest = drop (lengths front + length_of old) cells in
      let kept : lengths back ≤ length rest = simp length-drop (omega arith) in
      let long : lengths back ≤ length (take (lengths back) rest) = simp length-take (omega arith) in
      let all : take (length s) s ≡ s = take-length s in
      rw (
        same,
        take_at s (take (lengths back) rest ++ more) (length s) refl,
        drop_at s (take (lengths back) rest ++ more) (length s) refl,
        all,
        entries_front back (take (lengths back) rest) more long,
        entries_within back rest kept,
      )

  pub entries_changed : (more : List ℕ)
      → entries (front ++ mark ∷ back) (take (lengths front) cells ++ s ++ take (lengths back) (drop (lengths front + length_of old) cells) ++ more)
      ≡ entries front cells ++ entry_at mark s ∷ entries back (drop (lengths front + length_of old) cells)
  entries_changed more =
      let head = take (lengths front) cells in
      let mid = take (lengths back) (drop (lengths front + length_of old) cells) in
      let long : length head ≡ lengths front = simp length-take (omega arith) in
      rw (
        entries_append front (mark ∷ back),
        append_assoc (head ++ s) mid more,
        append_assoc head s (mid ++ more),
        drop_at head (s ++ (mid ++ more)) (lengths front) long,
        entries_front front head (s ++ (mid ++ more)) (omega arith),
        entries_within front cells (omega arith),
        behind more,
      )

-- an entry replaced
pub entries_set : (marks cells : List ℕ) (x : ℕ) (e : Entry) → x < length marks
    → set (entries marks cells) x e
    ≡ entries (take x marks) cells ++ e ∷ entries (drop (suc x) marks) (drop (lengths (take x marks) + length_of (get_or marks x 0)) cells)
unfolding entries sum
entries_set [] cells x e h = absurd (omega arith)
entries_set (m ∷ marks) cells zero e h =
    let z : 0 + length_of m ≡ length_of m = omega arith in
    rw z
entries_set (m ∷ marks) cells (suc x) e h =
    let before = lengths (take x marks) in
    let here = length_of (get_or marks x 0) in
    let sum3 : length_of m + before + here ≡ length_of m + (before + here) = omega arith in
    rw (sum3, ← drop-drop (before + here) (length_of m) cells)
    (ap (λ (t : List Entry). entry_at m cells ∷ t) (entries_set marks (drop (length_of m) cells) x e (omega arith)))
