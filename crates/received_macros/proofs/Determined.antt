-- Clean structs that stand for the same table are the same struct.
use mathlib.Core.Path.{◌≡◌, refl, sym, ap, ◌∙◌}
use mathlib.Core.Bool.{Bool, true, false, cond}
use mathlib.Core.List.{List, [], ◌∷◌}
use Prim.Native.Nat.{ℕ, suc, ◌+◌, ◌≤◌}
use native.Mathlib.Omega.{arith}
use borrow.Author.Tests.{eqb-true, eqb-false}
use lib.Dec.{eqb}
use lib.ListN.{length, get_or, take, drop, take-append-drop, length-drop}
use lib.Seq.{length-take-le, take-add}
use Rattle.lists.specs.Lists.{sum}
use Rattle.received_macros.specs.declared.Texts.{Texts}
use Rattle.received_macros.specs.Texts.{plain, text, text_room}
use Rattle.received_macros.specs.Refinement.{length_of, lengths, entry_at, entries, CleanDetermined}
use Rattle.received_macros.proofs.View.{view_within}

mark_back : (m : ℕ) → m ≤ 256 → (m ≡ 0 → ⊥) → m ≡ length_of m + 1
mark_back m h ne = omega arith

module _ (m n : ℕ) (cs ds : List ℕ) (m-most : m ≤ 256) (n-most : n ≤ 256) (m-room : length_of m ≤ length cs) (n_room : length_of n ≤ length ds) where
  same_mark : entry_at m cs ≡ entry_at n ds → m ≡ n
  same_mark = go (eqb m 0) (eqb n 0) refl refl
    where
      go : (a b : Bool) → eqb m 0 ≡ a → eqb n 0 ≡ b → cond a plain (text (take (length_of m) cs)) ≡ cond b plain (text (take (length_of n) ds)) → m ≡ n
      go true true p q e = omega (arith, eqb-true m 0 p, eqb-true n 0 q)
      go true false p q e = let z : ◌≡◌ {A = ℕ} 0 1 = cc in absurd (omega arith)
      go false true p q e = let z : ◌≡◌ {A = ℕ} 0 1 = cc in absurd (omega arith)
      go false false p q e =
          let texts : take (length_of m) cs ≡ take (length_of n) ds = cc in
          let long : length_of m ≡ length_of n = sym (length-take-le (length_of m) cs m-room) ∙ ap length texts ∙ length-take-le (length_of n) ds n_room in
          mark_back m m-most (eqb-false m 0 p) ∙ ap (λ (k : ℕ). k + 1) long ∙ sym (mark_back n n-most (eqb-false n 0 q))

  same_text : entry_at m cs ≡ entry_at n ds → take (length_of m) cs ≡ take (length_of n) ds
  same_text = go (eqb m 0) (eqb n 0) refl refl
    where
      go : (a b : Bool) → eqb m 0 ≡ a → eqb n 0 ≡ b → cond a plain (text (take (length_of m) cs)) ≡ cond b plain (text (take (length_of n) ds))
          → take (length_of m) cs ≡ take (length_of n) ds
      go true true p q e = rw (eqb-true m 0 p, eqb-true n 0 q)
      go true false p q e = let z : ◌≡◌ {A = ℕ} 0 1 = cc in absurd (omega arith)
      go false true p q e = let z : ◌≡◌ {A = ℕ} 0 1 = cc in absurd (omega arith)
      go false false p q e = cc

same_entries : (ms ns cs ds : List ℕ) → ((x : ℕ) → get_or ms x 0 ≤ 256) → ((x : ℕ) → get_or ns x 0 ≤ 256) → lengths ms ≤ length cs → lengths ns ≤ length ds
    → entries ms cs ≡ entries ns ds → (ms ≡ ns) × (take (lengths ms) cs ≡ take (lengths ns) ds)
unfolding entries sum
same_entries [] [] cs ds hm hn rm rn e = (refl, refl)
same_entries [] (n ∷ ns) cs ds hm hn rm rn e = let z : ◌≡◌ {A = ℕ} 0 1 = cc in absurd (omega arith)
same_entries (m ∷ ms) [] cs ds hm hn rm rn e = let z : ◌≡◌ {A = ℕ} 0 1 = cc in absurd (omega arith)
same_entries (m ∷ ms) (n ∷ ns) cs ds hm hn rm rn e =
    let here : entry_at m cs ≡ entry_at n ds = cc in
    let there : entries ms (drop (length_of m) cs) ≡ entries ns (drop (length_of n) ds) = cc in
    let left : lengths ms ≤ length (drop (length_of m) cs) = simp length-drop (omega arith) in
    let right : lengths ns ≤ length (drop (length_of n) ds) = simp length-drop (omega arith) in
    let rest = same_entries ms ns (drop (length_of m) cs) (drop (length_of n) ds) (λ x. hm (suc x)) (λ x. hn (suc x)) left right there in
    let mark : m ≡ n = same_mark m n cs ds (hm 0) (hn 0) (omega arith) (omega arith) here in
    let one = same_text m n cs ds (hm 0) (hn 0) (omega arith) (omega arith) here in
    (cc (mark, rest.0), rw (take-add (length_of m) (lengths ms) cs, take-add (length_of n) (lengths ns) ds, one, rest.1))

same_struct : (t r : Texts) → t.marks ≡ r.marks → t.cells ≡ r.cells → t ≡ r
same_struct t r p q = ap (λ (m : List ℕ). make m t.cells) p ∙ ap (λ (c : List ℕ). make r.marks c) q
  where
    make : List ℕ → List ℕ → Texts
    make m c = record { marks = m; cells = c }

pub clean_determined : CleanDetermined
clean_determined t r t-long r-long tc rc e =
    let t-room : lengths t.marks ≤ text_room = omega (arith, tc.cells.within) in
    let r-room : lengths r.marks ≤ text_room = omega (arith, rc.cells.within) in
    let tables : entries t.marks t.cells ≡ entries r.marks r.cells = sym (view_within t t-room) ∙ e ∙ view_within r r-room in
    let same = same_entries t.marks r.marks t.cells r.cells tc.marks rc.marks tc.cells.within rc.cells.within tables in
    let n = lengths t.marks in
    let k : n ≡ lengths r.marks = ap lengths same.0 in
    let tail : drop n t.cells ≡ drop (lengths r.marks) r.cells = rw (tc.cells.zeros, rc.cells.zeros, k, t-long, r-long) in
    same_struct t r same.0
    (sym (take-append-drop n t.cells) ∙ cc (same.1, tail) ∙ take-append-drop (lengths r.marks) r.cells)
