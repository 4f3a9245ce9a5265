-- The marks of bytes with a text, the others 0.
use mathlib.Core.Path.{◌≡◌, refl, sym, ap, ◌∙◌}
use mathlib.Core.Bool.{Bool, true, false, cond}
use mathlib.Core.List.{List}
use Prim.Native.Nat.{ℕ, ◌+◌, ◌<◌, ◌≤◌}
use native.Mathlib.Omega.{arith}
use borrow.Author.Tests.{eq-eqb, eqb-true}
use lib.ListN.{length, get_or, set, length-set}
use lib.Seq.{ext_get_or}
use Rattle.std.proofs.Common.{◌≢◌, get_or-set_same, get_or-set_other, below_more}
use Rattle.lists.proofs.Paired.{paired_length, paired_at}
use Rattle.received_macros.specs.declared.Texts.{Texts}
use Rattle.received_macros.specs.Texts.{plain, entry_of}
use Rattle.received_macros.specs.Refinement.{view_texts}
use Rattle.received_macros.proofs.View.{unmarked_plain}
use Rattle.sent_macros.specs.declared.SendingTable.{SendingTable}
use Rattle.sent_macros.specs.Refinement.{status_from, has_text, kept_mark, kept_marks, kept_texts, CleanTable}

nothing_kept : (n : ℕ) → kept_mark 0 n ≡ 0
nothing_kept n = go (has_text (status_from n))
  where
    go : (b : Bool) → cond {A = ℕ} b 0 0 ≡ 0
    go true = refl
    go false = refl

module _ (marks numbers : List ℕ) where
  pub kept_at : (x : ℕ) → get_or (kept_marks marks numbers) x 0 ≡ kept_mark (get_or marks x 0) (get_or numbers x 0)
  kept_at x = paired_at kept_mark 0 0 0 nothing_kept marks numbers x

  pub kept_length : length (kept_marks marks numbers) ≡ length marks
  kept_length = paired_length kept_mark 0 marks numbers

  -- the marks up to x are those that are kept, the others as they were
  pub record KeptTo (x : ℕ) (items : List ℕ) : Type 0 where
    pub done : (k : ℕ) → k < x → get_or items k 0 ≡ get_or (kept_marks marks numbers) k 0
    pub left : (k : ℕ) → x ≤ k → get_or items k 0 ≡ get_or marks k 0
    pub long : length items ≡ length marks

  pub none_kept : KeptTo 0 marks
  none_kept = record { done = λ k h. absurd (omega arith); left = λ k h. refl; long = refl }

  pub kept_more : (x : ℕ) (items : List ℕ) → x < length marks → KeptTo x items → KeptTo (x + 1) (set items x (kept_mark (get_or items x 0) (get_or numbers x 0)))
  kept_more x items h t =
      let own : get_or (set items x (kept_mark (get_or items x 0) (get_or numbers x 0))) x 0 ≡ get_or (kept_marks marks numbers) x 0 =
      rw (get_or-set_same items x (kept_mark (get_or items x 0) (get_or numbers x 0)) 0 (omega (arith, t.long)), t.left x (omega arith), kept_at x) in
      record {
        done = below_more _ _ (λ k l. let other : k ≢ x = omega arith in rw get_or-set_other (t.done k l)) own;
        left = λ k l. let other : k ≢ x = omega arith in rw get_or-set_other (t.left k (omega arith));
        long = length-set items x (kept_mark (get_or items x 0) (get_or numbers x 0)) ∙ t.long;
      }

  pub all_kept : (items : List ℕ) → KeptTo (length marks) items → items ≡ kept_marks marks numbers
  all_kept items t = ext_get_or 0 items (kept_marks marks numbers) (t.long ∙ sym kept_length) (λ k h. t.done k (omega (arith, t.long)))

  -- where the marks of bytes without a text are 0, all are kept
  pub kept_same : ((x : ℕ) → has_text (status_from (get_or numbers x 0)) ≡ false → get_or marks x 0 ≡ 0) → kept_marks marks numbers ≡ marks
  kept_same h = ext_get_or 0 (kept_marks marks numbers) marks kept_length (λ x _. kept_at x ∙ go x (has_text (status_from (get_or numbers x 0))) refl)
    where
      go : (x : ℕ) (b : Bool) → has_text (status_from (get_or numbers x 0)) ≡ b → cond b (get_or marks x 0) 0 ≡ get_or marks x 0
      go x true e = refl
      go x false e = sym (h x e)

-- a byte without a text has none in the kept texts
pub kept_plain : (t : SendingTable) (x : ℕ) → has_text (status_from (get_or t.statuses x 0)) ≡ false → entry_of (view_texts (kept_texts t)) x ≡ plain
kept_plain t x e = unmarked_plain (kept_texts t) x (eq-eqb _ 0 (rw e at (kept_at t.texts.marks t.statuses x)))

-- all texts, where their marks are kept
abbrev pub with_marks : Texts → List ℕ → Texts
with_marks t marks = record { marks = marks; cells = t.cells }

pub kept_whole : (t : SendingTable) → ((x : ℕ) → has_text (status_from (get_or t.statuses x 0)) ≡ false → get_or t.texts.marks x 0 ≡ 0) → kept_texts t ≡ t.texts
kept_whole t h = ap (with_marks t.texts) (kept_same t.texts.marks t.statuses h)

pub kept_clean : (t : SendingTable) → CleanTable t → kept_texts t ≡ t.texts
kept_clean t clean = kept_whole t (λ x e. eqb-true (get_or t.texts.marks x 0) 0 (rw e at (clean.marked x)))
