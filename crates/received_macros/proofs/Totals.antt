-- How long all texts are together, and a byte that stands for itself again.
use mathlib.Core.Path.{◌≡◌, refl, ◌∙◌}
use mathlib.Core.Bool.{Bool, true, false}
use mathlib.Core.List.{List, [], ◌∷◌, flat_map}
use Prim.Native.Nat.{ℕ, zero, suc, ◌≤◌, ◌<◌}
use native.Mathlib.Omega.{arith}
use borrow.Author.Tests.{ltb-true, ltb-false, le-ltb, eq-eqb}
use lib.Dec.{ltb}
use lib.ListN.{length, take, drop, replicate, length-replicate}
use lib.Seq.{take-add}
use Rattle.lists.specs.Lists.{sum}
use Rattle.lists.proofs.Sums.{sum-set, sum_zeros}
use Rattle.std.proofs.Common.{Ok, Err, Result}
use Rattle.std.specs.Result.{result_unwrap_or}
use Rattle.received_macros.specs.declared.Reason.{Reason}
use Rattle.received_macros.specs.declared.Texts.{Texts}
use Rattle.received_macros.specs.Texts.{plain, entry_length, total, text_room, defined, freed, judged_total}
use Rattle.received_macros.specs.Refinement.{length_of, lengths, entries, view_texts, text_of, Changed, RefinesDefined}
use Rattle.received_macros.proofs.Laws.{entries_length, entries_total}
use Rattle.received_macros.proofs.Marks.{text_at}
use Rattle.received_macros.proofs.View.{view_within, view_over}

module _ (t : Texts) where
  pub view_length : length t.marks ≡ 256 → length (view_texts t) ≡ 256
  view_length l = go (ltb text_room (lengths t.marks)) refl
    where
      go : (b : Bool) → ltb text_room (lengths t.marks) ≡ b → length (view_texts t) ≡ 256
      go true e = rw (view_over t (ltb-true text_room (lengths t.marks) e)) (length-replicate 256 plain)
      go false e = rw (view_within t (ltb-false text_room (lengths t.marks) e)) (entries_length t.marks t.cells ∙ l)

  pub total_over : text_room < lengths t.marks → total (view_texts t) ≡ 0
  unfolding total
  total_over over = rw (view_over t over) (sum_zeros entry_length 256 plain refl)

  module _ (long : length t.cells ≡ text_room) where
    pub total_within : lengths t.marks ≤ text_room → total (view_texts t) ≡ lengths t.marks
    total_within room = rw (view_within t room) (entries_total t.marks t.cells (omega arith))

    pub total_room : total (view_texts t) ≤ text_room
    total_room = go (ltb text_room (lengths t.marks)) refl
      where
        go : (b : Bool) → ltb text_room (lengths t.marks) ≡ b → total (view_texts t) ≤ text_room
        go true e = omega (arith, total_over (ltb-true text_room (lengths t.marks) e))
        go false e = omega (arith, total_within (ltb-false text_room (lengths t.marks) e), ltb-false text_room (lengths t.marks) e)

flat_map_plain : (n : ℕ) → flat_map text_of (replicate n plain) ≡ []
unfolding flat_map
flat_map_plain zero = refl
flat_map_plain (suc n) = flat_map_plain n

flat_map_entries : (marks cells : List ℕ) → flat_map text_of (entries marks cells) ≡ take (lengths marks) cells
unfolding flat_map entries sum
flat_map_entries [] cells = refl
flat_map_entries (m ∷ marks) cells =
    rw (take-add (length_of m) (lengths marks) cells, text_at m cells, flat_map_entries marks (drop (length_of m) cells))

-- the texts one behind the other are what the cells have of them
pub texts_flat_map : (t : Texts) → length t.cells ≡ text_room → flat_map text_of (view_texts t) ≡ take (total (view_texts t)) t.cells
texts_flat_map t long = go (ltb text_room (lengths t.marks)) refl
  where
    go : (b : Bool) → ltb text_room (lengths t.marks) ≡ b → flat_map text_of (view_texts t) ≡ take (total (view_texts t)) t.cells
    go true e =
        let over = ltb-true text_room (lengths t.marks) e in
        rw (total_over t over, view_over t over) (flat_map_plain 256)
    go false e =
        let room = ltb-false text_room (lengths t.marks) e in
        rw (total_within t long room, view_within t room) (flat_map_entries t.marks t.cells)

-- X defined as X alone is never refused
module _ (t : Texts) (x : ℕ) (long : length t.cells ≡ text_room) (byte : x < length (view_texts t)) where
  freed_is : defined (view_texts t) x (x ∷ []) ≡ freed (view_texts t) x
  unfolding defined freed
  freed_is = rw (eq-eqb x x refl)

  freed_total : total (freed (view_texts t) x) ≤ text_room
  unfolding total freed
  freed_total = omega (arith, sum-set entry_length (view_texts t) x plain plain byte, total_room t long)

  freed_judged : judged_total (view_texts t) x (x ∷ []) ≡ Ok tt
  freed_judged = rw (freed_is, le-ltb text_room (total (freed (view_texts t) x)) freed_total)

  pub freed_met : (r : Result Texts Reason) → RefinesDefined (judged_total (view_texts t) x (x ∷ [])) t x (x ∷ []) r → Changed (freed (view_texts t) x) t (result_unwrap_or r t)
  freed_met (Ok r) m = rw freed_is at m.1
  freed_met (Err reason) m = let z : ◌≡◌ {A = ℕ} 0 1 = cc freed_judged in absurd (omega arith)
