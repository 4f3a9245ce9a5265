-- A byte's status and its text changed together.
use mathlib.Core.Path.{◌≡◌, sym, ap, ◌∙◌}
use mathlib.Core.Bool.{true, false, not, false≢true}
use mathlib.Core.List.{List}
use Prim.Native.Nat.{ℕ, ◌<◌, ◌≤◌}
use native.Mathlib.Omega.{arith}
use borrow.Author.Tests.{eqb-true}
use lib.Dec.{eqb}
use lib.ListN.{length, get_or, set}
use lib.Seq.{set-get_or}
use Rattle.lists.specs.Lists.{paired}
use Rattle.lists.proofs.Lengths.{every_set}
use Rattle.lists.proofs.Paired.{paired_set, every_set_both}
use Rattle.received_macros.specs.declared.Texts.{Texts}
use Rattle.received_macros.specs.Texts.{Entry, plain, entry_of, text_room}
use Rattle.received_macros.specs.Refinement.{lengths, view_texts, is_text, is_unmarked, text_of, Changed}
use Rattle.received_macros.proofs.View.{unmarked_exactly}
use Rattle.received_macros.proofs.Totals.{view_length}
use Rattle.sent_macros.specs.declared.Status.{Status}
use Rattle.sent_macros.specs.declared.SendingTable.{SendingTable}
use Rattle.sent_macros.specs.Sending.{status_number}
use Rattle.sent_macros.specs.Refinement.{status_from, sent_as, has_text, kept_mark, kept_marks, kept_texts, sent_by, view_table, CleanTable, WholeTable, RefinesTable, restated}
use Rattle.sent_macros.proofs.Numbers.{from_number, number_most}
use Rattle.sent_macros.proofs.Keeping.{kept_at, kept_length, kept_plain, kept_whole, kept_clean, with_marks}

-- only a byte whose status says so has a text
abbrev pub TextOnly : ℕ → Entry → Type 0
TextOnly n e = has_text (status_from n) ≡ false → is_text e ≡ false

kept_only : (t : SendingTable) (y : ℕ) → TextOnly (get_or t.statuses y 0) (entry_of (view_texts (kept_texts t)) y)
kept_only t y h = rw (kept_plain t y h)

only_as : (s : Status) (e : Entry) → is_text e ≡ has_text s → TextOnly (status_number s) e
only_as s e fits h = fits ∙ rw (from_number s) at h

-- just the bytes whose status says so have a text
abbrev Exact : ℕ → Entry → Type 0
Exact n e = not (is_text e) ≡ not (has_text (status_from n))

clean_room : (t : SendingTable) → WholeTable t → CleanTable t → lengths t.texts.marks ≤ text_room
clean_room t whole clean = omega (arith, clean.texts.cells.within, whole.cells)

pub clean_exact : (t : SendingTable) → WholeTable t → CleanTable t → (y : ℕ) → Exact (get_or t.statuses y 0) (entry_of (view_texts (kept_texts t)) y)
clean_exact t whole clean y = rw (kept_clean t clean) (sym (unmarked_exactly t.texts y (clean_room t whole clean)) ∙ clean.marked y)

pub view_long : (t : SendingTable) → WholeTable t → length (view_texts (kept_texts t)) ≡ 256
view_long t whole = view_length (kept_texts t) (kept_length t.texts.marks t.statuses ∙ whole.marks)

module _ (t : SendingTable) (whole : WholeTable t) (x : ℕ) (byte : x < 256) (s : Status) where
  byte_status : x < length t.statuses
  byte_status = omega (arith, whole.statuses)

  byte_entry : x < length (view_texts (kept_texts t))
  byte_entry = omega (arith, view_long t whole)

  new_numbers : CleanTable t → (y : ℕ) → get_or (set t.statuses x (status_number s)) y 0 ≤ 4
  new_numbers clean = every_set (λ (n : ℕ). n ≤ 4) 0 t.statuses x (status_number s) (number_most s) clean.numbers

  module _ (e : Entry) where
    pub paired_changed : paired sent_by plain (set t.statuses x (status_number s)) (set (view_texts (kept_texts t)) x e) ≡ set (view_table t) x (sent_as s (text_of e))
    unfolding view_table
    paired_changed = rw (paired_set sent_by plain t.statuses (view_texts (kept_texts t)) x (status_number s) e byte_entry, from_number s)

    module _ (fits : is_text e ≡ has_text s) where
      pub changed_only : (y : ℕ) → TextOnly (get_or (set t.statuses x (status_number s)) y 0) (get_or (set (view_texts (kept_texts t)) x e) y plain)
      changed_only =
          every_set_both TextOnly 0 plain t.statuses (view_texts (kept_texts t)) x (status_number s) e byte_status byte_entry (only_as s e fits) (kept_only t)

      changed_exact : CleanTable t → (y : ℕ) → Exact (get_or (set t.statuses x (status_number s)) y 0) (get_or (set (view_texts (kept_texts t)) x e) y plain)
      changed_exact clean =
          every_set_both Exact 0 plain t.statuses (view_texts (kept_texts t)) x (status_number s) e byte_status byte_entry
          (rw (from_number s) (ap not fits)) (clean_exact t whole clean)

      module _ (texts : Texts) (changed : Changed (set (view_texts (kept_texts t)) x e) (kept_texts t) texts) where
        unmarked_new : (y : ℕ) → is_unmarked texts.marks y ≡ not (is_text (get_or (set (view_texts (kept_texts t)) x e) y plain))
        unmarked_new y = rw (← changed.view) (unmarked_exactly texts y changed.room)

        kept_new : kept_texts (restated t x texts s) ≡ texts
        kept_new = kept_whole (restated t x texts s) (λ y h. eqb-true (get_or texts.marks y 0) 0 (unmarked_new y ∙ ap not (changed_only y h)))

        view_new : view_table (restated t x texts s) ≡ set (view_table t) x (sent_as s (text_of e))
        unfolding view_table
        view_new = ap (paired sent_by plain (set t.statuses x (status_number s))) (ap view_texts kept_new ∙ changed.view) ∙ paired_changed

        clean_new : CleanTable t → CleanTable (restated t x texts s)
        clean_new clean = record {
          numbers = new_numbers clean;
          marked = λ y. unmarked_new y ∙ changed_exact clean y;
          texts = changed.clean (rw (kept_clean t clean) clean.texts);
        }

        -- the table with another status of X, and with its entry for X
        pub restated_met : RefinesTable (set (view_table t) x (sent_as s (text_of e))) true t (restated t x texts s)
        restated_met = record { view = view_new; clean = clean_new; same = λ h. absurd (false≢true (sym h)) }

  -- another status that has a text just if the old one has: the texts stay as they are
  module _ (alike : has_text s ≡ has_text (status_from (get_or t.statuses x 0))) where
    abbrev marks : List ℕ
    marks = t.texts.marks

    abbrev old_entry : Entry
    old_entry = entry_of (view_texts (kept_texts t)) x

    same_mark : kept_mark (get_or marks x 0) (status_number s) ≡ get_or (kept_marks marks t.statuses) x 0
    same_mark = rw (from_number s, alike) (sym (kept_at marks t.statuses x))

    same_marks : kept_marks marks (set t.statuses x (status_number s)) ≡ kept_marks marks t.statuses
    same_marks =
        ap (λ (l : List ℕ). kept_marks l (set t.statuses x (status_number s))) (sym (set-get_or marks x 0))
        ∙ paired_set kept_mark 0 marks t.statuses x (get_or marks x 0) (status_number s) byte_status
        ∙ ap (set (kept_marks marks t.statuses) x) same_mark
        ∙ set-get_or (kept_marks marks t.statuses) x 0

    view_same : view_table (restated t x t.texts s) ≡ set (view_table t) x (sent_as s (text_of old_entry))
    unfolding view_table
    view_same =
        ap (paired sent_by plain (set t.statuses x (status_number s)))
        (ap (λ (l : List ℕ). view_texts (with_marks t.texts l)) same_marks ∙ sym (set-get_or (view_texts (kept_texts t)) x plain))
        ∙ paired_changed old_entry

    clean_same : CleanTable t → CleanTable (restated t x t.texts s)
    clean_same clean =
        let P : ℕ → ℕ → Type 0 = λ n m. eqb m 0 ≡ not (has_text (status_from n)) in
        let byte-mark : x < length marks = omega (arith, whole.marks) in
        let here : P (status_number s) (get_or marks x 0) = rw (from_number s, alike) (clean.marked x) in
        let all = every_set_both P 0 0 t.statuses marks x (status_number s) (get_or marks x 0) byte_status byte-mark here clean.marked in
        record {
          numbers = new_numbers clean;
          marked = λ y. rw (set-get_or marks x 0) at (all y);
          texts = clean.texts;
        }

    pub status_met : RefinesTable (set (view_table t) x (sent_as s (text_of old_entry))) true t (restated t x t.texts s)
    status_met = record { view = view_same; clean = clean_same; same = λ h. absurd (false≢true (sym h)) }
