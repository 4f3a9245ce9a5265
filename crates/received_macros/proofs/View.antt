-- The table that a struct stands for.
use mathlib.Core.Path.{◌≡◌, refl, sym, ap, ◌∙◌}
use mathlib.Core.Bool.{Bool, true, false, not}
use mathlib.Core.List.{List, []}
use Prim.Native.Nat.{ℕ, ◌+◌, ◌-◌, ◌≤◌, ◌<◌}
use native.Mathlib.Omega.{arith}
use borrow.Author.Tests.{lt-ltb, le-ltb, le-leb, lt-leb, ltb-true, ltb-false, eq-eqb, ne_eqb, eqb-false}
use lib.Dec.{ltb, leb, eqb}
use lib.ListN.{length, get_or, take, drop, replicate}
use lib.Seq.{take_all}
use Rattle.lists.proofs.Sums.{sum_zeros, sum_around}
use Rattle.lists.proofs.Zeros.{clean_append}
use Rattle.lists.proofs.Lengths.{every_replicate}
use Rattle.lists.proofs.Uniform.{get_d_uniform}
use Rattle.received_macros.specs.declared.Texts.{Texts}
use Rattle.received_macros.specs.Texts.{Entry, plain, text, no_macros, entry_of, text_room}
use Rattle.received_macros.specs.Refinement.{length_of, lengths, entry_at, entries, view_texts, empty_cells, CleanTexts, Settled, UnmarkedPlain, is_unmarked, view_parts, is_text}
use Rattle.received_macros.proofs.Laws.{entries_none, entry_at_lem}

pub view_within : (t : Texts) → lengths t.marks ≤ text_room → view_texts t ≡ entries t.marks t.cells
unfolding view_texts
view_within t h = rw (le-ltb text_room (lengths t.marks) h)

pub view_over : (t : Texts) → text_room < lengths t.marks → view_texts t ≡ no_macros
unfolding view_texts
view_over t h = rw (lt-ltb text_room (lengths t.marks) h)

pub lengths_all : (marks : List ℕ) → length marks ≡ 256 → lengths (take 256 marks) ≡ lengths marks
lengths_all marks l = rw (take_all 256 marks (omega arith))

no_lengths : lengths empty_cells.marks ≡ 0
no_lengths = sum_zeros length_of 256 0 refl

pub empty_view : view_texts empty_cells ≡ no_macros
empty_view = rw (view_within empty_cells (omega (arith, no_lengths)), entries_none 256 (replicate text_room 0))

pub empty_clean : CleanTexts empty_cells
empty_clean = record { marks = every_replicate (λ (m : ℕ). m ≤ 256) 0 256 0 (omega arith) (omega arith); cells = rw no_lengths (clean_append [] 0 text_room refl) }

-- a table without macros stands for one whose texts pass the room
pub settled_over : (t : Texts) → text_room < lengths t.marks → Settled t empty_cells
settled_over t over =
    let room : lengths empty_cells.marks ≤ text_room = omega (arith, no_lengths) in
    record { room = room; table = view_over t over ∙ sym empty_view ∙ view_within empty_cells room; clean = λ _. empty_clean }

pub settled_within : (t : Texts) → lengths t.marks ≤ text_room → Settled t t
settled_within t h = record { room = h; table = view_within t h; clean = λ c. c }

-- whether a byte is defined: its mark is not 0, and the texts are within the room
module _ (t : Texts) (x : ℕ) where
  no_entry : text_room < lengths t.marks → entry_of (view_texts t) x ≡ plain
  no_entry over = rw (view_over t over) (get_d_uniform 256 x plain)

  the_entry : lengths t.marks ≤ text_room → entry_of (view_texts t) x ≡ entry_at (get_or t.marks x 0) (drop (lengths (take x t.marks)) t.cells)
  the_entry h = rw (view_within t h) (entry_at_lem t.marks t.cells x)

  unmarked : eqb (get_or t.marks x 0) 0 ≡ true → entry_of (view_texts t) x ≡ plain
  unmarked e = go (ltb text_room (lengths t.marks)) refl
    where
      go : (b : Bool) → ltb text_room (lengths t.marks) ≡ b → entry_of (view_texts t) x ≡ plain
      go true over = no_entry (ltb-true text_room (lengths t.marks) over)
      go false over = rw (the_entry (ltb-false text_room (lengths t.marks) over), e)

  pub marked_within : (get_or t.marks x 0 ≡ 0 → ⊥) → leb (lengths t.marks) text_room ≡ is_text (entry_of (view_texts t) x)
  marked_within e = go (ltb text_room (lengths t.marks)) refl
    where
      go : (b : Bool) → ltb text_room (lengths t.marks) ≡ b → leb (lengths t.marks) text_room ≡ is_text (entry_of (view_texts t) x)
      go true over = rw (no_entry (ltb-true text_room (lengths t.marks) over)) (lt-leb (lengths t.marks) text_room (ltb-true text_room (lengths t.marks) over))
      go false over = rw (the_entry (ltb-false text_room (lengths t.marks) over), ne_eqb (get_or t.marks x 0) 0 e) (le-leb (lengths t.marks) text_room (ltb-false text_room (lengths t.marks) over))

  -- where the texts are within the room, just the bytes that are not defined have no mark
  pub unmarked_exactly : lengths t.marks ≤ text_room → is_unmarked t.marks x ≡ not (is_text (entry_of (view_texts t) x))
  unmarked_exactly room = go (eqb (get_or t.marks x 0) 0) refl
    where
      go : (b : Bool) → eqb (get_or t.marks x 0) 0 ≡ b → b ≡ not (is_text (entry_of (view_texts t) x))
      go true e = rw (unmarked e)
      go false e = ap not (sym (le-leb (lengths t.marks) text_room room) ∙ marked_within (eqb-false (get_or t.marks x 0) 0 e))

pub unmarked_plain : UnmarkedPlain
unmarked_plain t x e = unmarked t x e

-- where the text of a byte lies, by its mark and the texts before it
module _ (marks cells : List ℕ) (x : ℕ) where
  abbrev entry_in : Entry
  entry_in = entry_of (view_parts marks cells) x

  pub none_unmarked : get_or marks x 0 ≡ 0 → entry_in ≡ plain
  none_unmarked e = unmarked (record { marks = marks; cells = cells }) x (eq-eqb (get_or marks x 0) 0 e)

  pub none_over : length marks ≡ 256 → text_room < lengths (take 256 marks) → entry_in ≡ plain
  none_over l over = no_entry (record { marks = marks; cells = cells }) x (rw (lengths_all marks l) at over)

  module _ (ne : get_or marks x 0 ≡ 0 → ⊥) (l : length marks ≡ 256) (within : lengths (take 256 marks) ≤ text_room) (byte : x < 256) where
    pub text_within : lengths (take x marks) + length_of (get_or marks x 0) ≤ text_room
    text_within = omega (arith, lengths_all marks l, sum_around length_of marks x 0 (omega arith))

    pub some_text : (start len : ℕ) → start ≡ lengths (take x marks) → len ≡ length_of (get_or marks x 0)
        → entry_in ≡ text (take (start + len - start) (drop start cells))
    some_text start len start_is len_is =
        let cut : start + len - start ≡ len = omega arith in
        rw (cut, start_is, len_is, the_entry (record { marks = marks; cells = cells }) x (rw (lengths_all marks l) at within), ne_eqb (get_or marks x 0) 0 ne)
