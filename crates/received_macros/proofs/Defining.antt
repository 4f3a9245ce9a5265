-- A DEFINE that is judged by its size alone: the sizes, and the table that it leaves.
use mathlib.Core.Path.{◌≡◌, sym, ◌∙◌}
use mathlib.Core.List.{List, ◌++◌}
use Prim.Native.Nat.{ℕ, suc, ◌+◌, ◌-◌, ◌≤◌, ◌<◌}
use native.Mathlib.Omega.{arith}
use borrow.Author.Tests.{lt-ltb, le-ltb}
use lib.ListN.{length, get_or, take, drop, set, replicate, length-append, length-take, length-drop}
use lib.Seq.{set_split}
use Rattle.lists.proofs.Sums.{sum_around, sum-set}
use Rattle.lists.proofs.Zeros.{clean_append}
use Rattle.lists.proofs.Lengths.{every_set}
use Rattle.received_macros.specs.declared.Reason.TheVariants.{TooLong}
use Rattle.std.proofs.Common.{Ok, Err}
use Rattle.received_macros.specs.declared.Texts.{Texts}
use Rattle.received_macros.specs.Texts.{plain, entry_length, entry_of, entry_for, total, text_room, defined, judged_total}
use Rattle.received_macros.specs.Refinement.{length_of, lengths, entries, view_texts, CleanTexts, Settled, Changed, mark_for, cells_with, RefinesDefined}
use Rattle.received_macros.proofs.Laws.{entries_length, entry_at_lem, entry_length_lem, entries_total, entries_changed, entries_set}
use Rattle.received_macros.proofs.Marks.{marked}
use Rattle.received_macros.proofs.View.{view_within, lengths_all}

module _ (t r : Texts) (x : ℕ) (s : List ℕ) (settled : Settled t r) (cells_long : length r.cells ≡ text_room)
    (byte : x < length r.marks) (short : length s ≤ 255) where
  abbrev mark : ℕ
  mark = mark_for x s

  abbrev start : ℕ
  start = lengths (take x r.marks)

  abbrev old : ℕ
  old = length_of (get_or r.marks x 0)

  abbrev part : List ℕ
  part = take (length_of mark) s

  fits : start + old + lengths (drop (suc x) r.marks) ≡ lengths r.marks
  fits = sym (sum_around length_of r.marks x 0 byte)

  -- the total of the texts, the new one in place of the old
  pub new_total : total (defined (view_texts t) x s) ≡ lengths r.marks - old + length_of mark
  unfolding total defined
  new_total =
      let es = entries r.marks r.cells in
      let inside : x < length es = rw entries_length byte in
      let change = sum-set entry_length es x (entry_for x s) plain inside in
      let before : total es ≡ lengths r.marks = entries_total r.marks r.cells (omega (arith, settled.room)) in
      let room : old ≤ length (drop start r.cells) = simp length-drop (omega (arith, settled.room, fits)) in
      let here : entry_length (entry_of es x) ≡ old = rw entry_at_lem (entry_length_lem (get_or r.marks x 0) (drop start r.cells) room) in
      rw settled.table (omega (arith, change, before, here, (marked x s short).long, fits))

  pub too_long : text_room < lengths r.marks - old + length_of mark → judged_total (view_texts t) x s ≡ Err TooLong
  too_long over = rw (lt-ltb text_room (total (defined (view_texts t) x s)) (omega (arith, new_total)))

  abbrev changed : Texts
  changed = record { marks = set r.marks x mark; cells = cells_with r.cells start (start + old) (lengths r.marks) part }

  part_long : length part ≡ length_of mark
  part_long = simp length-take (omega (arith, (marked x s short).within))

  changed_lengths : lengths changed.marks ≡ lengths r.marks - old + length_of mark
  changed_lengths = omega (arith, sum-set length_of r.marks x mark 0 byte, fits)

  changed_view : lengths changed.marks ≤ text_room → view_texts changed ≡ defined (view_texts t) x s
  unfolding defined cells_with
  changed_view room =
      let back = drop (suc x) r.marks in
      let all : start + old + lengths back ≤ length r.cells = omega (arith, settled.room, fits) in
      let rest : lengths r.marks - (start + old) ≡ lengths back = omega (arith, fits) in
      let zeros : List ℕ = replicate (text_room - (start + length part + lengths back)) 0 in
      rw (
        view_within changed room,
        settled.table,
        entries_set r.marks r.cells x (entry_for x s) byte,
        set_split r.marks x mark byte,
        rest,
        ← (marked x s short).entry,
      )
      (entries_changed (take x r.marks) back r.cells part (get_or r.marks x 0) mark all (sym part_long) zeros)

  changed_clean : lengths changed.marks ≤ text_room → CleanTexts t → CleanTexts changed
  unfolding cells_with
  changed_clean room clean =
      let rest = lengths r.marks - (start + old) in
      let mid = take rest (drop (start + old) r.cells) in
      let head-long : length (take start r.cells) ≡ start = simp length-take (omega (arith, settled.room, fits)) in
      let mid-long : length mid ≡ rest = simp (length-take, length-drop) (omega (arith, settled.room)) in
      let long : length (take start r.cells ++ part ++ mid) ≡ lengths changed.marks =
      rw (length-append, length-append, head-long, mid-long, part_long) (omega (arith, fits, changed_lengths)) in
      record {
        marks = every_set (λ (m : ℕ). m ≤ 256) 0 r.marks x mark (marked x s short).most (settled.clean clean).marks;
        cells = clean_append (take start r.cells ++ part ++ mid) (lengths changed.marks) (text_room - (start + length part + rest)) long;
      }

  pub accepted : lengths r.marks - old + length_of mark ≤ text_room
      → (judged_total (view_texts t) x s ≡ Ok tt) × Changed (defined (view_texts t) x s) t changed
  accepted room =
      let within : lengths changed.marks ≤ text_room = omega (arith, changed_lengths) in (
        rw (le-ltb text_room (total (defined (view_texts t) x s)) (omega (arith, new_total))),
        record { room = within; view = changed_view within; clean = changed_clean within },
      )

-- the numbers as the code has them
pub record Sizes (t r : Texts) (x : ℕ) (s : List ℕ) (old mark len last start : ℕ) : Type 0 where
  pub settled : Settled t r
  pub cells_long : length r.cells ≡ text_room
  pub byte : x < length r.marks
  pub short : length s ≤ 255
  pub old_is : old ≡ length_of (get_or r.marks x 0)
  pub mark_is : mark ≡ mark_for x s
  pub len_is : len ≡ length_of mark
  pub last_is : last ≡ lengths r.marks
  pub start_is : start ≡ lengths (take x r.marks)

pub sizes : {t r : Texts} {x : ℕ} {s : List ℕ} {old mark len last start : ℕ} → Settled t r → length r.marks ≡ 256 → length r.cells ≡ text_room → x < 256 → length s ≤ 255
    → old ≡ length_of (get_or r.marks x 0) → mark ≡ mark_for x s → len ≡ length_of mark → last ≡ lengths (take 256 r.marks) → start ≡ lengths (take x r.marks)
    → Sizes t r x s old mark len last start
sizes {r = r} settled l k byte short old_is mark_is len_is last_is start_is = record {
  settled = settled;
  cells_long = k;
  byte = omega arith;
  short = short;
  old_is = old_is;
  mark_is = mark_is;
  len_is = len_is;
  last_is = last_is ∙ lengths_all r.marks l;
  start_is = start_is;
}

-- the bounds of the copies
pub record Bounded (s : List ℕ) (old len last start : ℕ) : Type 0 where
  pub inside : start + old ≤ last
  pub room : last ≤ text_room
  pub part : len ≤ length s

module _ {t r : Texts} {x : ℕ} {s : List ℕ} {old mark len last start : ℕ} (z : Sizes t r x s old mark len last start) where
  pub bounded : Bounded s old len last start
  bounded =
      let m : mark ≡ mark_for x s = z.mark_is in
      let within : length_of mark ≤ length s = rw m (marked x s z.short).within in
      record {
        inside = omega (arith, fits t r x s z.settled z.cells_long z.byte z.short, z.old_is, z.last_is, z.start_is);
        room = omega (arith, z.settled.room, z.last_is);
        part = omega (arith, z.len_is);
      }

  pub refused_text : text_room < last - old + len → judged_total (view_texts t) x s ≡ Err TooLong
  refused_text over = too_long t r x s z.settled z.cells_long z.byte z.short (rw (z.len_is, z.mark_is, z.old_is, z.last_is) at over)

  pub accepted_text : (cells : List ℕ) → cells ≡ cells_with r.cells start (start + old) last (take len s) → last - old + len ≤ text_room
      → RefinesDefined (judged_total (view_texts t) x s) t x s (Ok (record { marks = set r.marks x mark; cells = cells }))
  accepted_text cells e room =
      rw (e, z.len_is, z.mark_is, z.old_is, z.last_is, z.start_is)
      (accepted t r x s z.settled z.cells_long z.byte z.short (rw (z.len_is, z.mark_is, z.old_is, z.last_is) at room))
