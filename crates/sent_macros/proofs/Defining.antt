-- A DEFINE: whether it is too long, and the table that it leaves.
use mathlib.Core.Path.{◌≡◌, refl, sym, ap, ◌∙◌}
use mathlib.Core.Bool.{Bool, true, false, not, cond}
use mathlib.Core.List.{List}
use Prim.Native.Nat.{ℕ, ◌≤◌, ◌<◌}
use native.Mathlib.Omega.{arith}
use borrow.Author.Tests.{lt-ltb, le-ltb, ltb-true, ltb-false}
use lib.Dec.{ltb}
use lib.ListN.{length, set, length-set}
use lib.Seq.{get_or-set_same}
use Rattle.lists.specs.Lists.{paired}
use Rattle.lists.specs.Buffers.{Lent, WroteAtStart}
use Rattle.received_macros.specs.declared.Texts.{Texts}
use Rattle.std.proofs.Common.{Ok, Err}
use Rattle.received_macros.specs.declared.Reason.{Reason}
use Rattle.received_macros.specs.declared.Reason.TheVariants.{TooLong}
use Rattle.received_macros.specs.Texts.{plain, text, Table, total, text_room, longest_text, is_itself, entry_for, defined, judged_total, judged_any}
use Rattle.received_macros.specs.Refinement.{view_texts, is_text, is_unmarked, text_of, Changed}
use Rattle.received_macros.proofs.View.{unmarked_exactly}
use Rattle.sent_macros.specs.declared.Status.{Status}
use Rattle.sent_macros.specs.declared.Status.TheVariants.{Pending, PendingFree}
use Rattle.sent_macros.specs.declared.SendingTable.{SendingTable}
use Rattle.sent_macros.specs.Sending.{pending, pending_free, status_number, sent_total, sent_for, defining, stored, stored_room, is_too_long, define_bytes}
use Rattle.sent_macros.specs.Refinement.{sent_as, has_text, sent_by, kept_texts, view_table, stored_total, WholeTable, RefinesTable, DoesNotFit, FittedAs, DefinedAs, restated}
use Rattle.sent_macros.proofs.Restating.{view_long, paired_changed, changed_only, restated_met}
use Rattle.sent_macros.proofs.Totals.{stored_long, total_stored, counted_all}

-- how a byte stands that was just defined
abbrev pub new_status : Bool → Status
new_status b = cond b PendingFree Pending

module _ (t : SendingTable) (whole : WholeTable t) (x : ℕ) (byte : x < 256) (s : List ℕ) where
  abbrev old : Table
  old = view_texts (kept_texts t)

  abbrev status : Status
  status = new_status (is_itself x s)

  entry_fits : is_text (entry_for x s) ≡ has_text status
  entry_fits = go (is_itself x s)
    where
      go : (b : Bool) → is_text (cond b plain (text s)) ≡ has_text (new_status b)
      go true = refl
      go false = refl

  sent_is : sent_as status (text_of (entry_for x s)) ≡ sent_for x s
  sent_is = go (is_itself x s)
    where
      go : (b : Bool) → sent_as (new_status b) (text_of (cond b plain (text s))) ≡ cond b pending_free (pending s)
      go true = refl
      go false = refl

  defining_is : paired sent_by plain (set t.statuses x (status_number status)) (defined old x s) ≡ defining (view_table t) x s
  unfolding defined defining
  defining_is = paired_changed t whole x byte status (entry_for x s) ∙ ap (set (view_table t) x) sent_is

  -- the new text counts with the others
  total_new : sent_total (defining (view_table t) x s) ≡ stored_total (defined old x s)
  unfolding defined
  total_new =
      let l : length (set t.statuses x (status_number status)) ≡ length (set old x (entry_for x s)) =
      length-set t.statuses x (status_number status) ∙ whole.statuses ∙ sym (length-set old x (entry_for x s) ∙ view_long t whole) in
      rw (← defining_is) (counted_all (set t.statuses x (status_number status)) (defined old x s) l (changed_only t whole x byte status (entry_for x s) entry_fits))

  too_long_text : stored_room < length (stored s) → is_too_long (view_table t) x s ≡ true
  unfolding is_too_long
  too_long_text over = rw (lt-ltb stored_room (length (stored s)) over)

  too_long_total : length (stored s) ≤ stored_room → is_too_long (view_table t) x s ≡ ltb text_room (stored_total (defined old x s))
  unfolding is_too_long
  too_long_total short = rw (le-ltb stored_room (length (stored s)) short, total_new)

  pub fitted_over : ltb stored_room (length (stored s)) ≡ true → DoesNotFit t x s
  fitted_over e = too_long_text (ltb-true stored_room (length (stored s)) e)

  -- the stored form is within 255 bytes
  module _ (over : ltb stored_room (length (stored s)) ≡ false) where
    short : length (stored s) ≤ stored_room
    short = ltb-false stored_room (length (stored s)) over

    judged_is : judged_any old x s ≡ judged_total old x s
    judged_is = rw (le-ltb longest_text (length s) (omega (arith, stored_long s, short)))

    pub fitted_refused : (reason : Reason) → judged_any old x s ≡ Err reason → DoesNotFit t x s
    fitted_refused reason is = go (ltb text_room (total (defined old x s))) refl
      where
        go : (b : Bool) → ltb text_room (total (defined old x s)) ≡ b → is_too_long (view_table t) x s ≡ true
        go true e =
            too_long_total short
            ∙ lt-ltb text_room (stored_total (defined old x s)) (omega (arith, ltb-true text_room (total (defined old x s)) e, total_stored (defined old x s)))
        go false e =
            let accepted : Err reason ≡ Ok tt = sym is ∙ judged_is ∙ ap (λ (b : Bool). cond b (Err TooLong) (Ok tt)) e in
            let z : ◌≡◌ {A = ℕ} 0 1 = cc in
            absurd (omega arith)

    module _ (r : Texts) (new_texts : Changed (defined old x s) (kept_texts t) r) where
      pub fitted_large : text_room < stored_total (view_texts r) → DoesNotFit t x s
      fitted_large large = too_long_total short ∙ lt-ltb text_room (stored_total (defined old x s)) (rw (← new_texts.view) large)

      pub fitted_accepted : stored_total (view_texts r) ≤ text_room → FittedAs t x s r
      fitted_accepted small = record {
        fits = too_long_total short ∙ le-ltb text_room (stored_total (defined old x s)) (rw (← new_texts.view) small);
        short = short;
        texts = new_texts;
      }

  -- the table after a DEFINE that fits
  module _ (texts : Texts) (changed : Changed (defined old x s) (kept_texts t) texts) where
    pub status_is : cond (is_unmarked texts.marks x) PendingFree Pending ≡ status
    unfolding defined
    status_is =
        let inside : x < length old = omega (arith, view_long t whole) in
        let here : is_unmarked texts.marks x ≡ not (is_text (entry_for x s)) =
        rw (← get_or-set_same old x (entry_for x s) plain inside, ← changed.view) (unmarked_exactly texts x changed.room) in
        rw here (go (is_itself x s))
      where
        go : (b : Bool) → cond (not (is_text (cond b plain (text s)))) PendingFree Pending ≡ new_status b
        go true = refl
        go false = refl

    pub defined_met : RefinesTable (defining (view_table t) x s) true t (restated t x texts status)
    unfolding defined defining
    defined_met = rw (← sent_is) (restated_met t whole x byte status (entry_for x s) entry_fits texts changed)

    pub define_met : {out : Lent} {n : ℕ} → is_too_long (view_table t) x s ≡ false → WroteAtStart (define_bytes x s) out n
        → DefinedAs t x s out (record { wire = n; table = restated t x texts (cond (is_unmarked texts.marks x) PendingFree Pending) })
    define_met fits wrote = record { fits = fits; wire = wrote; table = rw status_is defined_met }
