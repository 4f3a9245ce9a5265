-- Clean structs that stand for the same table are the same struct.
use mathlib.Core.Path.{◌≡◌, refl, sym, ap, ◌∙◌}
use mathlib.Core.Bool.{false, not, false≢true}
use mathlib.Core.List.{List}
use Prim.Native.Nat.{ℕ}
use lib.ListN.{get_or}
use lib.Seq.{ext_get_or}
use Rattle.received_macros.specs.declared.Texts.{Texts}
use Rattle.received_macros.specs.Texts.{Entry, plain, text, entry_of}
use Rattle.received_macros.specs.Refinement.{view_texts, is_text, text_of}
use Rattle.received_macros.proofs.Determined as macros-determined
use Rattle.sent_macros.specs.declared.Status.{Status}
use Rattle.sent_macros.specs.declared.Status.TheVariants.{Free, Pending, PendingFree, Accepted, Refused}
use Rattle.sent_macros.specs.declared.SendingTable.{SendingTable}
use Rattle.sent_macros.specs.Sending.{Definitions, sent_of, status_of, status_number}
use Rattle.sent_macros.specs.Refinement.{status_from, sent_as, has_text, kept_texts, sent_by, view_table, WholeTable, CleanTable, CleanDetermined}
use Rattle.sent_macros.proofs.Numbers.{number_from}
use Rattle.sent_macros.proofs.Views.{sent_at, status_at}
use Rattle.sent_macros.proofs.Keeping.{kept_clean}
use Rattle.sent_macros.proofs.Restating.{clean_exact, view_long}

-- the text of a status that has one
text_back : (s : Status) (u v : List ℕ) → false ≡ not (has_text s) → sent_as s u ≡ sent_as s v → u ≡ v
text_back Free u v h e = absurd (false≢true h)
text_back Pending u v h e = cc
text_back PendingFree u v h e = absurd (false≢true h)
text_back Accepted u v h e = cc
text_back Refused u v h e = absurd (false≢true h)

entry_back : (s : Status) (e f : Entry) → not (is_text e) ≡ not (has_text s) → not (is_text f) ≡ not (has_text s) → sent_as s (text_of e) ≡ sent_as s (text_of f) → e ≡ f
entry_back s plain plain p q h = refl
entry_back s plain (text v) p q h = absurd (false≢true (q ∙ sym p))
entry_back s (text u) plain p q h = absurd (false≢true (p ∙ sym q))
entry_back s (text u) (text v) p q h = ap text (text_back s u v p h)

module _ (t r : SendingTable) (t-whole : WholeTable t) (r-whole : WholeTable r) (t-clean : CleanTable t) (r-clean : CleanTable r) (e : view_table t ≡ view_table r) where
  number_is : (u : SendingTable) → CleanTable u → (x : ℕ) → get_or u.statuses x 0 ≡ status_number (status_of (sent_of (view_table u) x))
  number_is u clean x = sym (number_from (get_or u.statuses x 0) (clean.numbers x)) ∙ ap status_number (status_at u x)

  same_number : (x : ℕ) → get_or t.statuses x 0 ≡ get_or r.statuses x 0
  same_number x = number_is t t-clean x ∙ ap (λ (d : Definitions). status_number (status_of (sent_of d x))) e ∙ sym (number_is r r-clean x)

  same_statuses : t.statuses ≡ r.statuses
  same_statuses = ext_get_or 0 t.statuses r.statuses (t-whole.statuses ∙ sym r-whole.statuses) (λ x _. same_number x)

  same_entry : (x : ℕ) → entry_of (view_texts (kept_texts t)) x ≡ entry_of (view_texts (kept_texts r)) x
  same_entry x =
      let s = status_from (get_or r.statuses x 0) in
      let mine : not (is_text (entry_of (view_texts (kept_texts t)) x)) ≡ not (has_text s) = rw (← same_number x) (clean_exact t t-whole t-clean x) in
      let sents : sent_by (get_or r.statuses x 0) (entry_of (view_texts (kept_texts t)) x) ≡ sent_by (get_or r.statuses x 0) (entry_of (view_texts (kept_texts r)) x) =
      rw (same_number x) at (sym (sent_at t x)) ∙ ap (λ (d : Definitions). sent_of d x) e ∙ sent_at r x in
      entry_back s (entry_of (view_texts (kept_texts t)) x) (entry_of (view_texts (kept_texts r)) x) mine (clean_exact r r-whole r-clean x) sents

  same_kept : view_texts (kept_texts t) ≡ view_texts (kept_texts r)
  same_kept = ext_get_or plain (view_texts (kept_texts t)) (view_texts (kept_texts r)) (view_long t t-whole ∙ sym (view_long r r-whole)) (λ x _. same_entry x)

  same_texts : t.texts ≡ r.texts
  same_texts =
      macros-determined.clean_determined t.texts r.texts t-whole.cells r-whole.cells t-clean.texts r-clean.texts
      (ap view_texts (sym (kept_clean t t-clean)) ∙ same_kept ∙ ap view_texts (kept_clean r r-clean))

abbrev make : List ℕ → Texts → SendingTable
make statuses texts = record { statuses = statuses; texts = texts }

pub clean_determined : CleanDetermined
clean_determined t r t-whole r-whole t-clean r-clean e =
    ap (λ (l : List ℕ). make l t.texts) (same_statuses t r t-whole r-whole t-clean r-clean e) ∙ ap (make r.statuses) (same_texts t r t-whole r-whole t-clean r-clean e)
