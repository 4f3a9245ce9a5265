-- The table that a struct stands for: how long it is, and how each byte stands in it.
use mathlib.Core.Path.{◌≡◌, refl, sym, ◌∙◌}
use mathlib.Core.Bool.{Bool}
use mathlib.Core.List.{List, []}
use Prim.Native.Nat.{ℕ, ◌≤◌}
use native.Mathlib.Omega.{arith}
use lib.ListN.{length, get_or}
use Rattle.lists.proofs.Lengths.{every_replicate}
use Rattle.lists.proofs.Uniform.{get_d_uniform}
use Rattle.lists.proofs.Paired.{paired_length, paired_at, paired_uniform}
use Rattle.received_macros.specs.Texts.{plain, entry_of}
use Rattle.received_macros.specs.Refinement.{view_texts, text_of}
use Rattle.received_macros.proofs.View.{empty_clean}
use Rattle.sent_macros.specs.declared.Status.{Status}
use Rattle.sent_macros.specs.declared.Status.TheVariants.{Free, Pending, PendingFree, Accepted, Refused}
use Rattle.sent_macros.specs.declared.SendingTable.{SendingTable}
use Rattle.sent_macros.specs.Sending.{Sent, free, no_definitions, sent_of, status_of, is_pending, is_accepted, is_free}
use Rattle.sent_macros.specs.Refinement.{status_from, sent_as, kept_texts, sent_by, view_table, bare_table, CleanTable, free_cells, WholeTable}

pub view_length : (t : SendingTable) → length t.statuses ≡ 256 → length (view_table t) ≡ 256
unfolding view_table
view_length t l = paired_length sent_by plain t.statuses (view_texts (kept_texts t)) ∙ l

-- a byte stands as its number says, with the text of its entry
pub sent_at : (t : SendingTable) (x : ℕ) → sent_of (view_table t) x ≡ sent_by (get_or t.statuses x 0) (entry_of (view_texts (kept_texts t)) x)
unfolding view_table status_from
sent_at t x = paired_at sent_by plain 0 free (λ e. refl) t.statuses (view_texts (kept_texts t)) x

status_as : (s : Status) (text : List ℕ) → status_of (sent_as s text) ≡ s
status_as Free text = refl
status_as Pending text = refl
status_as PendingFree text = refl
status_as Accepted text = refl
status_as Refused text = refl

pub status_at : (t : SendingTable) (x : ℕ) → status_from (get_or t.statuses x 0) ≡ status_of (sent_of (view_table t) x)
status_at t x = rw (sent_at t x) (sym (status_as (status_from (get_or t.statuses x 0)) (text_of (entry_of (view_texts (kept_texts t)) x))))

-- by the statuses alone
pub bare_at : (numbers : List ℕ) (x : ℕ) → sent_of (bare_table numbers) x ≡ sent_as (status_from (get_or numbers x 0)) []
unfolding status_from
bare_at numbers x = paired_at sent_by plain 0 free (λ e. refl) numbers [] x

pub bare_as : (numbers : List ℕ) (x : ℕ) (s : Status) → s ≡ status_from (get_or numbers x 0) → sent_of (bare_table numbers) x ≡ sent_as s []
bare_as numbers x s e = rw e (bare_at numbers x)

bare_same : (f : Sent → Bool) → ((s : Status) (u : List ℕ) → f (sent_as s u) ≡ f (sent_as s [])) → (t : SendingTable) (x : ℕ)
    → f (sent_of (view_table t) x) ≡ f (sent_of (bare_table t.statuses) x)
bare_same f h t x = rw (sent_at t x, bare_at t.statuses x) (h (status_from (get_or t.statuses x 0)) (text_of (entry_of (view_texts (kept_texts t)) x)))

pub pending_bare : (t : SendingTable) (x : ℕ) → is_pending (sent_of (view_table t) x) ≡ is_pending (sent_of (bare_table t.statuses) x)
pending_bare = bare_same is_pending same
  where
    same : (s : Status) (u : List ℕ) → is_pending (sent_as s u) ≡ is_pending (sent_as s [])
    same Free u = refl
    same Pending u = refl
    same PendingFree u = refl
    same Accepted u = refl
    same Refused u = refl

pub accepted_bare : (t : SendingTable) (x : ℕ) → is_accepted (sent_of (view_table t) x) ≡ is_accepted (sent_of (bare_table t.statuses) x)
accepted_bare = bare_same is_accepted same
  where
    same : (s : Status) (u : List ℕ) → is_accepted (sent_as s u) ≡ is_accepted (sent_as s [])
    same Free u = refl
    same Pending u = refl
    same PendingFree u = refl
    same Accepted u = refl
    same Refused u = refl

pub free_bare : (t : SendingTable) (x : ℕ) → is_free (sent_of (view_table t) x) ≡ is_free (sent_of (bare_table t.statuses) x)
free_bare = bare_same is_free same
  where
    same : (s : Status) (u : List ℕ) → is_free (sent_as s u) ≡ is_free (sent_as s [])
    same Free u = refl
    same Pending u = refl
    same PendingFree u = refl
    same Accepted u = refl
    same Refused u = refl

-- the table in which every byte is free
pub free_view : view_table free_cells ≡ no_definitions
unfolding view_table status_from
free_view = paired_uniform sent_by plain 0 free (λ e. refl) 256 (view_texts (kept_texts free_cells))

pub free_clean : CleanTable free_cells
unfolding status_from
free_clean = record {
  numbers = every_replicate (λ (n : ℕ). n ≤ 4) 0 256 0 (omega arith) (omega arith);
  marked = λ x. rw (get_d_uniform {X = ℕ} 256 x 0);
  texts = empty_clean;
}

pub free_whole : WholeTable free_cells
free_whole = record { statuses = refl; marks = refl; cells = refl }
