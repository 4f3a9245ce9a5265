-- What an ACCEPT and a REFUSE make of a table.
use mathlib.Core.Path.{◌≡◌, refl, sym}
use mathlib.Core.Bool.{Bool, true, false, false≢true}
use mathlib.Core.List.{List}
use Prim.Native.Nat.{ℕ, ◌<◌}
use lib.ListN.{get_or, set}
use lib.Seq.{set-get_or}
use Rattle.received_macros.specs.Texts.{entry_of}
use Rattle.received_macros.specs.Refinement.{view_texts, text_of}
use Rattle.sent_macros.specs.declared.Status.{Status}
use Rattle.sent_macros.specs.declared.SendingTable.{SendingTable}
use Rattle.sent_macros.specs.Sending.{Sent, free, pending, pending_free, accepted, refused, sent_of, is_pending, on_accept, on_refuse}
use Rattle.sent_macros.specs.Refinement.{status_from, sent_as, has_text, kept_texts, view_table, WholeTable, RefinesTable, restated}
use Rattle.sent_macros.proofs.Views.{sent_at}
use Rattle.sent_macros.proofs.Restating.{status_met}

refused_as : (u : Sent) → is_pending u ≡ true → on_refuse u ≡ refused
refused_as free e = absurd (false≢true e)
refused_as (pending s) e = refl
refused_as pending_free e = refl
refused_as (accepted s) e = absurd (false≢true e)
refused_as refused e = absurd (false≢true e)

not_refused : (u : Sent) → is_pending u ≡ false → on_refuse u ≡ u
not_refused free e = refl
not_refused (pending s) e = absurd (false≢true (sym e))
not_refused pending_free e = absurd (false≢true (sym e))
not_refused (accepted s) e = refl
not_refused refused e = refl

-- a byte that stands as s
module _ (t : SendingTable) (x : ℕ) (s : Status) (stands : status_from (get_or t.statuses x 0) ≡ s) where
  pub sent_as_lem : sent_of (view_table t) x ≡ sent_as s (text_of (entry_of (view_texts (kept_texts t)) x))
  sent_as_lem = rw (sent_at t x, stands)

  -- an answer that changes nothing
  pub unmoved_met : (f : Sent → Sent) (b : Bool) → ((u : List ℕ) → f (sent_as s u) ≡ sent_as s u) → RefinesTable (set (view_table t) x (f (sent_of (view_table t) x))) b t t
  unmoved_met f b stays = record {
    view = rw (sent_as_lem, stays (text_of (entry_of (view_texts (kept_texts t)) x)), ← sent_as_lem) (sym (set-get_or (view_table t) x free));
    clean = λ c. c;
    same = λ _. refl;
  }

  module _ (waits : (u : List ℕ) → is_pending (sent_as s u) ≡ true) where
    pub accept_met : WholeTable t → x < 256 → (s' : Status) → has_text s' ≡ has_text s → ((u : List ℕ) → on_accept (sent_as s u) ≡ sent_as s' u)
        → RefinesTable (set (view_table t) x (on_accept (sent_of (view_table t) x))) (is_pending (sent_of (view_table t) x)) t (restated t x t.texts s')
    accept_met whole byte s' alike moves =
        let u = text_of (entry_of (view_texts (kept_texts t)) x) in
        rw (sent_as_lem, moves u, waits u) (status_met t whole x byte s' (rw stands alike))

-- a REFUSE goes by whether the byte is pending alone
module _ (t : SendingTable) (x : ℕ) where
  pub refuse_met : is_pending (sent_of (view_table t) x) ≡ true → (r : SendingTable) → RefinesTable (set (view_table t) x refused) true t r
      → RefinesTable (set (view_table t) x (on_refuse (sent_of (view_table t) x))) (is_pending (sent_of (view_table t) x)) t r
  refuse_met waits r met = rw (waits, refused_as (sent_of (view_table t) x) waits) met

  pub unrefused_met : is_pending (sent_of (view_table t) x) ≡ false
      → RefinesTable (set (view_table t) x (on_refuse (sent_of (view_table t) x))) (is_pending (sent_of (view_table t) x)) t t
  unrefused_met stays = record {
    view = rw (not_refused (sent_of (view_table t) x) stays) (sym (set-get_or (view_table t) x free));
    clean = λ c. c;
    same = λ _. refl;
  }
