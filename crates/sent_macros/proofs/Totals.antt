-- What all texts count: the stored lengths of those that are pending or accepted.
use Rattle.std.specs.Prelude.{◌==◌, count_by}
use Rattle.std.proofs.lemmas.List.Sums.{sum_by-cons}
use mathlib.Core.Path.{◌≡◌, refl, sym}
use mathlib.Core.Bool.{Bool, true, false, false≢true, cond}
use mathlib.Core.List.{List, [], ◌∷◌, flat_map}
use Prim.Native.Nat.{ℕ, suc, ◌+◌, ◌≤◌}
use native.Mathlib.Omega.{arith}
use lib.Dec.{eqb, lit≤}
use lib.ListN.{length, get_or, take, length-append}
use Rattle.lists.specs.Lists.{sum, paired}
use Rattle.lists.proofs.Lengths.{either}
use Rattle.lists.proofs.Sums.{sum_within}
use Rattle.lists.proofs.FlatMap.{flat_map-length, flat_map-flat_map}
use Rattle.codes.specs.Telnet.{IAC}
use Rattle.wire.specs.Frames.{coded}
use Rattle.received_macros.specs.declared.Texts.{Texts}
use Rattle.received_macros.specs.Texts.{Entry, plain, text, Table, entry_length, total, text_room}
use Rattle.received_macros.specs.Refinement.{view_texts, is_text, text_of}
use Rattle.received_macros.proofs.Totals.{texts_flat_map}
use Rattle.sent_macros.specs.declared.Status.{Status}
use Rattle.sent_macros.specs.declared.Status.TheVariants.{Free, Pending, PendingFree, Accepted, Refused}
use Rattle.sent_macros.specs.Sending.{sent_length, sent_total, stored}
use Rattle.sent_macros.specs.Refinement.{status_from, sent_as, has_text, sent_by, stored_total}
use Rattle.sent_macros.proofs.Restating.{TextOnly}

coded_some : (b : ℕ) → 1 ≤ length (coded b)
unfolding coded
coded_some b = either (λ (l : List ℕ). 1 ≤ length l) (eqb b IAC) (lit≤ tt) (lit≤ tt)

-- the stored form is no shorter
pub stored_long : (s : List ℕ) → length s ≤ length (stored s)
unfolding flat_map
stored_long [] = omega arith
stored_long (b ∷ s) = rw (length-append (coded b) (stored s)) (omega (arith, coded_some b, stored_long s))

-- each 255 is stored as two
pub stored_counted : (s : List ℕ) → length (stored s) ≡ length s + count_by (λ b. b == 255) s
unfolding flat_map coded
stored_counted [] = refl
stored_counted (b ∷ s) = rw (length-append (coded b) (stored s), stored_counted s, sum_by-cons (λ b. cond (b == 255) 1 0) b s) (go (b == 255))
  where
    go : (a : Bool) → length (cond a (255 ∷ 255 ∷ []) (b ∷ [])) + (length s + count_by (λ b. b == 255) s) ≡ length (b ∷ s) + (cond a 1 0 + count_by (λ b. b == 255) s)
    go true = omega arith
    go false = omega arith

entry_long : (e : Entry) → entry_length e ≤ length (stored (text_of e))
entry_long plain = omega arith
entry_long (text s) = stored_long s

pub total_stored : (table : Table) → total table ≤ stored_total table
unfolding total stored_total
total_stored table = sum_within entry_length (λ (e : Entry). length (stored (text_of e))) entry_long table

-- the texts stand one behind the other in the cells
pub stored_cells : (t : Texts) → length t.cells ≡ text_room → length (stored (take (total (view_texts t)) t.cells)) ≡ stored_total (view_texts t)
unfolding stored_total
stored_cells t long =
    rw (← texts_flat_map t long, flat_map-flat_map text_of coded (view_texts t)) (flat_map-length (λ (e : Entry). stored (text_of e)) (view_texts t))

counted_as : (s : Status) (e : Entry) → (has_text s ≡ false → is_text e ≡ false) → sent_length (sent_as s (text_of e)) ≡ length (stored (text_of e))
unfolding flat_map
counted_as Free plain h = refl
counted_as Free (text s) h = absurd (false≢true (sym (h refl)))
counted_as Pending e h = refl
counted_as PendingFree plain h = refl
counted_as PendingFree (text s) h = absurd (false≢true (sym (h refl)))
counted_as Accepted e h = refl
counted_as Refused plain h = refl
counted_as Refused (text s) h = absurd (false≢true (sym (h refl)))

-- where only the bytes whose status says so have a text, the texts of all entries are what counts
pub counted_all : (ns : List ℕ) (es : Table) → length ns ≡ length es → ((y : ℕ) → TextOnly (get_or ns y 0) (get_or es y plain))
    → sent_total (paired sent_by plain ns es) ≡ stored_total es
unfolding paired sum sent_total stored_total
counted_all [] [] l h = refl
counted_all [] (e ∷ es) l h = absurd (omega arith)
counted_all (n ∷ ns) [] l h = absurd (omega arith)
counted_all (n ∷ ns) (e ∷ es) l h = omega (arith, counted_as (status_from n) e (h 0), counted_all ns es (omega arith) (λ y. h (suc y)))
