-- The text of an accepted byte.
use mathlib.Core.Path.{◌≡◌, refl, sym}
use mathlib.Core.Bool.{true, false, false≢true}
use mathlib.Core.List.{List, [], ◌∷◌}
use Prim.Native.Nat.{ℕ}
use lib.Dec.{eqb}
use lib.Pointwise.{pointwise}
use Rattle.lists.specs.Choice.{is_same}
use Rattle.std.proofs.Common.{Option, Some, None, MatchOption, Bor}
use Rattle.std.specs.Option.{unwrap_or}
use Rattle.received_macros.specs.Texts.{Entry, plain, text, entry_of}
use Rattle.received_macros.specs.Refinement.{view_texts, text_of}
use Rattle.sent_macros.specs.declared.Status.{Status}
use Rattle.sent_macros.specs.declared.Status.TheVariants.{Free, Pending, PendingFree, Accepted, Refused}
use Rattle.sent_macros.specs.declared.SendingTable.{SendingTable}
use Rattle.sent_macros.specs.Sending.{Sent, free, pending, pending_free, accepted, refused, sent_of, is_accepted, accepted_text, is_accepted_as}
use Rattle.sent_macros.specs.Refinement.{status_from, sent_as, kept_texts, view_table}
use Rattle.sent_macros.proofs.Views.{sent_at}

no_text : (u : Sent) → is_accepted u ≡ false → accepted_text u ≡ []
no_text free e = refl
no_text (pending s) e = refl
no_text pending_free e = refl
no_text (accepted s) e = absurd (false≢true (sym e))
no_text refused e = refl

the_text : (s : Status) (u : List ℕ) → is_accepted (sent_as s u) ≡ true → accepted_text (sent_as s u) ≡ u
the_text Free u e = absurd (false≢true e)
the_text Pending u e = absurd (false≢true e)
the_text PendingFree u e = absurd (false≢true e)
the_text Accepted u e = refl
the_text Refused u e = absurd (false≢true e)

pub not_accepted_as : (u : Sent) (s : List ℕ) → is_accepted u ≡ false → is_accepted_as u s ≡ false
not_accepted_as free s e = refl
not_accepted_as (pending s') s e = refl
not_accepted_as pending_free s e = refl
not_accepted_as (accepted s') s e = absurd (false≢true (sym e))
not_accepted_as refused s e = refl

pub accepted_as : (u : Sent) (s : List ℕ) → is_accepted u ≡ true → is_accepted_as u s ≡ is_same (accepted_text u) s
accepted_as free s e = absurd (false≢true e)
accepted_as (pending s') s e = absurd (false≢true e)
accepted_as pending_free s e = absurd (false≢true e)
accepted_as (accepted s') s e = refl
accepted_as refused s e = absurd (false≢true e)

-- the code's test whether two texts are equal
pub texts_same : (s u : List ℕ) → pointwise eqb s u ≡ is_same s u
unfolding is_same
texts_same [] [] = refl
texts_same [] (n ∷ u) = refl
texts_same (m ∷ s) [] = refl
texts_same (m ∷ s) (n ∷ u) = rw (texts_same s u)

-- none of a byte that is not accepted
pub no_bytes : (u : Sent) → is_accepted u ≡ false → [] ≡ accepted_text u
no_bytes u e = sym (no_text u e)

-- a text that was found, or no bytes
found : (e : Entry) (r : Option (Bor (List ℕ))) (none : Bor (List ℕ)) → none.now ≡ [] → MatchOption r (e ≡ plain) (λ s. e ≡ text s.now) → (unwrap_or r none).now ≡ text_of e
found e None none h m = rw m h
found e (Some s) none h m = rw m

pub found_text : (t : SendingTable) (x : ℕ) (r : Option (Bor (List ℕ))) (none : Bor (List ℕ)) → is_accepted (sent_of (view_table t) x) ≡ true → none.now ≡ []
    → (let e = entry_of (view_texts (kept_texts t)) x in MatchOption r (e ≡ plain) (λ s. e ≡ text s.now)) → (unwrap_or r none).now ≡ accepted_text (sent_of (view_table t) x)
found_text t x r none e h m =
    let u = text_of (entry_of (view_texts (kept_texts t)) x) in
    let same : accepted_text (sent_of (view_table t) x) ≡ u = rw (sent_at t x) (the_text (status_from _) u (rw (sent_at t x) at e)) in
    rw same (found (entry_of (view_texts (kept_texts t)) x) r none h m)
