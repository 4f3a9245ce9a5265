-- The last DEFINE of a byte, as the events tell it, grows with them, and is what the table and the issues say of the byte.
use mathlib.Core.Path.{◌≡◌, refl, sym, subst, ◌∙◌}
use mathlib.Core.Bool.{true, false≢true}
use mathlib.Core.Logic.{⊎_elim}
use mathlib.Core.List.Memᴰ
use mathlib.Core.List.{List, [], ◌∷◌, ◌++◌, append-nil, append_assoc, Memᴰ}
use Prim.Native.Nat.{ℕ}
use native.Mathlib.Omega.{arith}
use lib.ListN.{length, set, length-set}
use lib.Seq.{get_or-set_other}
use borrow.Author.Tests.{eqb-true}
use Rattle.lists.proofs.Lengths.{chosen}
use Rattle.lists.proofs.Places.{by_place, set_both}
use Rattle.lists.proofs.Tables.{both_left}
use Rattle.lists.proofs.Uniform.{get_d_uniform}
use Rattle.received_macros.specs.Texts.{is_itself}
use Rattle.sent_macros.specs.Sending.{Definitions, Sent, no_definitions, sent_of, sent_for, on_accept, on_refuse, defining}
use Rattle.issues.specs.declared.Issues.{Issues}
use Rattle.issues.specs.Issues.{first_issue, with_present, kept_of, keeping, forgetting}
use Rattle.read_back.specs.History.{Event, issued, defined, accepted, refused, issue_from, issue_behind, NotDefined, Unanswered}
use Rattle.read_back.proofs.Changes.{Change, keeps, empties, defines, accepts, refuses, sets}

-- the last DEFINE of X among these events is of the text t, made in the issue n, and no answer to it came yet
pub record Pending (n x : ℕ) (t : List ℕ) (es : List Event) : Type 0 where
  pub before : List Event
  pub meanwhile : List Event
  pub are : es ≡ before ++ defined x t ∷ meanwhile
  pub unanswered : Unanswered x meanwhile
  pub last : NotDefined x meanwhile
  pub made : issue_behind before ≡ n

-- .. or an ACCEPT is the first answer to it
pub record Accepted (n x : ℕ) (t : List ℕ) (es : List Event) : Type 0 where
  pub first : List Event
  pub since : List Event
  pub are : es ≡ first ++ accepted x ∷ since
  pub pending : Pending n x t first
  pub last : NotDefined x since

-- what a byte's entry says of the events
abbrev pub Stands : ℕ → ℕ → Sent → List Event → Type 0
Stands n x Sent.free es = Unit {0}
Stands n x (Sent.pending t) es = Pending n x t es
Stands n x Sent.pending_free es = Pending n x (x ∷ []) es
Stands n x (Sent.accepted t) es = Accepted n x t es
Stands n x Sent.refused es = Unit {0}

-- the table and the issues are those of the events
pub record Follows (t : Definitions) (i : Issues) (es : List Event) : Type 0 where
  pub present : i.present ≡ issue_behind es
  pub whole : length t ≡ length i.kept
  pub stands : (x : ℕ) → Stands (kept_of i x) x (sent_of t x) es

-- an event about x; one that is a DEFINE
abbrev About : ℕ → Event → Type 0
About x (issued n) = ⊥
About x (defined y t) = x ≡ y
About x (accepted y) = x ≡ y
About x (refused y) = x ≡ y

abbrev IsDefine : Event → Type 0
IsDefine (issued n) = ⊥
IsDefine (defined y t) = Unit {0}
IsDefine (accepted y) = ⊥
IsDefine (refused y) = ⊥

-- events among which is none about x
record Without (x : ℕ) (more : List Event) : Type 0 where
  undefined : NotDefined x more
  unanswered : Unanswered x more

no_define : (x : ℕ) (e : Event) → (IsDefine e → ⊥) → NotDefined x (e ∷ [])
no_define x e h t m = h (subst IsDefine (Memᴰ.eq_of_singleton m) tt)

not_about : (x : ℕ) (e : Event) → (About x e → ⊥) → Without x (e ∷ [])
not_about x e h = record {
  undefined = λ t m. h (subst (About x) (Memᴰ.eq_of_singleton m) refl);
  unanswered = (
    λ m. h (subst (About x) (Memᴰ.eq_of_singleton m) refl),
    λ m. h (subst (About x) (Memᴰ.eq_of_singleton m) refl),
  );
}

pub in_neither : {e : Event} (l m : List Event) → (Memᴰ e l → ⊥) → (Memᴰ e m → ⊥) → Memᴰ e (l ++ m) → ⊥
in_neither l m f g k = ⊎_elim f g (Memᴰ.append_cases l k)

issue_append : (n : ℕ) (es more : List Event) → issue_from n (es ++ more) ≡ issue_from (issue_from n es) more
unfolding issue_from
issue_append n [] more = refl
issue_append n (issued m ∷ es) more = issue_append m es more
issue_append n (defined x t ∷ es) more = issue_append n es more
issue_append n (accepted x ∷ es) more = issue_append n es more
issue_append n (refused x ∷ es) more = issue_append n es more

module _ {n x : ℕ} {t : List ℕ} {es : List Event} (more : List Event) where
  pending_grows : Without x more → Pending n x t es → Pending n x t (es ++ more)
  pending_grows w p = record {
    before = p.before;
    meanwhile = p.meanwhile ++ more;
    are = rw p.are (append_assoc p.before (defined x t ∷ p.meanwhile) more);
    unanswered = (
      in_neither p.meanwhile more p.unanswered.0 w.unanswered.0,
      in_neither p.meanwhile more p.unanswered.1 w.unanswered.1,
    );
    last = λ s. in_neither p.meanwhile more (p.last s) (w.undefined s);
    made = p.made;
  }

  -- further answers are none to this DEFINE
  accepted_grows : NotDefined x more → Accepted n x t es → Accepted n x t (es ++ more)
  accepted_grows w a = record {
    first = a.first;
    since = a.since ++ more;
    are = rw a.are (append_assoc a.first (accepted x ∷ a.since) more);
    pending = a.pending;
    last = λ s. in_neither a.since more (a.last s) (w s);
  }

module _ (n x : ℕ) (es : List Event) where
  stands_grows : (more : List Event) (v : Sent) → Without x more → Stands n x v es → Stands n x v (es ++ more)
  stands_grows more Sent.free w h = tt
  stands_grows more (Sent.pending t) w h = pending_grows more w h
  stands_grows more Sent.pending_free w h = pending_grows more w h
  stands_grows more (Sent.accepted t) w h = accepted_grows more w.undefined h
  stands_grows more Sent.refused w h = tt

  -- an ACCEPT and a REFUSE of the byte itself
  on_accept_lem : (v : Sent) → Stands n x v es → Stands n x (on_accept v) (es ++ accepted x ∷ [])
  on_accept_lem Sent.free h = tt
  on_accept_lem (Sent.pending t) h = record { first = es; since = []; are = refl; pending = h; last = λ s m. Memᴰ.not-nil m }
  on_accept_lem Sent.pending_free h = tt
  on_accept_lem (Sent.accepted t) h = accepted_grows (accepted x ∷ []) (no_define x (accepted x) (λ e. e)) h
  on_accept_lem Sent.refused h = tt

  on_refuse_lem : (v : Sent) → Stands n x v es → Stands n x (on_refuse v) (es ++ refused x ∷ [])
  on_refuse_lem Sent.free h = tt
  on_refuse_lem (Sent.pending t) h = tt
  on_refuse_lem Sent.pending_free h = tt
  on_refuse_lem (Sent.accepted t) h = accepted_grows (refused x ∷ []) (no_define x (refused x) (λ e. e)) h
  on_refuse_lem Sent.refused h = tt

-- a DEFINE
now_pending : (x : ℕ) (t : List ℕ) (es : List Event) → Pending (issue_behind es) x t (es ++ defined x t ∷ [])
now_pending x t es = record {
  before = es;
  meanwhile = [];
  are = refl;
  unanswered = (λ m. Memᴰ.not-nil m, λ m. Memᴰ.not-nil m);
  last = λ s m. Memᴰ.not-nil m;
  made = refl;
}

itself : (x : ℕ) (t : List ℕ) → is_itself x t ≡ true → t ≡ x ∷ []
itself x [] h = absurd (false≢true h)
itself x (y ∷ []) h = rw (eqb-true y x h)
itself x (y ∷ z ∷ t) h = absurd (omega (arith, eqb-true (length (y ∷ z ∷ t)) 1 (both_left _ _ h)))

on_define : (x : ℕ) (t : List ℕ) (es : List Event) → Stands (issue_behind es) x (sent_for x t) (es ++ defined x t ∷ [])
on_define x t es =
    chosen (λ v. Stands (issue_behind es) x v (es ++ defined x t ∷ [])) (is_itself x t)
    (λ h. rw (sym (itself x t h)) (now_pending x t es))
    (λ h. now_pending x t es)

module _ (t : Definitions) (i : Issues) (es : List Event) (f : Follows t i es) where
  grows : (y : ℕ) (e : Event) → (About y e → ⊥) → Stands (kept_of i y) y (sent_of t y) (es ++ e ∷ [])
  grows y e h = stands_grows (kept_of i y) y es (e ∷ []) (sent_of t y) (not_about y e h) (f.stands y)

  present_same : (e : Event) → ((n : ℕ) → issue_from n (e ∷ []) ≡ n) → i.present ≡ issue_behind (es ++ e ∷ [])
  present_same e h = f.present ∙ sym (issue_append 0 es (e ∷ []) ∙ h (issue_behind es))

  same : Follows t i (es ++ [])
  same = rw (append-nil es) f

  emptied : Follows no_definitions (forgetting i) (es ++ [])
  emptied = rw (append-nil es) (record {
    present = f.present;
    whole = refl;
    stands = λ x. rw (get_d_uniform 256 x Sent.free) tt;
  })

  defined_follows : (x : ℕ) (s : List ℕ) → Follows (defining t x s) (keeping i x) (es ++ defined x s ∷ [])
  unfolding defining issue_from
  defined_follows x s = record {
    present = present_same (defined x s) (λ n. refl);
    whole = simp length-set f.whole;
    stands = by_place _ x
        (set_both (λ (v : Sent) (n : ℕ). Stands n x v (es ++ defined x s ∷ [])) t i.kept x f.whole tt (rw f.present (on_define x s es)))
        (λ y other. rw (get_or-set_other t x y (sent_for x s) Sent.free other, get_or-set_other i.kept x y i.present 0 other)
        (grows y (defined x s) other));
  }

  -- an answer, by what it makes of the entry
  answered_follows : (x : ℕ) (e : Event) (v : Sent) → ((n : ℕ) → issue_from n (e ∷ []) ≡ n) → ((y : ℕ) → (y ≡ x → ⊥) → About y e → ⊥)
      → Stands (kept_of i x) x v (es ++ e ∷ []) → Follows (set t x v) i (es ++ e ∷ [])
  answered_follows x e v h about new = record {
    present = present_same e h;
    whole = simp length-set f.whole;
    stands = by_place _ x
        (set_both (λ (v : Sent) (w : Sent). Stands (kept_of i x) x v (es ++ e ∷ [])) {e = Sent.free} {w = v} t t x refl tt new)
        (λ y other. rw (get_or-set_other t x y v Sent.free other) (grows y e (about y other)));
  }

  issued_follows : (n : ℕ) → Follows t (with_present i n) (es ++ issued n ∷ [])
  unfolding issue_from
  issued_follows n = record {
    present = sym (issue_append 0 es (issued n ∷ []));
    whole = f.whole;
    stands = λ y. grows y (issued n) (λ e. e);
  }

  -- a change, with its events, keeps the table and the issues those of the events
  pub change_follows : {after : Definitions} {now : Issues} {more : List Event} → Change t i after now more → Follows after now (es ++ more)
  unfolding issue_from
  change_follows keeps = same
  change_follows empties = emptied
  change_follows (defines x s) = defined_follows x s
  change_follows (accepts x) =
      answered_follows x (accepted x) _ (λ n. refl) (λ y other. other) (on_accept_lem (kept_of i x) x es (sent_of t x) (f.stands x))
  change_follows (refuses x) =
      answered_follows x (refused x) _ (λ n. refl) (λ y other. other) (on_refuse_lem (kept_of i x) x es (sent_of t x) (f.stands x))
  change_follows (sets n) = issued_follows n

pub fresh_follows : Follows no_definitions first_issue []
unfolding issue_from
fresh_follows = record { present = refl; whole = refl; stands = λ x. rw (get_d_uniform 256 x Sent.free) tt }
