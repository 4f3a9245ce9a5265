-- Tables of the two ends that are empty, or have an entry for one byte.
use mathlib.Core.Path.{◌≡◌, refl, sym, ◌∙◌}
use mathlib.Core.Bool.{Bool, true, false}
use mathlib.Core.List.{List}
use Prim.Native.Nat.{ℕ, ◌<◌}
use native.Mathlib.Omega.{arith}
use lib.ListN.{set, get_or, replicate, length-replicate}
use lib.Seq.{get_or-set_same, get_or-set_other}
use lib.Dec.{eqb}
use borrow.Author.Tests.{eqb-true, eqb-false}
use Rattle.lists.proofs.Uniform.{get_d_uniform}
use Rattle.received_macros.specs.Texts.{Entry, plain, text, no_macros, entry_of}
use Rattle.sent_macros.specs.Sending.{Sent, free, accepted, no_definitions, sent_of, stored}

-- a free byte is not accepted
pub free_alone : (t : List ℕ) → free ≡ accepted t → ⊥
free_alone t h = let z : ◌≡◌ {A = ℕ} 0 1 = cc in omega arith

module _ {X : Type 0} (d v : X) (x : ℕ) (k : x < 256) where
  here : get_or (set (replicate 256 d) x v) x d ≡ v
  here = get_or-set_same (replicate 256 d) x v d (rw (length-replicate 256 d) k)

  elsewhere : (y : ℕ) → eqb y x ≡ false → get_or (set (replicate 256 d) x v) y d ≡ d
  elsewhere y n = get_or-set_other (replicate 256 d) x y v d (λ (e : y ≡ x). eqb-false y x n e) ∙ get_d_uniform 256 y d

-- x alone is not free at the bulletin end and defined at the printer end
module _ (x : ℕ) (k : x < 256) (v : Sent) (e : Entry) where
  pub same_text : ((t : List ℕ) → v ≡ accepted t → e ≡ text (stored t))
      → (y : ℕ) (t : List ℕ) → sent_of (set no_definitions x v) y ≡ accepted t → entry_of (set no_macros x e) y ≡ text (stored t)
  same_text same y t h = go (eqb y x) refl
    where
      go : (c : Bool) → eqb y x ≡ c → entry_of (set no_macros x e) y ≡ text (stored t)
      go true i = let q = eqb-true y x i in rw (q, here plain e x k) (same t (sym (here free v x k) ∙ (rw q at h)))
      go false i = absurd (free_alone t (sym (elsewhere free v x k y i) ∙ h))

  pub no_text : (v ≡ free → e ≡ plain) → (y : ℕ) → sent_of (set no_definitions x v) y ≡ free → entry_of (set no_macros x e) y ≡ plain
  no_text none y h = go (eqb y x) refl
    where
      go : (c : Bool) → eqb y x ≡ c → entry_of (set no_macros x e) y ≡ plain
      go true i = let q = eqb-true y x i in rw (q, here plain e x k) (none (sym (here free v x k) ∙ (rw q at h)))
      go false i = elsewhere plain e x k y i
