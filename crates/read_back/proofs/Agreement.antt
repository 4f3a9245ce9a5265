-- Bytes of text, and a macro's byte, read by a printer end that agrees with the bulletin end.
use mathlib.Core.Path.{◌≡◌, refl, sym, ◌∙◌}
use mathlib.Core.Bool.{Bool, true, false, false≢true, cond}
use mathlib.Core.List.{List, [], ◌∷◌}
use Prim.Native.Nat.{ℕ}
use lib.Dec.{eqb}
use borrow.Author.Tests.{eqb-true}
use Rattle.lists.proofs.Lengths.{chosen}
use Rattle.lists.proofs.Uniform.{get_d_uniform}
use Rattle.codes.specs.Telnet.{IAC}
use Rattle.wire.specs.Frames.{coded, literal}
use Rattle.sent_macros.specs.Sending.{Sent, free, pending, pending_free, accepted, refused, no_definitions, sent_of, is_free, data_bytes, all_data_bytes}
use Rattle.printer.specs.State as P
use Rattle.bulletin.specs.State as B
use Rattle.read_back.specs.ReadBack.{Agreed, IacFree, OnlyHolds}
use Rattle.read_back.proofs.Steps.{reads, Reads, steps, all_read}
use Rattle.read_back.proofs.Bytes.{Stands, off_stands, plain_stands, coded_read, literal_read}

free_is : (e : Sent) → is_free e ≡ true → e ≡ free
free_is free h = refl
free_is (pending t) h = absurd (false≢true h)
free_is pending_free h = absurd (false≢true h)
free_is (accepted t) h = absurd (false≢true h)
free_is refused h = absurd (false≢true h)

-- 255 is free whether BM is in force or not
iac_now : (b : B.BulletinState) → IacFree b → sent_of (B.definitions_now b) IAC ≡ free
iac_now b iac = chosen (λ t. sent_of t IAC ≡ free) (B.bm_in_force b) (λ e. iac) (λ e. get_d_uniform 256 IAC free)

coded_bare : (x : ℕ) → eqb x IAC ≡ false → coded x ≡ x ∷ []
unfolding coded
coded_bare x k = rw k

module _ (b : B.BulletinState) (iac : IacFree b) (p : P.PrinterState) (a : Agreed b p) where
  -- a byte that is free now at the bulletin end is read as it stands
  free_stands : (x : ℕ) → sent_of (B.definitions_now b) x ≡ free → Stands p x
  free_stands x h = go (P.bm_in_force p) refl
    where
      go : (t : Bool) → P.bm_in_force p ≡ t → Stands p x
      go true on = plain_stands p x (a.none on x h)
      go false off = off_stands p x off

  pub iac_stands : Stands p IAC
  iac_stands = free_stands IAC (iac_now b iac)

  -- a byte other than 255: bare where it is free now, else as LITERAL; BM is then in force
  other_read : (x : ℕ) → eqb x IAC ≡ false
      → Reads (x ∷ []) p (steps reads p (cond (is_free (sent_of (B.definitions_now b) x)) (x ∷ []) (literal x)))
  other_read x k =
      chosen (λ bytes. Reads (x ∷ []) p (steps reads p bytes)) (is_free (sent_of (B.definitions_now b) x))
      (λ e. rw (coded_bare x k) at (coded_read p x a.between (free_stands x (free_is _ e))))
      (λ e. literal_read p x a.between iac_stands (a.macros (on (B.bm_in_force b) refl e)) k)
    where
      on : (t : Bool) → B.bm_in_force b ≡ t → is_free (sent_of (cond t b.table no_definitions) x) ≡ false → B.bm_in_force b ≡ true
      on true m e = m
      on false m e = absurd (false≢true (sym e ∙ rw (get_d_uniform 256 x free)))

  byte_read_lem : (x : ℕ) → Reads (x ∷ []) p (steps reads p (data_bytes (B.definitions_now b) x))
  unfolding data_bytes
  byte_read_lem x =
      chosen (λ bytes. Reads (x ∷ []) p (steps reads p bytes)) (eqb x IAC)
      (λ e. coded_read p x a.between (rw (eqb-true x IAC e) iac_stands))
      (λ e. other_read x e)

-- two states of the bulletin end that agreement does not tell apart
pub record SameTable (b c : B.BulletinState) : Type 0 where
  pub sides : c.sides ≡ b.sides
  pub table : c.table ≡ b.table

-- at the printer end it turns on the sides, the table and the phase alone
pub agreed_after : {b c : B.BulletinState} {x : List ℕ} {p q : P.PrinterState} → SameTable b c → OnlyHolds x p q → Agreed b p → Agreed c q
agreed_after s h a = record {
  macros = rw (s.sides, h.sides) a.macros;
  between = h.between;
  same = rw (s.sides, s.table, h.table) a.same;
  none = rw (s.sides, s.table, h.sides, h.table) a.none;
}

pub text_read_lem : (b : B.BulletinState) → IacFree b → (p : P.PrinterState) → Agreed b p → (bs : List ℕ)
    → Reads bs p (steps reads p (all_data_bytes (B.definitions_now b) bs))
text_read_lem b iac p a bs =
    all_read reads (data_bytes (B.definitions_now b)) (Agreed b) (λ q r. r.between)
    (λ x q r h k. agreed_after (record { sides = refl; table = refl }) h k) (byte_read_lem b iac) bs p a
