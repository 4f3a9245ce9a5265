-- The incident, by computation and by the claims.
use mathlib.Core.Path.{◌≡◌, refl, sym, ◌∙◌}
use mathlib.Core.Bool.{true}
use mathlib.Core.List.{List}
use Prim.Native.Nat.{ℕ}
use native.Mathlib.Omega.{arith}
use lib.ListN.{set}
use lib.Dec.{lit<}
use Rattle.reader.specs.declared.Phase.TheVariants.{Between}
use Rattle.received_macros.specs.Texts.{text, no_macros}
use Rattle.sent_macros.specs.Sending.{free, accepted, refused, no_definitions}
use Rattle.printer.specs.State as P
use Rattle.bulletin.specs.State as B
use Rattle.read_back.specs.ReadBack.{Demanded}
use Rattle.read_back.specs.Incident.{old_text, calls, b, p, Incident}
use Rattle.read_back.proofs.Opened.{both_rules}
use Rattle.read_back.proofs.Sessions.{iac_stays_free}
use Rattle.read_back.proofs.Tables.{same_text, no_text}
use Rattle.read_back.proofs.ReadBack.{all_read_back, demanded_agree}

here_on : B.bm_in_force b ≡ true
unfolding both_rules
here_on = refl

there_on : P.bm_in_force p ≡ true
unfolding both_rules
there_on = refl

between_there : p.reader.phase ≡ Between
unfolding both_rules
between_there = refl

here_is : b.table ≡ set no_definitions 128 refused
unfolding both_rules
here_is = refl

there_is : p.table ≡ set no_macros 128 (text old_text)
unfolding both_rules
there_is = refl

-- of a refused byte nothing is asked
not_accepted : (t : List ℕ) → refused ≡ accepted t → ⊥
not_accepted t h = let z : ◌≡◌ {A = ℕ} 0 1 = cc in omega arith

not_free : refused ≡ free → ⊥
not_free h = let z : ◌≡◌ {A = ℕ} 0 1 = cc in omega arith

demanded : Demanded b p
demanded = record {
  macros = here_on ∙ sym there_on;
  between_commands = between_there;
  same = rw (here_is, there_is) (same_text 128 (lit< tt) refused (text old_text) (λ t h. absurd (not_accepted t h)));
  none = rw (here_is, there_is) (no_text 128 (lit< tt) refused (text old_text) (λ h. absurd (not_free h)));
}

pub incident : Incident
unfolding both_rules
incident = record {
  sent = refl;
  lost = refl;
  replies = refl;
  kept = refl;
  is_refused = refl;
  demanded = demanded;
  code = refl;
  wire = refl;
  paper = refl;
  back = λ cs later n. all_read_back b p (iac_stays_free calls) (demanded_agree b p demanded) cs later n;
}
