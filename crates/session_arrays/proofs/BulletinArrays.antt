-- A stored bulletin end is found again, and a call by value with its state stored is the call on arrays.
use mathlib.Core.Path.{◌≡◌, subst}
use mathlib.Core.Bool.{true, false}
use Prim.Native.Nat.{ℕ}
use lib.ListN.{get_or}
use Rattle.lists.specs.Buffers.{Lent}
use Rattle.lists.proofs.Uniform.{get_d_uniform}
use Rattle.negotiation.specs.declared.End.{End}
use Rattle.negotiation.specs.Carried.{macros_in_force}
use Rattle.sent_macros.specs.Sending.{free, status_number}
use Rattle.sent_macros.specs.Refinement.{status_from}
use Rattle.sent_macros.proofs.Views.{status_at}
use Rattle.bulletin.specs.Calls.{macro_standing}
use Rattle.bulletin.specs.State.{BulletinState, CallEffect}
use Rattle.bulletin.specs.Refinement.{view_bulletin, RefinesAnswer, RefinesAnswerOnWire}
use Rattle.bulletin.specs.declared.Bulletin.{Bulletin}
use Rattle.bulletin.specs.declared.Answer.{Answer}
use Rattle.session_arrays.specs.declared.Outcome.{Outcome}
use Rattle.session_arrays.specs.declared.StandingNumbers.{StandingNumbers}
use Rattle.session_arrays.specs.Numbers.{sides_in}
use Rattle.session_arrays.specs.BulletinArrays.{BulletinArrays, decoded_bulletin, BulletinFoundAgain, LentBulletin, KeepsBulletin, RefinesOnBulletinArrays, RefinesOnBulletinArraysWire, standing_numbers}
use Rattle.session_arrays.proofs.Decoding.{option_state_found, phase_found, flag_found}

pub bulletin_found_again : BulletinFoundAgain
bulletin_found_again b = simp (option_state_found, phase_found, flag_found)

pub on_arrays : (rule : BulletinState → ℕ → ℕ → CallEffect) {arrays : LentBulletin} {host wire : Lent} {s : Bulletin} {a : Answer} {r : Outcome}
    → s ≡ decoded_bulletin arrays.before → RefinesAnswer (rule (view_bulletin s)) s host wire a → KeepsBulletin a arrays r → RefinesOnBulletinArrays rule arrays host wire r
on_arrays rule {arrays} {host} {wire} {s} {a} {r} found refines keeps = record {
  answer = a;
  refines = subst (λ (t : Bulletin). RefinesAnswer (rule (view_bulletin t)) t host wire a) found refines;
  keeps = keeps;
}

pub on_arrays_wire : (rule : BulletinState → ℕ → CallEffect) {arrays : LentBulletin} {wire : Lent} {s : Bulletin} {a : Answer} {r : Outcome}
    → s ≡ decoded_bulletin arrays.before → RefinesAnswerOnWire (rule (view_bulletin s)) s wire a → KeepsBulletin a arrays r → RefinesOnBulletinArraysWire rule arrays wire r
on_arrays_wire rule {arrays} {wire} {s} {a} {r} found refines keeps = record {
  answer = a;
  refines = subst (λ (t : Bulletin). RefinesAnswerOnWire (rule (view_bulletin t)) t wire a) found refines;
  keeps = keeps;
}

-- how a byte stands, by BM's state, the statuses and the issues alone
module _ (a : BulletinArrays) (x : ℕ) where
  abbrev told : StandingNumbers
  told = standing_numbers (macro_standing (view_bulletin (decoded_bulletin a)) x)

  pub standing_on : macros_in_force End.Bulletin (sides_in a.small) ≡ true
      → record { status = status_number (status_from (get_or a.statuses x 0)); kept = get_or a.kept x 0; present = get_or a.issue 0 0 } ≡ told
  standing_on on = rw (on, status_at (decoded_bulletin a).table x)

  pub standing_off : macros_in_force End.Bulletin (sides_in a.small) ≡ false → record { status = 0; kept = 0; present = get_or a.issue 0 0 } ≡ told
  standing_off off = rw (off, get_d_uniform 256 x free)
