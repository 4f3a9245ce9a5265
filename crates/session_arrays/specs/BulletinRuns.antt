-- A run of network bytes at the bulletin end, on arrays that a host lends.
use Rattle.std.specs.Prelude.{◌≡◌, Bool, true, List, ℕ, length, get_or, Option, Some, None, is_some}
use Rattle.lists.specs.Buffers.{Lent, WroteBothAtStart}
use Rattle.codes.specs.Answers.{code_number, note_number}
use Rattle.codes.specs.declared.Code.TheVariants.{Done}
use Rattle.reader.specs.Numbers.{phase_of}
use Rattle.reader.specs.NetworkRun.{RunCallEffect}
use Rattle.bulletin.specs.State.{BulletinState, Effect}
use Rattle.bulletin.specs.declared.in_place.Parts.{Parts}
use Rattle.bulletin.specs.InPlace.{InPlaceEffect, in_place_read}
use Rattle.bulletin.specs.Stretches.{data_stretch, is_plain_byte}
use Rattle.bulletin.specs.Refinement.{view_bulletin, CleanBulletin}
use Rattle.reader.specs.declared.network_runs.ByteOutcome.{ByteOutcome}
use Rattle.session_arrays.specs.declared.RunOutcome.{RunOutcome}
use Rattle.session_arrays.specs.Numbers.{sides_in}
use Rattle.session_arrays.specs.declared.bulletin_arrays.LentBulletinArrays.{LentBulletinArrays}
use Rattle.session_arrays.specs.BulletinArrays.{BulletinArrays, arrays_of_bulletin, waits_in, decoded_bulletin, encoded_bulletin, small_in_place, LentBulletin, arrays_in, SameArrays}

-- the arrays as a session leaves them, as at the printer end
pub record SoundBulletin (a : BulletinArrays) : Type 0 where
  pub clean : CleanBulletin (decoded_bulletin a)
  pub encoded : encoded_bulletin (decoded_bulletin a) ≡ a

-- a byte that was read does what the rule says, and leaves sound arrays sound
pub record RefinesByteOnBulletinArrays (d : Effect) (arrays : LentBulletin) (host wire : Lent) (r : ByteOutcome) : Type 0 where
  pub note : r.note ≡ d.note
  pub wrote : WroteBothAtStart d.host d.wire host wire r.first r.wire
  pub view : view_bulletin (decoded_bulletin arrays.after) ≡ d.state
  pub sound : SoundBulletin arrays.before → SoundBulletin arrays.after

-- as `RefinesRunOutcome` of the run by value; the state that the arrays stand for is the rule's, and a refusal leaves them as they were
pub record RefinesRunOutcomeOnBulletinArrays (a : RunCallEffect Effect) (arrays : LentBulletin) (host wire : Lent) (r : RunOutcome) : Type 0 where
  pub code : r.code ≡ code_number a.code
  pub note : r.note ≡ note_number a.ran.effect.note
  pub taken : r.taken ≡ a.ran.taken
  pub wrote : WroteBothAtStart a.ran.effect.host a.ran.effect.wire host wire r.first r.wire
  pub view : view_bulletin (decoded_bulletin arrays.after) ≡ a.ran.effect.state
  pub sound : SoundBulletin arrays.before → SoundBulletin arrays.after
  pub same : (a.code ≡ Done → ⊥) → arrays.after ≡ arrays.before

-- what a run owes to its rule, which goes by the sizes of the two buffers
abbrev pub RefinesRunOnBulletinArrays : (ℕ → ℕ → RunCallEffect Effect) → LentBulletin → Lent → Lent → RunOutcome → Type 0
RefinesRunOnBulletinArrays rule arrays host wire r = RefinesRunOutcomeOnBulletinArrays (rule (length host.before) (length wire.before)) arrays host wire r

-- what the small parts alone decide: how many bytes at the front are plain, whether one byte is, and what a byte does in place
abbrev pub stretch_in : (small bytes : List ℕ) → ℕ
stretch_in small bytes = data_stretch (phase_of (get_or small 9 0)) (waits_in small) bytes

abbrev pub is_plain_in : (small : List ℕ) → ℕ → Bool
is_plain_in small b = is_plain_byte (phase_of (get_or small 9 0)) (waits_in small) b

abbrev pub parts_in : (small : List ℕ) → Parts
parts_in small = record { sides = sides_in small; phase = phase_of (get_or small 9 0); waits = waits_in small }

abbrev pub in_place_in : (small : List ℕ) → ℕ → Option InPlaceEffect
in_place_in small b = in_place_read (parts_in small) b

-- the option states, the phase and the waits stored, and nothing else
abbrev pub stored_in_place : Parts → BulletinArrays → BulletinArrays
stored_in_place p a = arrays_of_bulletin (small_in_place a.small p) a.counts a.body a.statuses a.marks a.cells a.issue a.kept

-- .. of a byte that the rule has such parts of
abbrev pub StoredInPlace : Option InPlaceEffect → LentBulletin → Type 0
StoredInPlace (Some e) arrays = arrays.after ≡ stored_in_place e.parts arrays.before
StoredInPlace None arrays = ⊥

-- a byte read in place by the code, just where the rule has such a one, as at the printer end
abbrev pub ReadsInPlace : Option InPlaceEffect → Effect → LentBulletin → (host wire : Lent) → Option ByteOutcome → Type 0
ReadsInPlace e d arrays host wire (Some r) = (is_some e ≡ true) × StoredInPlace e arrays × RefinesByteOnBulletinArrays d arrays host wire r
ReadsInPlace e d arrays host wire None = (e ≡ None) × (arrays.after ≡ arrays.before) × (host.after ≡ host.before) × (wire.after ≡ wire.before)

-- the struct of arrays as it reads runs: the state that it stands for, and what bytes keep of it besides
abbrev pub view_lent : LentBulletinArrays → BulletinState
view_lent a = view_bulletin (decoded_bulletin (arrays_in a))

pub record Keeps (s t : LentBulletinArrays) : Type 0 where
  pub sound : SoundBulletin (arrays_in s) → SoundBulletin (arrays_in t)
  pub same_arrays : SameArrays s t
