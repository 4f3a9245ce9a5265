-- The bulletin end reads runs as reader/NetworkEnd asks: its rule keeps the laws.
use Rattle.std.specs.Prelude.{◌≡◌, ℕ, true, false, refl}
use mathlib.Core.List.{append_assoc, append-nil}
use Rattle.codes.specs.Answers.{no_room, guarded}
use Rattle.codes.specs.declared.Code.TheVariants.{Done, NoRoom}
use Rattle.codes.proofs.Notes.{first_assoc, first_clear}
use Rattle.reader.specs.NetworkEnd.{Lawful}
use Rattle.bulletin.specs.declared.Bulletin.{Bulletin}
use Rattle.bulletin.specs.State.{BulletinState, Effect, nothing}
use Rattle.bulletin.specs.Network.{network_read}
use Rattle.bulletin.specs.Calls.{network_call}
use Rattle.bulletin.specs.NetworkRun.{bulletin_byte, followed, giving}
use Rattle.bulletin.specs.Refinement.{CleanBulletin, WholeBulletin}

pub call_refused : (s : BulletinState) (b p w : ℕ) → no_room p w ≡ true → (network_call s b p w).code ≡ NoRoom
unfolding network_call guarded
call_refused s b p w h = rw h

pub call_done : (s : BulletinState) (b p w : ℕ) → no_room p w ≡ false → ((network_call s b p w).code ≡ Done) × ((network_call s b p w).effect ≡ network_read s b)
unfolding network_call guarded
call_done s b p w h = (rw h, rw h)

pub followed_assoc : (a b c : Effect) → followed (followed a b) c ≡ followed a (followed b c)
followed_assoc a b c = rw (first_assoc a.note b.note c.note, append_assoc a.host b.host c.host, append_assoc a.wire b.wire c.wire)

pub followed_nothing : (d : Effect) → followed d (nothing d.state) ≡ d
followed_nothing d = rw (first_clear d.note, append-nil d.host, append-nil d.wire)

abbrev pub lawful : Lawful bulletin_byte
lawful = record {
  read = network_read;
  plain = giving;
  refused = call_refused;
  done = call_done;
  note_both = λ c d. refl;
  first_both = λ c d. refl;
  wire_both = λ c d. refl;
  state_both = λ c d. refl;
  assoc = followed_assoc;
  none_before = λ s d. refl;
  none_behind = followed_nothing;
  plain_none = λ s. refl;
  plain_more = λ x xs s. refl;
  plain_note = λ xs s. refl;
  plain_first = λ xs s. refl;
  plain_wire = λ xs s. refl;
  plain_state = λ xs s. refl;
}

-- what bytes keep of the code's state besides its view
pub record Keeps (s t : Bulletin) : Type 0 where
  pub clean : CleanBulletin s → CleanBulletin t
  pub whole : WholeBulletin s → WholeBulletin t
