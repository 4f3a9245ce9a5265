-- A run of network bytes on the bulletin end's arrays: how its code meets the rule.
use Rattle.std.specs.Prelude.{Option, Some, None, is_some}
use mathlib.Core.Path.{◌≡◌, refl, sym, ap, subst, ◌∙◌}
use mathlib.Core.Bool.{true, false}
use mathlib.Core.List.{List, [], ◌∷◌}
use Prim.Native.Nat.{ℕ, ◌-◌}
use native.Mathlib.Omega.{arith}
use lib.ListN.{length, get_or, set}
use lib.Seq.{get_or-drop}
use Rattle.lists.specs.Buffers.{Lent, lent_as, untouched, WroteBothAtStart}
use Rattle.lists.proofs.Starts.{wrote_none, wrote_start}
use Rattle.codes.specs.Answers.{no_room, note_number}
use Rattle.codes.specs.declared.Code.TheVariants.{Done, NoRoom}
use Rattle.codes.specs.declared.Note.TheVariants.{Clear}
use Rattle.codes.proofs.Rooms.{both_lent}
use Rattle.reader.specs.NetworkRun.{RunEffect, cannot_begin, ran_from}
use Rattle.reader.proofs.NetworkRun.{run_refused, run_begun, ran_plain, ran_none, further_stays}
use Rattle.reader.specs.NetworkEnd.{PlainAt, Finished}
use Rattle.reader.specs.declared.network_runs.ByteOutcome.{ByteOutcome}
use Rattle.reader.specs.declared.network_runs.Ran.{Ran}
use Rattle.bulletin.specs.State.{BulletinState, Effect}
use Rattle.bulletin.specs.Network.{network_read}
use Rattle.bulletin.specs.Calls.{network_call}
use Rattle.bulletin.specs.NetworkRun.{giving, bulletin_byte, network_run}
use Rattle.bulletin.specs.InPlace.{InPlaceEffect, in_place, HasRoom, RefinesInPlace}
use Rattle.bulletin.specs.Refinement.{view_bulletin, CleanBulletin, RefinesAnswer}
use Rattle.bulletin.specs.declared.Bulletin.{Bulletin}
use Rattle.bulletin.specs.declared.Answer.{Answer}
use Rattle.bulletin.specs.declared.in_place.InPlace.{InPlace}
use Rattle.bulletin.specs.declared.in_place.Parts.{Parts}
use Rattle.bulletin.proofs.InPlace.{read_in_place, room_in_place, refined_none, refined_some}
use Rattle.bulletin.proofs.PlainBytes.{byte_plain}
use Rattle.bulletin.specs.NetworkEnd.{lawful, call_done}
use Rattle.session_arrays.specs.declared.bulletin_arrays.LentBulletinArrays.{LentBulletinArrays}
use Rattle.session_arrays.specs.Numbers.{run_outcome}
use Rattle.session_arrays.specs.BulletinArrays.{BulletinArrays, decoded_bulletin, small_in_place, encoded_bulletin, LentBulletin, arrays_of_bulletin, lent_between}
use Rattle.session_arrays.specs.BulletinRuns.{view_lent, Keeps, SoundBulletin, RefinesByteOnBulletinArrays, RefinesRunOutcomeOnBulletinArrays, RefinesRunOnBulletinArrays, is_plain_in, in_place_in, stored_in_place, StoredInPlace}
use Rattle.session_arrays.proofs.BulletinArrays.{bulletin_found_again}
use Rattle.session_arrays.proofs.Decoding.{option_state_found, phase_found, flag_found}

-- the state that arrays stand for, as the rules see it
abbrev pub view_arrays : BulletinArrays → BulletinState
view_arrays a = view_bulletin (decoded_bulletin a)

abbrev pub lent_arrays : BulletinArrays → BulletinArrays → LentBulletin
lent_arrays before after = record { before = before; after = after }

-- a byte behind which the arrays stand for t
stands_for : {d : Effect} {before after : BulletinArrays} {host wire : Lent} {r : ByteOutcome} (t : Bulletin)
    → decoded_bulletin after ≡ t → (SoundBulletin before → after ≡ encoded_bulletin t) → (CleanBulletin (decoded_bulletin before) → CleanBulletin t)
    → r.note ≡ d.note → WroteBothAtStart d.host d.wire host wire r.first r.wire → view_bulletin t ≡ d.state
    → RefinesByteOnBulletinArrays d (lent_arrays before after) host wire r
stands_for t is encoded clean note wrote view = record {
  note = note;
  wrote = wrote;
  view = ap view_bulletin is ∙ view;
  sound = λ k. record { clean = subst CleanBulletin (sym is) (clean k.clean); encoded = ap encoded_bulletin is ∙ sym (encoded k) };
}

-- a byte that was read by value
pub byte_by_value : (b : ℕ) {before after : BulletinArrays} {host wire : Lent} {s : Bulletin} {a : Answer}
    → no_room (length host.before) (length wire.before) ≡ false
    → s ≡ decoded_bulletin before → RefinesAnswer (network_call (view_bulletin s) b) s host wire a → after ≡ encoded_bulletin a.state
    → RefinesByteOnBulletinArrays (network_read (view_arrays before) b) (lent_arrays before after) host wire (record { note = a.note; first = a.host; wire = a.wire })
byte_by_value b {before} {after} {host} {wire} {s} {a} room found refines stored =
    let read = (call_done (view_bulletin s) b (length host.before) (length wire.before) room).1 in
    let same : (network_call (view_bulletin s) b (length host.before) (length wire.before)).effect ≡ network_read (view_arrays before) b = read ∙ ap (λ (t : Bulletin). network_read (view_bulletin t) b) found in
    rw (← same)
    (stands_for a.state (ap decoded_bulletin stored ∙ bulletin_found_again a.state) (λ k. stored) (λ k. refines.clean (subst CleanBulletin (sym found) k)) refines.note (record { paper = refines.given; wire = refines.sent }) refines.view)

-- the option states, the phase and the waits stored alone: the arrays then stand for the same state with these parts
in_place_found : (p : Parts) (a : BulletinArrays) → decoded_bulletin (stored_in_place p a) ≡ in_place (decoded_bulletin a) p
in_place_found p a = simp (option_state_found, phase_found, flag_found, get_or-drop)

abbrev with_small : BulletinArrays → List ℕ → BulletinArrays
with_small a small = arrays_of_bulletin small a.counts a.body a.statuses a.marks a.cells a.issue a.kept

-- a byte that was handled in place
pub byte_in_place : (b : ℕ) (before : BulletinArrays) {small : List ℕ} {host wire : Lent} (r : InPlace)
    → RefinesInPlace (in_place_in before.small b) host wire (Some r)
    → small ≡ small_in_place before.small r.parts
    → (is_some (in_place_in before.small b) ≡ true) × StoredInPlace (in_place_in before.small b) (lent_arrays before (with_small before small))
    × RefinesByteOnBulletinArrays (network_read (view_arrays before) b) (lent_arrays before (with_small before small))
    host wire (record { note = Clear; first = r.host; wire = r.wire })
byte_in_place b before {small} {host} {wire} r met put =
    let s = decoded_bulletin before in
    let found = refined_some (in_place_in before.small b) host wire r met in
    let p = found.0.parts in
    let at : small ≡ small_in_place before.small p = put ∙ ap (small_in_place before.small) found.1.1.parts in (
      ap (λ (o : Option InPlaceEffect). is_some o) found.1.0,
      rw found.1.0 (ap (with_small before) at),
      rw (read_in_place s b found.0 found.1.0, at)
          (stands_for (in_place s p) (in_place_found p before) (λ k. ap (stored_in_place p) (sym k.encoded))
          (λ k. record { reader = k.reader; table = k.table }) refl found.1.1.wrote refl),
    )

none_there : (o : Option InPlaceEffect) (host wire : Lent) → RefinesInPlace o host wire None → o ≡ None
none_there None host wire met = refl
none_there (Some e) host wire met = absurd met

-- one that was not handled: the rule has none, and both buffers are as they were
pub byte_stays : (before : BulletinArrays) (b : ℕ) (host wire : Lent) → RefinesInPlace (in_place_in before.small b) host wire None
    → (in_place_in before.small b ≡ None) × (host.after ≡ host.before) × (wire.after ≡ wire.before)
byte_stays before b host wire met =
    let wrote = refined_none (in_place_in before.small b) host wire met in
    (none_there (in_place_in before.small b) host wire met, wrote.paper.cells, wrote.wire.cells)

-- the room that code 1 asks for is enough for what a byte writes in place
pub room_in_arrays : (small : List ℕ) (b : ℕ) (host wire : List ℕ) → no_room (length host) (length wire) ≡ false → HasRoom (in_place_in small b) host wire
room_in_arrays small b host wire room = room_in_place (decoded_bulletin (arrays_of_bulletin small [] [] [] [] [] [] [])) b host wire room

-- a run's outcome, as the laws at either end have it
pub refines_run : {x : RunEffect Effect} {before after : LentBulletinArrays} {host wire : Lent} {r : Ran}
    → Finished lawful view_lent Keeps x before after host wire r
    → RefinesRunOutcomeOnBulletinArrays (record { code = Done; ran = x }) (lent_between before after) host wire (run_outcome Done r.note r.taken r.first r.wire)
refines_run f = record {
  code = refl;
  note = ap note_number f.step.note;
  taken = f.taken;
  wrote = record { paper = f.step.on_first; wire = f.step.on_wire };
  view = f.step.sees;
  sound = f.step.kept.sound;
  same = λ n. absurd (n refl);
}

pub refines_refused : (arrays : BulletinArrays) (bytes host wire : List ℕ) → cannot_begin (length bytes) (length host) (length wire) ≡ true
    → RefinesRunOnBulletinArrays (network_run (view_arrays arrays) bytes) (lent_arrays arrays arrays) (untouched host) (untouched wire) (run_outcome NoRoom Clear 0 0 0)
refines_refused arrays bytes host wire h = rw (run_refused lawful (view_arrays arrays) bytes (length host) (length wire) h) (record {
  code = refl;
  note = refl;
  taken = refl;
  wrote = record { paper = wrote_none host; wire = wrote_none wire };
  view = refl;
  sound = λ k. k;
  same = λ _. refl;
})

-- a run of one plain byte: it goes to the host, and the arrays stay as they were
module _ (arrays : BulletinArrays) (b : ℕ) (host wire : List ℕ) (room : cannot_begin 1 (length host) (length wire) ≡ false)
    (plain : is_plain_in arrays.small b ≡ true) where
  one_ran : ran_from bulletin_byte (view_arrays arrays) (b ∷ []) (length host) (length wire) ≡ record { taken = 1; effect = giving (b ∷ []) (view_arrays arrays) }
  one_ran =
      let s = view_arrays arrays in
      let lent = both_lent (length host) (length wire) room in
      let each : PlainAt lawful s (b ∷ []) = λ j lt. let first : j ≡ 0 = omega (arith, lt) in rw first (byte_plain s b plain) in
      ran_plain lawful s (b ∷ []) [] (length host) (length wire) each (omega (arith, lent.0)) lent.1
      ∙ (rw (ran_none lawful s (length host - 1) (length wire)) (further_stays lawful 1 (giving (b ∷ []) s)))

  one_refines : RefinesRunOnBulletinArrays (network_run (view_arrays arrays) (b ∷ [])) (lent_arrays arrays arrays) (lent_as host (set host 0 b)) (untouched wire) (run_outcome Done Clear 1 1 0)
  one_refines =
      let lent = both_lent (length host) (length wire) room in
      rw (run_begun lawful (view_arrays arrays) (b ∷ []) (length host) (length wire) room, one_ran) (record {
        code = refl;
        note = refl;
        taken = refl;
        wrote = record { paper = wrote_start (b ∷ []) host (omega (arith, lent.0)); wire = wrote_none wire };
        view = refl;
        sound = λ k. k;
        same = λ n. absurd (n refl);
      })

pub refines_one : (arrays : BulletinArrays) (bytes host wire : List ℕ) → length bytes ≡ 1 → cannot_begin (length bytes) (length host) (length wire) ≡ false
    → is_plain_in arrays.small (get_or bytes 0 0) ≡ true
    → RefinesRunOnBulletinArrays (network_run (view_arrays arrays) bytes) (lent_arrays arrays arrays) (lent_as host (set host 0 (get_or bytes 0 0))) (untouched wire) (run_outcome Done Clear 1 1 0)
refines_one arrays [] host wire one room plain = absurd (omega (arith, one))
refines_one arrays (b ∷ []) host wire one room plain = one_refines arrays b host wire room plain
refines_one arrays (b ∷ c ∷ bs) host wire one room plain = absurd (omega (arith, one))
