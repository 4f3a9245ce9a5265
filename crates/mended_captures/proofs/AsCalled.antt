-- What a call wrote is what its contract's rule says.
use mathlib.Core.Path.{◌≡◌, refl, sym, ap, ◌∙◌}
use mathlib.Core.Bool.{Bool, true, false, cond}
use mathlib.Core.List.{List, [], flat_map}
use Prim.Native.Nat.{ℕ, ◌≤◌, ◌<◌}
use native.Mathlib.Omega.{arith}
use borrow.Author.Tests.{lt-ltb, le-ltb}
use lib.Dec.{ltb}
use lib.ListN.{length}
use Rattle.lists.proofs.ReadOff.{read_off}
use Rattle.mending.specs.declared.Outcome.TheVariants.{Mended, TooLong, NoRoom}
use Rattle.mending.specs.Mending.{capture_room, list_room, mended, drops, lines_of, too_long, lacks_room, MendEffect, mends_to, mend_call}
use Rattle.mending.proofs.Dropping.{mended_is_without_drops, mended_twice}
use Rattle.mended_captures.specs.AsCalled.{MendCalled, out_of, list_of, IsMended, Roomy, MendedOrTooLong, OutputReadsWell, OutputMendedAgain}
use Rattle.mended_captures.proofs.Notes.{reads_without_fault}
use Rattle.mended_captures.proofs.SameReading.{reads_as_before}

-- a call that mended did what the rule says of a capture that is not too long
abbrev Chosen : Bool → Bool → MendEffect → MendEffect
Chosen small long done = cond small (mends_to NoRoom [] []) (cond long (mends_to TooLong [] too_long) done)

only_done : (small long : Bool) (done : MendEffect) → (Chosen small long done).outcome ≡ Mended → Chosen small long done ≡ done
only_done true long done e = let z : ◌≡◌ {A = ℕ} 0 1 = cc e in absurd (omega (arith, z))
only_done false true done e = let z : ◌≡◌ {A = ℕ} 0 1 = cc e in absurd (omega (arith, z))
only_done false false done e = refl

module _ (c : MendCalled) where
  abbrev effect : MendEffect
  effect = mend_call c.capture (length c.out.before) (length c.list.before)

  out_is : out_of c ≡ effect.bytes
  out_is = read_off c.meets.bytes

  list_is : list_of c ≡ effect.lines
  list_is = read_off c.meets.lines

  mended_is : IsMended c → effect ≡ mends_to Mended (mended c.capture) (lines_of (drops c.capture))
  unfolding mend_call
  mended_is h = only_done (lacks_room (length c.out.before) (length c.list.before)) (ltb capture_room (length c.capture)) _ (sym c.meets.outcome ∙ h)

  out_mended : IsMended c → out_of c ≡ mended c.capture
  out_mended h = out_is ∙ ap (λ (e : MendEffect). e.bytes) (mended_is h)

  list_mended : IsMended c → list_of c ≡ lines_of (drops c.capture)
  list_mended h = list_is ∙ ap (λ (e : MendEffect). e.lines) (mended_is h)

  roomy : Roomy c → lacks_room (length c.out.before) (length c.list.before) ≡ false
  roomy r = rw (le-ltb (length c.out.before) capture_room r.out, le-ltb (length c.list.before) list_room r.list)

  short_is : Roomy c → length c.capture ≤ capture_room → effect.outcome ≡ Mended
  unfolding mend_call
  short_is r h = rw (roomy r, le-ltb capture_room (length c.capture) h)

  long_is : Roomy c → capture_room < length c.capture → effect ≡ mends_to TooLong [] too_long
  unfolding mend_call
  long_is r h = rw (roomy r, lt-ltb capture_room (length c.capture) h)

pub mended_or_too_long : MendedOrTooLong
mended_or_too_long c r = (
  λ h. c.meets.outcome ∙ short_is c r h,
  λ h.
      let e = long_is c r h in (
        c.meets.outcome ∙ ap (λ (x : MendEffect). x.outcome) e,
        out_is c ∙ ap (λ (x : MendEffect). x.bytes) e,
        list_is c ∙ ap (λ (x : MendEffect). x.lines) e,
      ),
)

pub output_reads_well : OutputReadsWell
output_reads_well c h = (
  list_mended c h,
  out_mended c h ∙ mended_is_without_drops c.capture,
  λ s. record {
    notes = rw (out_mended c h) (reads_without_fault s c.capture).0;
    ends = rw (out_mended c h) (reads_without_fault s c.capture).1;
    same = rw (out_mended c h) (reads_as_before s c.capture);
  },
)

pub output_mended_again : OutputMendedAgain
unfolding flat_map
output_mended_again first second f s e =
    let again = mended_twice first.capture in
    let given : second.capture ≡ mended first.capture = e ∙ out_mended first f in (
      out_mended second s ∙ (ap mended given ∙ (again.1 ∙ sym (out_mended first f))),
      list_mended second s ∙ (ap (λ (c : List ℕ). lines_of (drops c)) given ∙ ap lines_of again.0),
    )
