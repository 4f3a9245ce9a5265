-- The hypotheses of the claim about two sessions can be met, by computation.
use mathlib.Core.Path.{refl}
use mathlib.Core.Bool.{false}
use mathlib.Core.List.{List, [], ◌∷◌, map}
use Prim.Native.Nat.{ℕ}
use Rattle.keys.specs.declared.Key.{Key}
use Rattle.printer.specs.KeyOrder.{of_accepted}
use Rattle.noninterference.specs.TwoSessions.{Typed, Agree, UnprintedIn}
use Rattle.noninterference.specs.TwoSessions.Agree.{none, same, replaced}
use Rattle.noninterference.specs.TwoSessions.Unprinted.{unprinted}
use Rattle.noninterference.specs.TwoSessions.Typed.{char, line}
use Rattle.example_claims.specs.Bytes.{reads}
use Rattle.example_claims.specs.Opened.{printer_rules}
use Rattle.example_claims.specs.Replaced.{marks, typed, Instance, Replaced}

same_reads : (bytes : List ℕ) → Agree (map (λ b. false) bytes) (reads bytes) (reads bytes)
same_reads [] = none
same_reads (b ∷ bytes) = same (same_reads bytes)

-- lists that differ in their key alone agree
agreed : {k l : Key} → Typed k → Typed l → (before later : List ℕ) → Agree (marks before later) (typed before k later) (typed before l later)
agreed x y (b ∷ before) later = same (agreed x y before later)
agreed x y [] later = replaced x y (same_reads later)

met : {before later : List ℕ} {k l : Key} → Typed k → Typed l → UnprintedIn (marks before later) (typed before k later)
    → UnprintedIn (marks before later) (typed before l later) → Instance before k l later
met {before} {later} x y q r = record { agree = agreed x y before later; unprinted = q; other = r }

pub hypotheses_met : Replaced
unfolding printer_rules of_accepted
hypotheses_met = record {
  uneven = met (char 49) line (unprinted, tt) (unprinted, tt);
  same_width = (met (char 49) (char 50) (unprinted, tt) (unprinted, tt), (record { send = refl; long = refl }, tt));
  sends = (met (char 49) (char 50) (unprinted, tt) (unprinted, tt), (record { send = refl; long = refl }, tt));
  sent = refl;
  waits = (met (char 49) (char 50) (unprinted, tt) (unprinted, tt), (record { send = refl; long = refl }, tt));
  waiting = refl;
  stays = met (char 49) line tt tt;
  never = refl;
}
