-- Output does not wait just if it waits for no option.
use mathlib.Core.Path.{◌≡◌, refl}
use mathlib.Core.Bool.{Bool, true, false, ◌||◌, true≢false}
use Rattle.disposition.specs.ByOption.{Waits, no_waits, is_waiting}

pub none_waits : (w : Waits) → is_waiting w ≡ false → w ≡ no_waits
unfolding is_waiting
none_waits w e = go w.naocrd w.naolfd w.naoffd w.naohtd e
  where
    go : (a b c d : Bool) → (a || b || c || d) ≡ false → record { naocrd = a; naolfd = b; naoffd = c; naohtd = d } ≡ no_waits
    go true b c d e = absurd (true≢false e)
    go false true c d e = absurd (true≢false e)
    go false false true d e = absurd (true≢false e)
    go false false false true e = absurd (true≢false e)
    go false false false false e = refl
