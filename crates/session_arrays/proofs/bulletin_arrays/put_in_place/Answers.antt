use mathlib.Core.Path.{ap}
use mathlib.Core.List.{List, ◌∷◌, ◌++◌}
use Prim.Native.Nat.{ℕ}
use native.Mathlib.Omega.{arith}
use lib.ListN.{get_or}
use Rattle.std.proofs.Math.Seq.{drop-cons}
use Rattle.std.proofs.lemmas.List.{drop-drop}
use Rattle.session_arrays.specs.Numbers.{sides_and_phase}
use Rattle.session_arrays.specs.BulletinArrays.{wait_numbers}
use Rattle.session_arrays.proofs.bulletin_arrays.put_in_place.Goals as goal

pub returns : goal.returns
returns c =
    let a = c.args in
    let small = a.small.now in
    let stored : List ℕ → List ℕ = λ last. sides_and_phase a.parts.sides a.parts.phase ++ get_or small 10 0 ∷ wait_numbers a.parts.waits ++ last in
    rw (c.copy_from_slice.ensures.after, c.copy_from_slice-2.ensures.after, c.sides_and_phase.ensures, c.wait_numbers.ensures, drop-cons small 10 0 (omega (arith, c.told-small)))
    (ap stored (drop-drop 4 11 small))
