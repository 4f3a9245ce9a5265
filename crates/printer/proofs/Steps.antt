-- Steps put one behind the other.
use mathlib.Core.Path.{◌≡◌, sym, ap}
use mathlib.Core.Bool.{true, false}
use mathlib.Core.List.{List, []}
use Prim.Native.Nat.{ℕ, suc, ◌+◌, ◌<◌}
use native.Mathlib.Numerals.{add-one}
use lib.ListN.{length, drop, get_or}
use lib.Seq.{drop-cons}
use Rattle.negotiation.specs.declared.Side.TheVariants.{Rcte}
use Rattle.negotiation.specs.declared.OptionState.{OptionState}
use Rattle.negotiation.specs.Table.{is_yes}
use Rattle.negotiation.specs.declared.Sides.{Sides}
use Rattle.negotiation.specs.Carried.{moved}
use Rattle.printer.specs.State.{PrinterState, Effect, followed, rcte_in_force, with_sides}
use Rattle.printer.specs.NetworkEnd.{followed_assoc, followed_nothing}
use Rattle.printer.specs.Network.{rcte_moved, side_moved, byte_read, bytes_read}

-- the text read so far, and then its next byte
pub text_next : (acc : Effect) (text : List ℕ) (i : ℕ) → i < length text
    → followed acc (bytes_read acc.state (drop i text))
    ≡ followed (followed acc (byte_read acc.state (get_or text i 0))) (bytes_read (byte_read acc.state (get_or text i 0)).state (drop (i + 1) text))
unfolding bytes_read
text_next acc text i lt =
    rw (drop-cons text i 0 lt, add-one i)
    (sym (followed_assoc acc (byte_read acc.state (get_or text i 0)) (bytes_read (byte_read acc.state (get_or text i 0)).state (drop (suc i) text))))

-- behind the last byte
pub text_done : (acc : Effect) → followed acc (bytes_read acc.state []) ≡ acc
unfolding bytes_read
text_done acc = followed_nothing acc
