-- The answer to a PLEASE CANCEL.
use mathlib.Core.Path.{◌≡◌, refl}
use mathlib.Core.Bool.{true, false}
use mathlib.Core.List.{List, [], ◌∷◌}
use Prim.Native.Nat.{ℕ, ◌≤◌}
use native.Mathlib.Omega.{arith}
use borrow.Author.Tests.{eq-eqb}
use lib.ListN.{length, set}
use Rattle.lists.specs.Buffers.{Lent, untouched, WroteAtStart, RoomFor}
use Rattle.lists.proofs.FlatMap.{flat_map_one}
use Rattle.lists.proofs.Starts.{wrote_none}
use Rattle.wire.specs.Frames.{coded}
use Rattle.wire.proofs.Coded.{coded_long}
use Rattle.sent_macros.specs.declared.Status.TheVariants.{PendingFree}
use Rattle.sent_macros.specs.declared.SendingTable.{SendingTable}
use Rattle.sent_macros.specs.Sending.{pending_free, sent_of, is_accepted, stored, stored_room, defining, define_bytes, cancel_bytes}
use Rattle.sent_macros.specs.Refinement.{sent_as, view_table, RefinesTable, RefinesCancel}

module _ (t : SendingTable) (x : ℕ) where
  pub not_cancelled : is_accepted (sent_of (view_table t) x) ≡ false → (out : List ℕ) → RefinesCancel t x (untouched out) (record { wire = 0; table = t })
  not_cancelled e out = record { wire = rw e (wrote_none out); table = rw e (record { view = refl; clean = λ c. c; same = λ _. refl }) }

  pub itself_short : length (stored (x ∷ [])) ≤ stored_room
  itself_short = rw (flat_map_one coded x) (omega (arith, coded_long x))

  itself_is : defining (view_table t) x (x ∷ []) ≡ set (view_table t) x pending_free
  unfolding defining
  itself_is = rw (eq-eqb x x refl)

  module _ (is : is_accepted (sent_of (view_table t) x) ≡ true) where
    pub cancel_room : (out : List ℕ) → RoomFor (cancel_bytes (view_table t) x) out → RoomFor (define_bytes x (x ∷ [])) out
    cancel_room out room = rw is at room

    pub cancelled_met : {out : Lent} {n : ℕ} → WroteAtStart (define_bytes x (x ∷ [])) out n
        → (r : SendingTable) → RefinesTable (set (view_table t) x (sent_as PendingFree [])) true t r → RefinesCancel t x out (record { wire = n; table = r })
    cancelled_met wrote r met = record { wire = rw is wrote; table = rw (is, itself_is) met }
