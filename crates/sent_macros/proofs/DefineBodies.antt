-- The body of a DEFINE as it is put together.
use mathlib.Core.Path.{◌≡◌}
use mathlib.Core.List.{List, [], ◌∷◌, ◌++◌, append-nil}
use Prim.Native.Nat.{ℕ, ◌+◌, ◌≤◌}
use native.Mathlib.Numerals.{add-four}
use native.Mathlib.Omega.{arith}
use lib.ListN.{length, take, replicate}
use Rattle.lists.specs.Buffers.{Lent, WroteAtStart}
use Rattle.lists.proofs.ReadOff.{read_off}
use Rattle.codes.specs.Telnet.{BM, DEFINE}
use Rattle.sent_macros.specs.Sending.{stored, stored_room, all_data_bytes}
use Rattle.sent_macros.specs.Refinement.{bare_table}
use Rattle.sent_macros.proofs.DataBytes.{data_stored}

module _ (s : List ℕ) where
  pub stored_room_lem : length (stored s) ≤ stored_room → length (all_data_bytes (bare_table (replicate 256 0)) s) ≤ stored_room
  stored_room_lem h = rw (data_stored 256 s) h

  module _ {out : Lent} {n : ℕ} (run : WroteAtStart (all_data_bytes (bare_table (replicate 256 0)) s) out n) where
    wrote : WroteAtStart (stored s) out n
    wrote = rw (data_stored 256 s) at run

    pub stored_count : n ≡ length (stored s)
    stored_count = wrote.count

    -- the count stands before the text, and the array is no shorter than that
    pub body_is : (x : ℕ) → take (4 + n) ((BM ∷ DEFINE ∷ x ∷ n ∷ []) ++ (out.after ++ [])) ≡ BM ∷ DEFINE ∷ x ∷ length (stored s) ∷ stored s
    body_is x =
        let text : take n out.after ≡ stored s = read_off wrote in
        let four : 4 + n ≡ n + 4 = omega arith in
        rw (append-nil out.after, four, add-four n, text, stored_count)
