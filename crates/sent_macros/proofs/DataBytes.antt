-- A data byte on the wire, by the tests of the code.
use mathlib.Core.Path.{◌≡◌, refl}
use mathlib.Core.Bool.{Bool, true, false, cond}
use mathlib.Core.List.{List, [], ◌∷◌}
use Prim.Native.Nat.{ℕ}
use borrow.Author.Tests.{eq-eqb, ne_eqb}
use lib.Dec.{eqb}
use lib.ListN.{replicate}
use Rattle.lists.proofs.Uniform.{get_d_uniform}
use Rattle.lists.proofs.FlatMap.{flat_map_same}
use Rattle.wire.specs.Frames.{coded, literal}
use Rattle.sent_macros.specs.declared.SendingTable.{SendingTable}
use Rattle.sent_macros.specs.Sending.{Definitions, sent_of, is_free, stored, data_bytes, all_data_bytes}
use Rattle.sent_macros.specs.Refinement.{status_from, view_table, bare_table}
use Rattle.sent_macros.proofs.Views.{bare_at, free_bare}

module _ (t : Definitions) (b : ℕ) where
  pub data_iac : b ≡ 255 → data_bytes t b ≡ coded b
  unfolding data_bytes
  data_iac e = rw (eq-eqb b 255 e)

  pub data_literal : (b ≡ 255 → ⊥) → is_free (sent_of t b) ≡ false → data_bytes t b ≡ literal b
  unfolding data_bytes
  data_literal n e = rw (ne_eqb b 255 n, e)

  pub data_bare : (b ≡ 255 → ⊥) → is_free (sent_of t b) ≡ true → data_bytes t b ≡ b ∷ []
  unfolding data_bytes
  data_bare n e = rw (ne_eqb b 255 n, e)

-- the texts do not matter
each_same : (t : SendingTable) (b : ℕ) → data_bytes (view_table t) b ≡ data_bytes (bare_table t.statuses) b
unfolding data_bytes
each_same t b = rw (free_bare t b)

pub data_same : (t : SendingTable) (bytes : List ℕ) → all_data_bytes (view_table t) bytes ≡ all_data_bytes (bare_table t.statuses) bytes
data_same t = flat_map_same (data_bytes (view_table t)) (data_bytes (bare_table t.statuses)) (each_same t)

-- where every byte is free, data goes out in the stored form of a text
module _ (n : ℕ) where
  abbrev all_free : Definitions
  all_free = bare_table (replicate n 0)

  free_at : (b : ℕ) → is_free (sent_of all_free b) ≡ true
  unfolding status_from
  free_at b = rw (bare_at (replicate n 0) b, get_d_uniform {X = ℕ} n b 0)

  each_coded : (b : ℕ) → data_bytes all_free b ≡ coded b
  unfolding data_bytes coded
  each_coded b = rw (free_at b) (go (eqb b 255))
    where
      go : (a : Bool) → cond a (cond a (255 ∷ 255 ∷ []) (b ∷ [])) (b ∷ []) ≡ cond a (255 ∷ 255 ∷ []) (b ∷ [])
      go true = refl
      go false = refl

  pub data_stored : (bytes : List ℕ) → all_data_bytes all_free bytes ≡ stored bytes
  data_stored = flat_map_same (data_bytes all_free) coded each_coded
