-- Which way a network byte is read.
use mathlib.Core.Path.{◌≡◌, refl, ap, ◌∙◌}
use mathlib.Core.Bool.{Bool, true, false, ◌&&◌, ◌||◌, not, false≢true, cond}
use mathlib.Core.List.{[], ◌∷◌}
use Prim.Native.Nat.{ℕ}
use Rattle.received_macros.specs.Texts.{Entry, plain, entry_of}
use Rattle.reader.specs.declared.Item.TheVariants.{Nothing}
use Rattle.reader.specs.Reading.{read, byte_by, is_between, is_data}
use Rattle.reader.proofs.DataBytes.{read_data}
use Rattle.printer.specs.State.{PrinterState, with_reader, nothing, printing, rcte_in_force, bm_in_force}
use Rattle.printer.specs.Refinement.{is_ordinary}
use Rattle.printer.specs.Network.{data_read, item_read, byte_read, entry_read, network_read}

both_same : {D : Type 0} (t : Bool) (x y : D) → x ≡ y → cond t x y ≡ y
both_same true x y e = e
both_same false x y e = refl

-- data, for which the reader stays as it is
pub data_byte : (s : PrinterState) (b : ℕ) → is_data s.reader.phase b ≡ true → byte_read s b ≡ data_read s b
unfolding byte_read
data_byte s b e = ap (byte_by with_reader item_read s) (read_data s.reader b e)

-- a byte that completes nothing moves the reader alone
pub silent_byte : (s : PrinterState) (b : ℕ) → (read s.reader b).item ≡ Nothing → byte_read s b ≡ nothing (with_reader s (read s.reader b).reader)
unfolding byte_read
silent_byte s b e = rw e

-- a byte that stands for itself
pub plain_read : (s : PrinterState) (b : ℕ) → entry_of s.table b ≡ plain → network_read s b ≡ byte_read s b
unfolding network_read
plain_read s b e =
    both_same (bm_in_force s && is_between s.reader.phase) (entry_read s b (entry_of s.table b)) (byte_read s b) (ap (λ (x : Entry). entry_read s b x) e)

-- BM is not in force
pub off_read : (s : PrinterState) (b : ℕ) → bm_in_force s ≡ false → network_read s b ≡ byte_read s b
unfolding network_read
off_read s b e = ap (λ (t : Bool). cond (t && is_between s.reader.phase) (entry_read s b (entry_of s.table b)) (byte_read s b)) e

and_false : (t : Bool) → (t && false) ≡ false
and_false true = refl
and_false false = refl

-- inside a command
pub inside_read : (s : PrinterState) (b : ℕ) → is_between s.reader.phase ≡ false → network_read s b ≡ byte_read s b
unfolding network_read
inside_read s b e =
    let f : (bm_in_force s && is_between s.reader.phase) ≡ false = rw (e, and_false) in
    ap (λ (t : Bool). cond t (entry_read s b (entry_of s.table b)) (byte_read s b)) f

-- the byte's entry decides
pub chosen_read : (s : PrinterState) (b : ℕ) → bm_in_force s ≡ true → is_between s.reader.phase ≡ true → network_read s b ≡ entry_read s b (entry_of s.table b)
unfolding network_read
chosen_read s b m t =
    let f : (bm_in_force s && is_between s.reader.phase) ≡ true = rw (m, t) in
    ap (λ (x : Bool). cond x (entry_read s b (entry_of s.table b)) (byte_read s b)) f

-- an ordinary byte is printed, and nothing else happens
pub ordinary_read : (s : PrinterState) (b : ℕ) → is_ordinary s.sides s.reader.phase b ≡ true → network_read s b ≡ printing (b ∷ []) s
unfolding data_read
ordinary_read s b e = go (bm_in_force s) (rcte_in_force s) refl refl e
  where
    go : (m r : Bool) → bm_in_force s ≡ m → rcte_in_force s ≡ r → not (m || r) && is_data s.reader.phase b ≡ true → network_read s b ≡ printing (b ∷ []) s
    go true r p q f = absurd (false≢true f)
    go false true p q f = absurd (false≢true f)
    go false false p q f = off_read s b p ∙ data_byte s b f ∙ (rw q)
