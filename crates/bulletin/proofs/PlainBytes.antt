-- What plain bytes do: each goes to the host, and the state stays.
use mathlib.Core.Path.{◌≡◌, sym, ap, ◌∙◌}
use mathlib.Core.Bool.{Bool, true, not}
use mathlib.Core.List.{List, [], ◌∷◌}
use Prim.Native.Nat.{ℕ, ◌≤◌, ◌<◌}
use borrow.Author.Tests.{not-true}
use lib.ListN.{length, take, get_or}
use Rattle.lists.proofs.Tables.{both_left, both_right}
use Rattle.lists.proofs.Fronts.{chosen_within, chosen_passes}
use Rattle.codes.specs.Telnet.{not_iac}
use Rattle.reader.specs.Reading.{byte_by, is_between, is_data}
use Rattle.reader.proofs.DataBytes.{read_data}
use Rattle.disposition.specs.ByOption.{Waits, is_waiting}
use Rattle.disposition.proofs.Waiting.{none_waits}
use Rattle.bulletin.specs.State.{BulletinState, with_reader, with_waits}
use Rattle.bulletin.specs.Network.{data_read, item_read, network_read}
use Rattle.bulletin.specs.Stretches.{is_settled, data_stretch, is_plain_byte}
use Rattle.bulletin.specs.NetworkRun.{giving}

abbrev is_settled_in : BulletinState → Bool
is_settled_in s = is_settled s.reader.phase s.waits

plain_byte : (s : BulletinState) → is_settled_in s ≡ true → (b : ℕ) → not_iac b ≡ true → network_read s b ≡ giving (b ∷ []) s
unfolding network_read data_read
plain_byte s h b t =
    let waiting = is_waiting s.waits in
    let here = both_left (is_between s.reader.phase) (not waiting) h in
    let ready = not-true waiting (both_right (is_between s.reader.phase) (not waiting) h) in
    let is-data : is_data s.reader.phase b ≡ true = rw (t, here) in
    ap (byte_by with_reader item_read s) (read_data s.reader b is-data) ∙ ap (λ (x : Waits). giving (b ∷ []) (with_waits s x)) (sym (none_waits s.waits ready))

-- what the code finds plain is so: a byte by itself, and a stretch
pub byte_plain : (s : BulletinState) (b : ℕ) → is_plain_byte s.reader.phase s.waits b ≡ true → network_read s b ≡ giving (b ∷ []) s
byte_plain s b h = plain_byte s (both_left (is_settled_in s) (not_iac b) h) b (both_right (is_settled_in s) (not_iac b) h)

module _ (s : BulletinState) (bs : List ℕ) (n : ℕ) (e : n ≡ data_stretch s.reader.phase s.waits bs) where
  pub data_within : n ≤ length bs
  unfolding data_stretch
  data_within = chosen_within (is_settled_in s) not_iac bs n e

  pub data_plain : (j : ℕ) → j < length (take n bs) → network_read s (get_or (take n bs) j 0) ≡ giving (get_or (take n bs) j 0 ∷ []) s
  unfolding data_stretch
  data_plain j lt =
      let c = chosen_passes (is_settled_in s) not_iac bs n e j lt in
      plain_byte s c.0 (get_or (take n bs) j 0) c.1
