-- The bytes of a text item, by what it is.
use mathlib.Core.Path.{◌≡◌, refl, sym}
use mathlib.Core.Bool.{true, false, false≢true}
use Rattle.keys.specs.declared.Key.{Key}
use Rattle.keys.specs.declared.Key.TheVariants.{Char, Line, Command}
use Rattle.keys.specs.Keys.{is_command, key_wire}
use Rattle.sent_macros.specs.Sending.{Definitions, all_data_bytes}
use Rattle.disposition.specs.ByOption.{Handlings}
use Rattle.disposition.specs.ItemData.{item_data}
use Rattle.bulletin.specs.Calls.{item_bytes}

module _ (t : Definitions) (h : Handlings) where
  pub command_bytes : (k : Key) → is_command k ≡ true → item_bytes t h k ≡ key_wire k
  unfolding key_wire
  command_bytes (Char b) e = absurd (false≢true e)
  command_bytes Line e = absurd (false≢true e)
  command_bytes (Command c) e = refl

  pub character_bytes : (k : Key) → is_command k ≡ false → item_bytes t h k ≡ all_data_bytes t (item_data h k)
  character_bytes (Char b) e = refl
  character_bytes Line e = refl
  character_bytes (Command c) e = absurd (false≢true (sym e))
