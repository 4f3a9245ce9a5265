-- Plain bytes: each is data for the host, and leaves the state as it is.
use Rattle.std.specs.Prelude.{Bool, not, ◌&&◌, cond, List, ℕ}
use Rattle.lists.specs.Fronts.{front}
use Rattle.codes.specs.Telnet.{not_iac}
use Rattle.disposition.specs.ByOption.{Waits, is_waiting}
use Rattle.reader.specs.declared.Phase.{Phase}
use Rattle.reader.specs.Reading.{is_between}

-- the reader is between commands, and no output waits for data
abbrev pub is_settled : Phase → Waits → Bool
is_settled phase waits = is_between phase && not (is_waiting waits)

-- how many bytes at the front of those that arrive are plain
unfoldable pub data_stretch : Phase → Waits → List ℕ → ℕ
data_stretch phase waits bytes = cond (is_settled phase waits) (front not_iac bytes) 0

-- one of these by itself
abbrev pub is_plain_byte : Phase → Waits → ℕ → Bool
is_plain_byte phase waits b = is_settled phase waits && not_iac b
