-- A body's end and a byte, as the rules' next steps.
use mathlib.Core.Path.{◌≡◌}
use Prim.Native.Nat.{ℕ}
use Rattle.negotiation.specs.declared.End.{End}
use Rattle.reader.specs.declared.Item.{Item}
use Rattle.reader.specs.declared.Item.TheVariants.{BodyEnd}
use Rattle.reader.specs.Reading.{ReaderState, idle, read}
use Rattle.subnegotiation.specs.Checks.{Checked, checked}
use Rattle.bulletin.specs.State.{BulletinState, with_reader}
use Rattle.bulletin.specs.Network.{body_handled, body_read, item_read, network_read}

-- the reader is empty as a body is handled
pub body_end : (s : BulletinState) (r : ReaderState) (c : Checked) → r ≡ idle → c ≡ checked End.Bulletin s.sides s.reader.marred s.reader.body
    → item_read s BodyEnd ≡ body_handled (with_reader s r) s.reader.body c
unfolding body_read
body_end s r c e f = rw (e, f)

-- a byte is the item that it completes, in the state that has the reader as it left it
pub byte_item : (s : BulletinState) (b : ℕ) (item : Item) (r : ReaderState) → item ≡ (read s.reader b).item → r ≡ (read s.reader b).reader
    → network_read s b ≡ item_read (with_reader s r) item
unfolding network_read
byte_item s b item r i e = rw (i, e)
