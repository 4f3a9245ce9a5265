-- The reader that the code keeps, seen as the rules' reader. A body that the count says is longer than its array is all of the array.
use Rattle.std.specs.Prelude.{◌≡◌, false, min, take, replicate}
use Rattle.lists.specs.Buffers.{Clean}
use Rattle.reader.specs.Reading
use Rattle.reader.specs.Reading.{body_room}
use Rattle.reader.specs.declared.Phase.TheVariants.{Between}
use Rattle.reader.specs.declared.Reader.{Reader}
use Rattle.reader.specs.declared.Read.{Read}

abbrev pub view_reader : Reader → Reading.ReaderState
view_reader r = record { phase = r.phase; marred = r.marred; body = take (min r.len body_room) r.body }

abbrev pub CleanReader : Reader → Type 0
CleanReader r = Clean r.body r.len

-- the reader between commands, as the code makes it
abbrev pub idle_cells : Reader
idle_cells = record { phase = Between; marred = false; body = replicate body_room 0; len = 0 }

-- a byte read: what it completes, the reader after it, and that cells past the count stay 0
pub record RefinesRead (o : Reading.ReadEffect) (before : Reader) (r : Read) : Type 0 where
  pub item : r.item ≡ o.item
  pub view : view_reader r.reader ≡ o.reader
  pub clean : CleanReader before → CleanReader r.reader
