-- The reader that the code makes is the rules' idle reader.
use mathlib.Core.Path.{refl}
use mathlib.Core.List.{[]}
use Rattle.lists.proofs.Zeros.{clean_append}
use Rattle.reader.specs.Reading.{body_room}
use Rattle.reader.specs.Refinement.{CleanReader, idle_cells}

pub idle_clean : CleanReader idle_cells
idle_clean = clean_append [] 0 body_room refl
