-- What the scanners owe to the rules.
use Rattle.std.specs.Prelude.{◌≡◌, cond, ℕ, zero, suc, ◌-◌, ◌+◌, length, take, Err}
use mathlib.Core.List.{List, [], ◌∷◌, ◌++◌, flat_map}
use Rattle.lists.specs.Fronts.{front}
use Rattle.lists.specs.Buffers.{Lent, WroteAtStart}
use Rattle.codes.specs.Telnet.{not_iac}
use Rattle.reader.specs.Reading.{ReaderState, idle, read, is_between}
use Rattle.mending.specs.declared.Reason.TheVariants.{Unfinished}
use Rattle.mending.specs.declared.Found.{Found}
use Rattle.mending.specs.declared.Scanned.{Scanned}
use Rattle.mending.specs.declared.Answer.{Answer}
use Rattle.mending.specs.Judging.{Judged, judged}
use Rattle.mending.specs.Pieces.{Piece, pieces_of}
use Rattle.mending.specs.Mending.{bytes_of, copied, copied_of, drop_of, drops_at, lines_of, MendEffect}

-- the first piece, of which n bytes are read already
unfoldable pub found_from : ReaderState → ℕ → List ℕ → Found
found_from r n [] = record { size = n; judged = Err Unfinished }
found_from r n (b ∷ bs) =
    let x = read r b in
    cond (is_between x.reader.phase) (record { size = suc n; judged = judged x }) (found_from x.reader (suc n) bs)

abbrev pub first_found : List ℕ → Found
first_found rest = found_from idle 0 rest

-- pieces up to the first that reaches the end of a part; the last of them may go on behind it
unfoldable pub up_to : ℕ → List Piece → List Piece
up_to part [] = []
up_to zero (p ∷ ps) = []
up_to (suc n) (p ∷ ps) = p ∷ up_to (suc n - length p.bytes) ps

-- the lines of one piece
abbrev pub piece_lines : (at size : ℕ) → Judged → List ℕ
piece_lines at size j = lines_of (drop_of at size j)

-- what a scan of pieces takes and writes
pub record Scan : Type 0 where
  pub taken : ℕ
  pub bytes : List ℕ
  pub lines : List ℕ

abbrev pub scan_of : ℕ → List Piece → Scan
scan_of at ps = record { taken = length (flat_map bytes_of ps); bytes = flat_map copied ps; lines = lines_of (drops_at at ps) }

-- .. that goes on behind so many bytes, with what these are written as
abbrev pub ahead : ℕ → (bytes lines : List ℕ) → Scan → Scan
ahead n bytes lines s = record { taken = n + s.taken; bytes = bytes ++ s.bytes; lines = lines ++ s.lines }

-- the scan of a part, at the front of what is left of a capture from an offset on
abbrev pub part_scan : (at part : ℕ) → List ℕ → Scan
part_scan at part rest = scan_of at (up_to part (pieces_of rest))

-- what the scanners do before they hand over: the text at the front of a part, and the first piece
abbrev pub run_of : ℕ → List ℕ → List ℕ
run_of part rest = take (front not_iac (take part rest)) rest

abbrev pub piece_scan : ℕ → List ℕ → Scan
piece_scan at rest =
    let f = first_found rest in
    record { taken = f.size; bytes = copied_of (take f.size rest) f.judged; lines = piece_lines at f.size f.judged }

-- what two scans took and wrote, one behind the other
abbrev pub both_scanned : Scanned → Scanned → Scanned
both_scanned p s = record { taken = p.taken + s.taken; written = p.written + s.written; listed = p.listed + s.listed }

pub record RefinesScan (s : Scan) (out list : Lent) (r : Scanned) : Type 0 where
  pub taken : r.taken ≡ s.taken
  pub bytes : WroteAtStart s.bytes out r.written
  pub lines : WroteAtStart s.lines list r.listed

pub record RefinesAnswer (e : MendEffect) (out list : Lent) (r : Answer) : Type 0 where
  pub outcome : r.outcome ≡ e.outcome
  pub bytes : WroteAtStart e.bytes out r.written
  pub lines : WroteAtStart e.lines list r.listed
