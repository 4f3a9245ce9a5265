-- A capture in pieces: a piece is what the reader reads from between commands to between commands, a byte of text or a whole
-- command. What is left unfinished at the capture's end is the last one.
use Rattle.std.specs.Prelude.{cond, List, [], ◌∷◌, ◌++◌, ℕ, Err}
use Rattle.reader.specs.Reading.{ReaderState, idle, read, is_between}
use Rattle.mending.specs.declared.Reason.TheVariants.{Unfinished}
use Rattle.mending.specs.Judging.{Judged, judged}

pub record Piece : Type 0 where
  pub bytes : List ℕ
  pub judged : Judged

abbrev pub piece_of : List ℕ → Judged → Piece
piece_of bytes j = record { bytes = bytes; judged = j }

-- begun are the bytes that the reader has of a piece
unfoldable pub pieces_from : ReaderState → (begun rest : List ℕ) → List Piece
pieces_from r begun [] = cond (is_between r.phase) [] (piece_of begun (Err Unfinished) ∷ [])
pieces_from r begun (b ∷ bs) =
    let x = read r b in
    let now = begun ++ b ∷ [] in
    cond (is_between x.reader.phase) (piece_of now (judged x) ∷ pieces_from idle [] bs) (pieces_from x.reader now bs)

abbrev pub pieces_of : List ℕ → List Piece
pieces_of capture = pieces_from idle [] capture
