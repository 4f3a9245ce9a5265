-- Bytes read one after the other, and how the bytes of a subnegotiation frame are read.
use Rattle.std.specs.Prelude.{◌≡◌, false, List, [], ◌∷◌, ◌++◌, ℕ, ◌≤◌, length}
use Rattle.codes.specs.Telnet.{IAC, SB, SE}
use Rattle.wire.specs.Frames.{doubled, frame}
use Rattle.reader.specs.declared.Phase.{Phase}
use Rattle.reader.specs.declared.Phase.TheVariants.{Between, InBodyAfterIac}
use Rattle.reader.specs.declared.Item.TheVariants.{Nothing, BodyEnd}
use Rattle.reader.specs.Reading.{ReaderState, read, gives, is_between, body_room}

-- the reader behind bytes
unfoldable pub reader_after : ReaderState → List ℕ → ReaderState
reader_after r [] = r
reader_after r (b ∷ bs) = reader_after (read r b).reader bs

-- bytes that are silent: each completes nothing, and leaves the reader within a command
unfoldable pub Silent : ReaderState → List ℕ → Type 0
Silent r [] = Unit {0}
Silent r (b ∷ bs) =
    let x = read r b in
    (x.item ≡ Nothing) × (is_between x.reader.phase ≡ false) × Silent x.reader bs

-- a frame up to its last byte, which is SE
unfoldable pub unclosed : List ℕ → List ℕ
unclosed body = IAC ∷ SB ∷ (doubled body ++ IAC ∷ [])

-- a reader that keeps a body, not marred
abbrev pub keeps_body : Phase → List ℕ → ReaderState
keeps_body p body = record { phase = p; marred = false; body = body }

-- a frame as it is read: all but its last byte complete nothing, and that completes the body
pub record ReadsAsBody (r : ReaderState) (body : List ℕ) : Type 0 where
  pub bytes : frame body ≡ unclosed body ++ SE ∷ []
  pub silent : Silent r (unclosed body)
  pub kept : reader_after r (unclosed body) ≡ keeps_body InBodyAfterIac body
  pub end : read (keeps_body InBodyAfterIac body) SE ≡ gives BodyEnd (keeps_body Between body)

-- Assumed: a reader between commands, whatever body it kept last; a body of at most 260 bytes. Promised: its frame is read as
-- that body. Ruled out: a reader that ends a body at a doubled 255; one that keeps the bytes of an earlier body.
abbrev pub FramesRead : Type 0
FramesRead = (r : ReaderState) (body : List ℕ) → r.phase ≡ Between → length body ≤ body_room → ReadsAsBody r body
