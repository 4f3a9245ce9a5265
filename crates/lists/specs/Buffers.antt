-- Buffers that a caller lends, and the bytes written at their start.
use Rattle.std.specs.Prelude.{◌≡◌, List, ◌++◌, ℕ, ◌≤◌, ◌-◌, length, drop, replicate}
use denote.Triple.Both.{Both}
use denote.Ref.{MutBor}

-- a lent buffer: what it held as the call began, what it holds as it ends
pub record Lent : Type 0 where
  pub before : List ℕ
  pub after : List ℕ

abbrev pub lent_as : List ℕ → List ℕ → Lent
lent_as before after = record { before = before; after = after }

-- one that nothing was written to
abbrev pub untouched : List ℕ → Lent
untouched cells = lent_as cells cells

-- the buffer behind a parameter of a call
abbrev pub lent : Both (MutBor (List ℕ)) (MutBor (List ℕ)) → Lent
lent b = lent_as b.entry.now b.exit.now

-- n bytes were written, and the rest of the buffer is as it was
pub record WroteAtStart (bytes : List ℕ) (buffer : Lent) (n : ℕ) : Type 0 where
  pub count : n ≡ length bytes
  pub cells : buffer.after ≡ bytes ++ drop (length bytes) buffer.before

-- the same of the paper and the wire
pub record WroteBothAtStart (on_paper on_wire : List ℕ) (lent_paper lent_wire : Lent) (n m : ℕ) : Type 0 where
  pub paper : WroteAtStart on_paper lent_paper n
  pub wire : WroteAtStart on_wire lent_wire m

-- there is room for them
abbrev pub RoomFor : List ℕ → List ℕ → Type 0
RoomFor bytes buffer = length bytes ≤ length buffer

-- an array of which the first n cells are in use: the count is within it, and the cells past it are 0
pub record Clean (cells : List ℕ) (n : ℕ) : Type 0 where
  pub within : n ≤ length cells
  pub zeros : drop n cells ≡ replicate (length cells - n) 0
