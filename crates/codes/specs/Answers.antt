-- The codes and notes of an answer, with their numbers, and how a call's refusals are ordered.
use Rattle.std.specs.Prelude.{Bool, ◌||◌, cond, List, [], ◌∷◌, ℕ, ltb, eqb, Result, Ok, Err}
use Rattle.codes.specs.declared.Code.{Code}
use Rattle.codes.specs.declared.Code.TheVariants.{Done, NoRoom, QueueFull, BadCommand, NotCarried, AlreadySo, NotInForce, BadMacroByte, TooLong, Unanswered, NoText, EchoAgainstRcte, BadValue, OutputWaits, IssueDiffers}
use Rattle.codes.specs.declared.Note.{Note}
use Rattle.codes.specs.declared.Note.TheVariants.{Clear, Unreadable, Inactive, OtherOption, Stray}

abbrev pub code_number : Code → ℕ
code_number Done = 0
code_number NoRoom = 1
code_number QueueFull = 2
code_number BadCommand = 3
code_number NotCarried = 4
code_number AlreadySo = 5
code_number NotInForce = 6
code_number BadMacroByte = 7
code_number TooLong = 8
code_number Unanswered = 9
code_number NoText = 10
code_number EchoAgainstRcte = 11
code_number BadValue = 12
code_number OutputWaits = 13
code_number IssueDiffers = 14

abbrev pub note_number : Note → ℕ
note_number Clear = 0
note_number Unreadable = 1
note_number Inactive = 2
note_number OtherOption = 3
note_number Stray = 4

-- the first note of a call
abbrev pub first_note : Note → Note → Note
first_note Clear n = n
first_note Unreadable n = Unreadable
first_note Inactive n = Inactive
first_note OtherOption n = OtherOption
first_note Stray n = Stray

-- the sizes that code 1 asks of the lent buffers
abbrev pub paper_room : ℕ
paper_room = 1024

abbrev pub wire_room : ℕ
wire_room = 4096

abbrev pub no_room : ℕ → ℕ → Bool
no_room paper wire = ltb paper paper_room || ltb wire wire_room

abbrev pub no_wire : ℕ → Bool
no_wire wire = ltb wire wire_room

-- a refusal and its condition
pub record Guard : Type 0 where
  pub holds : Bool
  pub code : Code

abbrev pub refused_if : Bool → Code → Guard
refused_if b c = record { holds = b; code = c }

-- every code but Done is a refusal
abbrev pub is_done : Code → Bool
is_done c = eqb (code_number c) 0

abbrev pub is_clear : Note → Bool
is_clear n = eqb (note_number n) 0

-- a call's answer: that of the first guard that holds, in the order of the list, else what the call does
unfoldable pub guarded : {A : Type 0} → List Guard → (Code → A) → A → A
guarded [] refused done = done
guarded (g ∷ gs) refused done = cond g.holds (refused g.code) (guarded gs refused done)

-- whether a call may go on: if not, the code of the first guard that holds
unfoldable pub allowed : List Guard → Result (Unit {0}) Code
allowed [] = Ok tt
allowed (g ∷ gs) = cond g.holds (Err g.code) (allowed gs)
