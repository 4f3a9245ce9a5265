-- How a printer end that replaces no macro reads a mended capture: its notes.
use Rattle.std.specs.Prelude.{◌≡◌, Bool, true, false, List, [], ◌∷◌, ◌++◌, ℕ, ◌+◌, ◌-◌, ◌≤◌, length, take, drop, replicate}
use Rattle.codes.specs.Answers.{paper_room, wire_room}
use Rattle.codes.specs.declared.Note.{Note}
use Rattle.codes.specs.declared.Note.TheVariants.{Clear, Unreadable, Inactive, OtherOption, Stray}
use Rattle.reader.specs.Reading.{idle, is_between}
use Rattle.reader.specs.Framing.{reader_after, Silent}
use Rattle.printer.specs.State.{PrinterState, with_reader, with_sides}
use Rattle.printer.specs.Network.{byte_read, bytes_read, network_read}
use Rattle.printer.specs.Calls.{network_call}
use Rattle.mending.specs.declared.Reason.{Reason}
use Rattle.mending.specs.declared.Reason.TheVariants as why
use Rattle.mending.specs.Judging.{all_in_force}
use Rattle.mending.specs.Mending.{Drop, mended, drops}

-- the notes of bytes that are read as they stand, a note for each byte
unfoldable pub notes_read : PrinterState → List ℕ → List Note
notes_read s [] = []
notes_read s (b ∷ bs) = let d = byte_read s b in d.note ∷ notes_read d.state bs

-- .. and of calls with them, in buffers of these sizes
unfoldable pub notes_called : PrinterState → List ℕ → (paper wire : ℕ) → List Note
notes_called s [] paper wire = []
notes_called s (b ∷ bs) paper wire = let d = (network_call s b paper wire).effect in d.note ∷ notes_called d.state bs paper wire

-- neither 1 nor 4
abbrev pub is_faultless : Note → Bool
is_faultless Clear = true
is_faultless Unreadable = false
is_faultless Inactive = true
is_faultless OtherOption = true
is_faultless Stray = false

unfoldable pub AllFaultless : List Note → Type 0
AllFaultless [] = Unit {0}
AllFaultless (n ∷ ns) = (is_faultless n ≡ true) × AllFaultless ns

abbrev pub at_rest : PrinterState → PrinterState
at_rest s = with_reader s idle

-- Assumed: a printer end between commands, in any other state, whichever options are in force as it reads. Promised: of a mended
-- capture, each byte read as it stands, no byte gives note 1 or 4, and the end is then between commands. Ruled out: a capture that
-- is copied as it came; one of which only the stray commands are dropped.
abbrev pub ReadsWithoutFault : Type 0
ReadsWithoutFault = (s : PrinterState) (capture : List ℕ)
    → AllFaultless (notes_read (at_rest s) (mended capture)) × (is_between (bytes_read (at_rest s) (mended capture)).state.reader.phase ≡ true)

-- a printer end that replaces none of these bytes
unfoldable pub ReplacesNone : PrinterState → List ℕ → Type 0
ReplacesNone s [] = Unit {0}
ReplacesNone s (b ∷ bs) = (network_read s b ≡ byte_read s b) × ReplacesNone (byte_read s b).state bs

-- Assumed: a host that calls the printer end, between commands, with the bytes of a mended capture, in buffers of the sizes that code
-- 1 asks for, and no byte of them is replaced. Promised: no call gives note 1 or 4. Ruled out: a call that
-- gives a note where the byte, read by itself, gives none; one that takes a body out of force for an unreadable one.
abbrev pub CalledWithoutFault : Type 0
CalledWithoutFault = (s : PrinterState) (capture : List ℕ) (paper wire : ℕ) → paper_room ≤ paper → wire_room ≤ wire
    → ReplacesNone (at_rest s) (mended capture) → AllFaultless (notes_called (at_rest s) (mended capture) paper wire)

-- a printer end with every option in force, between commands
abbrev pub judging : PrinterState → PrinterState
judging s = with_sides (at_rest s) all_in_force

-- a drop's bytes, read by that end: silent up to the last byte, which gives this note
abbrev pub GivesAtItsEnd : List ℕ → Note → Type 0
GivesAtItsEnd bytes n = (s : PrinterState) → notes_read (judging s) bytes ≡ replicate (length bytes - 1) Clear ++ n ∷ []

-- no more than one command: up to its last byte a reader is within it
abbrev pub OneCommand : List ℕ → Type 0
OneCommand bytes = Silent idle (take (length bytes - 1) bytes)

-- what each reason says of the bytes of a drop; last is that they are the capture's last
abbrev pub Because : Reason → List ℕ → (last : Type 0) → Type 0
Because why.Unreadable bytes last = OneCommand bytes × GivesAtItsEnd bytes Unreadable
Because why.Stray bytes last = OneCommand bytes × GivesAtItsEnd bytes Stray
Because why.Unfinished bytes last = Silent idle bytes × last

-- a drop of a capture: read up to it the reader is between commands, and its bytes are what the reason says
pub record Reasoned (capture : List ℕ) (d : Drop) : Type 0 where
  pub between : is_between (reader_after idle (take d.offset capture)).phase ≡ true
  pub because : Because d.reason (take d.size (drop d.offset capture)) (d.offset + d.size ≡ length capture)

unfoldable pub EachReasoned : List ℕ → List Drop → Type 0
EachReasoned capture [] = Unit {0}
EachReasoned capture (d ∷ ds) = Reasoned capture d × EachReasoned capture ds

-- Assumed: any capture. Promised: each drop is one command, and has its reason: with every option in force it gives note 1, or note
-- 4, at its last byte, or it is begun and not ended where the capture ends. Ruled out: a body of another option, or a well shaped
-- one, that is dropped; a command that is dropped together with the stray one behind it; a reason that is another's.
abbrev pub DropsReasoned : Type 0
DropsReasoned = (capture : List ℕ) → EachReasoned capture (drops capture)
