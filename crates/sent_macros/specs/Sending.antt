-- The sending table: for each byte, in the order of the bytes, how its last DEFINE stands.
use Rattle.std.specs.Prelude.{Bool, true, false, ◌||◌, cond, ℕ, length, get_or, set, replicate, ltb, eqb}
use mathlib.Core.List.{List, [], ◌∷◌, map, flat_map}
use Rattle.lists.specs.Choice.{is_same}
use Rattle.lists.specs.Lists.{sum}
use Rattle.codes.specs.Telnet.{IAC, BM, DEFINE}
use Rattle.wire.specs.Frames.{doubled, coded, frame, literal}
use Rattle.received_macros.specs.Texts.{is_itself, text_room}
use Rattle.sent_macros.specs.declared.Status.{Status}
use Rattle.sent_macros.specs.declared.Status.TheVariants.{Free, Pending, PendingFree, Accepted, Refused}

-- a text is the data that was given to DEFINE; pending_free is a byte whose pending definition is itself
pub data Sent : Type 0 where
  free : Sent
  pending : List ℕ → Sent
  pending_free : Sent
  accepted : List ℕ → Sent
  refused : Sent

abbrev pub status_of : Sent → Status
status_of free = Free
status_of (pending s) = Pending
status_of pending_free = PendingFree
status_of (accepted s) = Accepted
status_of refused = Refused

-- the number that the code keeps a status as
abbrev pub status_number : Status → ℕ
status_number Free = 0
status_number Pending = 1
status_number PendingFree = 2
status_number Accepted = 3
status_number Refused = 4

abbrev pub Definitions : Type 0
Definitions = List Sent

abbrev pub no_definitions : Definitions
no_definitions = replicate 256 free

abbrev pub sent_of : Definitions → ℕ → Sent
sent_of t x = get_or t x free

-- the stored form of a text has each 255 twice
abbrev pub stored : List ℕ → List ℕ
stored s = doubled s

-- what a byte's text counts: its stored length, if the byte is pending or accepted
abbrev pub sent_length : Sent → ℕ
sent_length free = 0
sent_length (pending s) = length (stored s)
sent_length pending_free = 0
sent_length (accepted s) = length (stored s)
sent_length refused = 0

unfoldable pub sent_total : Definitions → ℕ
sent_total t = sum (map sent_length t)

abbrev pub is_pending : Sent → Bool
is_pending free = false
is_pending (pending s) = true
is_pending pending_free = true
is_pending (accepted s) = false
is_pending refused = false

abbrev pub is_accepted : Sent → Bool
is_accepted free = false
is_accepted (pending s) = false
is_accepted pending_free = false
is_accepted (accepted s) = true
is_accepted refused = false

abbrev pub is_free : Sent → Bool
is_free free = true
is_free (pending s) = false
is_free pending_free = false
is_free (accepted s) = false
is_free refused = false

abbrev pub sent_for : ℕ → List ℕ → Sent
sent_for x s = cond (is_itself x s) pending_free (pending s)

unfoldable pub defining : Definitions → ℕ → List ℕ → Definitions
defining t x s = set t x (sent_for x s)

abbrev pub stored_room : ℕ
stored_room = 255

-- its stored form is over 255 bytes long, or with it instead of the old text all texts are over 1,024
unfoldable pub is_too_long : Definitions → ℕ → List ℕ → Bool
is_too_long t x s = ltb stored_room (length (stored s)) || ltb text_room (sent_total (defining t x s))

-- 19, 1, X, count, string
unfoldable pub define_bytes : ℕ → List ℕ → List ℕ
define_bytes x s = frame (BM ∷ DEFINE ∷ x ∷ length (stored s) ∷ stored s)

-- what a DEFINE writes: nothing if it is too long
abbrev pub defining_bytes : Definitions → ℕ → List ℕ → List ℕ
defining_bytes t x s = cond (is_too_long t x s) [] (define_bytes x s)

-- a PLEASE CANCEL of an accepted byte is answered by defining it as itself, however long all texts are; that of another byte by
-- nothing
abbrev pub cancel_bytes : Definitions → ℕ → List ℕ
cancel_bytes t x = cond (is_accepted (sent_of t x)) (define_bytes x (x ∷ [])) []

abbrev pub cancelled : Definitions → ℕ → Definitions
cancelled t x = cond (is_accepted (sent_of t x)) (defining t x (x ∷ [])) t

-- what an ACCEPT and a REFUSE make of a byte; of one that is not pending, nothing
abbrev pub on_accept : Sent → Sent
on_accept free = free
on_accept (pending s) = accepted s
on_accept pending_free = free
on_accept (accepted s) = accepted s
on_accept refused = refused

abbrev pub on_refuse : Sent → Sent
on_refuse free = free
on_refuse (pending s) = refused
on_refuse pending_free = refused
on_refuse (accepted s) = accepted s
on_refuse refused = refused

-- the text of an accepted byte
abbrev pub accepted_text : Sent → List ℕ
accepted_text free = []
accepted_text (pending s) = []
accepted_text pending_free = []
accepted_text (accepted s) = s
accepted_text refused = []

-- accepted, with just this text
abbrev pub is_accepted_as : Sent → List ℕ → Bool
is_accepted_as free s = false
is_accepted_as (pending s') s = false
is_accepted_as pending_free s = false
is_accepted_as (accepted s') s = is_same s' s
is_accepted_as refused s = false

-- a data byte on the wire: 255 doubled, one that is not free as LITERAL
unfoldable pub data_bytes : Definitions → ℕ → List ℕ
data_bytes t b = cond (eqb b IAC) (coded b) (cond (is_free (sent_of t b)) (b ∷ []) (literal b))

abbrev pub all_data_bytes : Definitions → List ℕ → List ℕ
all_data_bytes t bs = flat_map (data_bytes t) bs
