-- What text goes out by, when that is allowed, and the data that it stands for.
use Rattle.std.specs.Prelude.{◌≡◌, Bool, true, not, ◌&&◌, cond, List, [], ◌∷◌, ◌++◌, map, ℕ, leb, eqb}
use Rattle.lists.specs.Choice.{between}
use Rattle.codes.specs.Answers.{wire_room}
use Rattle.keys.specs.declared.Key.{Key}
use Rattle.keys.specs.declared.Key.TheVariants.{Char, Line, Command}
use Rattle.disposition.specs.ByOption.{is_waiting}
use Rattle.sent_macros.specs.Sending.{sent_of, is_accepted}
use Rattle.issues.specs.Issues.{kept_of}
use Rattle.bulletin.specs.State as B
use Rattle.bulletin.specs.Calls.{text_data, use_data}
use Rattle.bulletin.specs.Session as BS
use Rattle.read_back.specs.Ends.{bulletin_answer, bulletin_answers, bulletin_wire}

-- a text item or a use of a macro; the wire buffer's size last
pub data Sending : Type 0 where
  item : Key → (wire : ℕ) → Sending
  macro_use : (byte wire : ℕ) → Sending

abbrev pub as_call : Sending → BS.Call
as_call (item k w) = BS.text k w
as_call (macro_use x w) = BS.use_macro x w

-- an item that is a Command has a code in 241..249
abbrev pub is_item : Key → Bool
is_item (Char b) = true
is_item Line = true
is_item (Command c) = between 241 249 c

-- None of the refusals that documents 01 and 02 list: of an item 1, 3 and 13, of a use 1, 6, 13, 10 and 14. It is not read off the answer.
abbrev pub is_allowed : B.BulletinState → Sending → Bool
is_allowed b (item k w) = leb wire_room w && is_item k && not (is_waiting b.waits)
is_allowed b (macro_use x w) =
    leb wire_room w && B.bm_in_force b && not (is_waiting b.waits) && is_accepted (sent_of b.table x) && eqb (kept_of b.issues x) b.issues.present

abbrev pub Allowed : B.BulletinState → Sending → Type 0
Allowed b c = is_allowed b c ≡ true

-- the data that it stands for
abbrev pub data_of : B.BulletinState → Sending → List ℕ
data_of b (item k w) = text_data b k
data_of b (macro_use x w) = use_data b x

-- one that is not allowed sends none
abbrev pub sent_data : B.BulletinState → Sending → List ℕ
sent_data b c = cond (is_allowed b c) (data_of b c) []

abbrev pub answer : B.BulletinState → Sending → B.CallEffect
answer b c = bulletin_answer b (as_call c)

abbrev pub answers : B.BulletinState → List Sending → List B.CallEffect
answers b cs = bulletin_answers b (map as_call cs)

-- of a list of them, each in the state that the one before left: all data, and all bytes on the wire
unfoldable pub all_data : B.BulletinState → List Sending → List ℕ
all_data b [] = []
all_data b (c ∷ cs) = sent_data b c ++ all_data (answer b c).effect.state cs

abbrev pub all_wire : B.BulletinState → List Sending → List ℕ
all_wire b cs = bulletin_wire (answers b cs)
