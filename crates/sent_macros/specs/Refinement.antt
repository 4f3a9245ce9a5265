-- The sending table as the code keeps it: a status number for each byte, and the texts packed as the receiving table's are.
use Rattle.std.specs.Prelude.{◌≡◌, Bool, true, false, not, cond, List, [], map, ℕ, ◌≤◌, eqb, length, get_or, set, replicate, Option, MatchOption}
use Rattle.lists.specs.Lists.{sum, paired}
use Rattle.lists.specs.Buffers.{Lent, WroteAtStart}
use Rattle.received_macros.specs.declared.Texts.{Texts}
use Rattle.received_macros.specs.Texts.{Entry, plain, Table, text_room, defined}
use Rattle.received_macros.specs.Refinement.{view_texts, empty_cells, text_of, is_unmarked, CleanTexts, Changed}
use Rattle.sent_macros.specs.declared.Status.{Status}
use Rattle.sent_macros.specs.declared.Status.TheVariants.{Free, Pending, PendingFree, Accepted, Refused}
use Rattle.sent_macros.specs.declared.SendingTable.{SendingTable}
use Rattle.sent_macros.specs.declared.Written.{Written}
use Rattle.sent_macros.specs.Sending.{
  Sent,
  free,
  pending,
  pending_free,
  accepted,
  refused,
  Definitions,
  status_number,
  sent_of,
  is_accepted,
  stored,
  stored_room,
  is_too_long,
  defining,
  define_bytes,
  cancel_bytes,
  cancelled,
}

-- every number stands for a status
unfoldable pub status_from : ℕ → Status
status_from n =
    cond (eqb n (status_number Free)) Free
    (cond (eqb n (status_number Pending)) Pending
    (cond (eqb n (status_number PendingFree)) PendingFree
    (cond (eqb n (status_number Accepted)) Accepted Refused)))

-- a byte of this status, with this text where it has one
abbrev pub sent_as : Status → List ℕ → Sent
sent_as Free s = free
sent_as Pending s = pending s
sent_as PendingFree s = pending_free
sent_as Accepted s = accepted s
sent_as Refused s = refused

abbrev pub has_text : Status → Bool
has_text Free = false
has_text Pending = true
has_text PendingFree = false
has_text Accepted = true
has_text Refused = false

-- the mark of a byte without a text counts as 0
abbrev pub kept_mark : ℕ → ℕ → ℕ
kept_mark mark number = cond (has_text (status_from number)) mark 0

abbrev pub kept_marks : List ℕ → List ℕ → List ℕ
kept_marks marks statuses = paired kept_mark 0 marks statuses

abbrev pub kept_texts : SendingTable → Texts
kept_texts t = record { marks = kept_marks t.texts.marks t.statuses; cells = t.texts.cells }

abbrev pub sent_by : ℕ → Entry → Sent
sent_by number e = sent_as (status_from number) (text_of e)

-- the table that a struct stands for
unfoldable pub view_table : SendingTable → Definitions
view_table t = paired sent_by plain t.statuses (view_texts (kept_texts t))

-- each number is that of a status, and just the bytes with a text have a mark
pub record CleanTable (t : SendingTable) : Type 0 where
  pub numbers : (x : ℕ) → get_or t.statuses x 0 ≤ status_number Refused
  pub marked : (x : ℕ) → is_unmarked t.texts.marks x ≡ not (has_text (status_from (get_or t.statuses x 0)))
  pub texts : CleanTexts t.texts

-- the table in which every byte is free, as the code makes it
abbrev pub free_cells : SendingTable
free_cells = record { statuses = replicate 256 0; texts = empty_cells }

-- the arrays have the lengths of their types
pub record WholeTable (t : SendingTable) : Type 0 where
  pub statuses : length t.statuses ≡ 256
  pub marks : length t.texts.marks ≡ 256
  pub cells : length t.texts.cells ≡ text_room

-- Assumed: two clean structs, their arrays of the lengths of their types, that stand for one table. Promised: they
-- are equal, in every cell. Ruled out: a refused text left in the cells; one status kept as this or that number.
abbrev pub CleanDetermined : Type 0
CleanDetermined = (t r : SendingTable) → WholeTable t → WholeTable r → CleanTable t → CleanTable r → view_table t ≡ view_table r → t ≡ r

-- another status of X, and other texts
abbrev pub restated : SendingTable → ℕ → Texts → Status → SendingTable
restated t x texts s = record { statuses = set t.statuses x (status_number s); texts = texts }

-- the same statuses without their texts: all that the bytes of data depend on
abbrev pub bare_table : List ℕ → Definitions
bare_table statuses = paired sent_by plain statuses []

-- the stored length of all texts
unfoldable pub stored_total : Table → ℕ
stored_total table = sum (map (λ (e : Entry). length (stored (text_of e))) table)

-- the table that the code gives back is the rule's, a clean one is clean again, and where nothing was to be done it is the very
-- struct
pub record RefinesTable (d : Definitions) (acts : Bool) (t r : SendingTable) : Type 0 where
  pub view : view_table r ≡ d
  pub clean : CleanTable t → CleanTable r
  pub same : acts ≡ false → r ≡ t

-- no text X as s: it is too long
abbrev pub DoesNotFit : SendingTable → ℕ → List ℕ → Type 0
DoesNotFit t x s = is_too_long (view_table t) x s ≡ true

-- the texts with a new one among them, which fits
pub record FittedAs (t : SendingTable) (x : ℕ) (s : List ℕ) (r : Texts) : Type 0 where
  pub fits : is_too_long (view_table t) x s ≡ false
  pub short : length (stored s) ≤ stored_room
  pub texts : Changed (defined (view_texts (kept_texts t)) x s) (kept_texts t) r

abbrev pub RefinesFitted : SendingTable → ℕ → List ℕ → Option Texts → Type 0
RefinesFitted t x s r = MatchOption r (DoesNotFit t x s) (FittedAs t x s)

-- a DEFINE of X as s that is too long: nothing is written
pub record NotDefined (t : SendingTable) (x : ℕ) (s : List ℕ) (out : Lent) : Type 0 where
  pub long : DoesNotFit t x s
  pub wire : WroteAtStart [] out 0

-- .. and one that fits
pub record DefinedAs (t : SendingTable) (x : ℕ) (s : List ℕ) (out : Lent) (w : Written) : Type 0 where
  pub fits : is_too_long (view_table t) x s ≡ false
  pub wire : WroteAtStart (define_bytes x s) out w.wire
  pub table : RefinesTable (defining (view_table t) x s) true t w.table

abbrev pub RefinesDefine : SendingTable → ℕ → List ℕ → Lent → Option Written → Type 0
RefinesDefine t x s out r = MatchOption r (NotDefined t x s out) (DefinedAs t x s out)

-- a PLEASE CANCEL of X
pub record RefinesCancel (t : SendingTable) (x : ℕ) (out : Lent) (r : Written) : Type 0 where
  pub wire : WroteAtStart (cancel_bytes (view_table t) x) out r.wire
  pub table : RefinesTable (cancelled (view_table t) x) (is_accepted (sent_of (view_table t) x)) t r.table
