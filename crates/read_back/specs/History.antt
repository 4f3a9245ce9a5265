-- The history of a session at the bulletin end, as somebody has it who writes down the calls, their answers and the bytes of the line, and
-- sees nothing of the end's state.
use Rattle.std.specs.Prelude.{◌≡◌, cond, ℕ, eqb, Option, Some, None}
use mathlib.Core.List.{List, [], ◌∷◌, ◌++◌, Memᴰ}
use Rattle.lists.specs.Choice.{is_same}
use Rattle.codes.specs.Answers.{is_done}
use Rattle.codes.specs.Telnet.{BM}
use Rattle.codes.specs.declared.Code.{Code}
use Rattle.reader.specs.Reading.{ReaderState, ReadEffect, idle, read, by_option, item_by}
use Rattle.bodies.specs.declared.MacroReply.{MacroReply}
use Rattle.bodies.specs.declared.MacroReply.TheVariants.{Accept, Refuse, PleaseCancel}
use Rattle.bodies.specs.MacroBodies.{reply_body}
use Rattle.sent_macros.specs.Sending.{define_bytes}
use Rattle.bulletin.specs.State as B
use Rattle.bulletin.specs.Session.{Call, network, ask, suggest, order, define, use_macro, text, issue}
use Rattle.read_back.specs.Ends.{bulletin_answer}

-- a call that was made, with what was seen of its answer
pub record Made : Type 0 where
  pub call : Call
  pub code : Code
  pub wire : List ℕ

unfoldable pub history_from : B.BulletinState → List Call → List Made
history_from s [] = []
history_from s (c ∷ cs) =
    let a = bulletin_answer s c in
    record { call = c; code = a.code; wire = a.effect.wire } ∷ history_from a.effect.state cs

abbrev pub history : List Call → List Made
history session = history_from B.fresh session

-- what bears on macros: another issue, a DEFINE that went out, an ACCEPT or a REFUSE that came in
pub data Event : Type 0 where
  issued : (number : ℕ) → Event
  defined : (byte : ℕ) → List ℕ → Event
  accepted : (byte : ℕ) → Event
  refused : (byte : ℕ) → Event

-- of a PLEASE CANCEL it counts what was sent for it: a definition of the byte as itself, or nothing
abbrev pub reply_events : MacroReply → (wire : List ℕ) → List Event
reply_events (Accept x) wire = accepted x ∷ []
reply_events (Refuse x) wire = refused x ∷ []
reply_events (PleaseCancel x) wire = cond (is_same wire (define_bytes x (x ∷ []))) (defined x (x ∷ []) ∷ []) []

abbrev pub reply_body_events : Option MacroReply → (wire : List ℕ) → List Event
reply_body_events None wire = []
reply_body_events (Some r) wire = reply_events r wire

-- the end of a body that is BM's and not marred
abbrev pub body_events : ReaderState → (wire : List ℕ) → List Event
body_events r wire = by_option r.marred r.body [] (λ option. cond (eqb option BM) (reply_body_events (reply_body r.body) wire) [])

-- a byte by what it completes, and where the reader stands behind it: the end of a body empties it
abbrev pub read_events : ReadEffect → (wire : List ℕ) → List Event
read_events e wire = item_by [] (λ b. []) (λ v option. []) (body_events e.reader wire) [] e.item

abbrev pub reader_behind : ReadEffect → ReaderState
reader_behind e = item_by e.reader (λ b. e.reader) (λ v option. e.reader) idle e.reader e.item

-- the events of a call that is done, and the reader behind it
abbrev pub call_events : ReaderState → Call → (wire : List ℕ) → List Event
call_events r (network b h w) wire = read_events (read r b) wire
call_events r (ask o y w) wire = []
call_events r (suggest o v w) wire = []
call_events r (order c bc tc w) wire = []
call_events r (define x t w) wire = defined x t ∷ []
call_events r (use_macro x w) wire = []
call_events r (text k w) wire = []
call_events r (issue n w) wire = issued n ∷ []

abbrev pub reader_after : ReaderState → Call → ReaderState
reader_after r (network b h w) = reader_behind (read r b)
reader_after r (ask o y w) = r
reader_after r (suggest o v w) = r
reader_after r (order c bc tc w) = r
reader_after r (define x t w) = r
reader_after r (use_macro x w) = r
reader_after r (text k w) = r
reader_after r (issue n w) = r

-- a refused call is none: its byte was not read, its text not sent
unfoldable pub events_from : ReaderState → List Made → List Event
events_from r [] = []
events_from r (m ∷ ms) =
    cond (is_done m.code)
    (call_events r m.call m.wire ++ events_from (reader_after r m.call) ms)
    (events_from r ms)

abbrev pub events : List Made → List Event
events ms = events_from idle ms

-- the number that was set last, n if none was
unfoldable pub issue_from : ℕ → List Event → ℕ
issue_from n [] = n
issue_from n (issued m ∷ es) = issue_from m es
issue_from n (defined x t ∷ es) = issue_from n es
issue_from n (accepted x ∷ es) = issue_from n es
issue_from n (refused x ∷ es) = issue_from n es

abbrev pub issue_behind : List Event → ℕ
issue_behind es = issue_from 0 es

abbrev pub NotDefined : ℕ → List Event → Type 0
NotDefined x es = (t : List ℕ) → Memᴰ (defined x t) es → ⊥

abbrev pub Unanswered : ℕ → List Event → Type 0
Unanswered x es = (Memᴰ (accepted x) es → ⊥) × (Memᴰ (refused x) es → ⊥)

-- The last DEFINE of X among these events is of the text t, an ACCEPT is the first answer to it, and the issue at that DEFINE is the one
-- behind all of them.
pub record DefinedInIssue (x : ℕ) (t : List ℕ) (es : List Event) : Type 0 where
  pub before : List Event
  pub meanwhile : List Event
  pub since : List Event
  pub are : es ≡ before ++ defined x t ∷ meanwhile ++ accepted x ∷ since
  pub answered : Unanswered x meanwhile
  pub last : NotDefined x (meanwhile ++ since)
  pub issue : issue_behind before ≡ issue_behind es
