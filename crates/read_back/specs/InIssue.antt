-- A standing text is used only in the issue that it was defined for: the claims are of the history of calls, and name no table.
use Rattle.std.specs.Prelude.{◌≡◌, List, [], ◌∷◌, ℕ}
use Rattle.codes.specs.declared.Code.TheVariants.{Done}
use Rattle.printer.specs.State as P
use Rattle.printer.specs.Session as PS
use Rattle.bulletin.specs.State as B
use Rattle.bulletin.specs.Calls.{use_data}
use Rattle.bulletin.specs.Session as BS
use Rattle.read_back.specs.Ends.{printer_answers, bulletin_answer, reached, NetworkCalls}
use Rattle.read_back.specs.ReadBack.{Demanded, ReadAs}
use Rattle.read_back.specs.History.{history, events, DefinedInIssue}

abbrev pub use_answer : List BS.Call → (x wire : ℕ) → B.CallEffect
use_answer session x wire = bulletin_answer (reached session) (BS.use_macro x wire)

-- Assumed: any session of the bulletin end, and behind it a use of X that is not refused. Promised: it sends X and nothing else; the
-- data that it stands for is the text of X's last DEFINE, whether a call or a PLEASE CANCEL made that; an ACCEPT was the first answer to
-- it; and the issue in force when it was made is in force at the use. Ruled out: a paragraph of an old issue whose ACCEPT came in the
-- new one; the text of a DEFINE that was refused, with an ACCEPT behind the REFUSE.
abbrev pub UsedInIssue : Type 0
UsedInIssue =
    (session : List BS.Call) (x wire : ℕ) → (use_answer session x wire).code ≡ Done
    → ((use_answer session x wire).effect.wire ≡ x ∷ []) × DefinedInIssue x (use_data (reached session) x) (events (history session))

-- the printer end reads that text
pub record PrintsInIssue (session : List BS.Call) (x : ℕ) (p : P.PrinterState) (calls : List PS.Call) : Type 0 where
  pub text : List ℕ
  pub in_issue : DefinedInIssue x text (events (history session))
  pub read : ReadAs text p (printer_answers p calls)

-- The incident's claim, on paper. Assumed: besides, a printer end that meets the premise of demand 2, and calls by which it reads what the
-- use sent. Promised: it prints the text of the byte's last DEFINE, which was accepted, and made in the issue that is in force. Ruled out:
-- an expired paragraph under today's date; a use that is sent and prints nothing.
abbrev pub PrintedInIssue : Type 0
PrintedInIssue =
    (session : List BS.Call) (x wire : ℕ) → (use_answer session x wire).code ≡ Done
    → (p : P.PrinterState) → Demanded (reached session) p
    → (calls : List PS.Call) → NetworkCalls (use_answer session x wire).effect.wire calls
    → PrintsInIssue session x p calls
