-- What a list of calls and questions shows of each, in plain numbers, and where two lists of that first differ.
use Rattle.std.specs.Prelude.{Bool, true, false, ◌&&◌, cond, ℕ, suc, eqb}
use mathlib.Core.List.{List, [], ◌∷◌, flat_map}
use Rattle.codes.specs.Answers.{code_number, note_number}
use Rattle.disposition.specs.ByOption.{is_waiting}
use Rattle.disposition.specs.Handled.{Report}
use Rattle.sent_macros.specs.Sending.{status_number}
use Rattle.printer.specs.State as P
use Rattle.printer.specs.Calls as PC
use Rattle.printer.specs.Session as PS
use Rattle.bulletin.specs.declared.Standing.{Standing}
use Rattle.bulletin.specs.State as B
use Rattle.bulletin.specs.Calls as BC
use Rattle.bulletin.specs.Session as BS

pub record Shown : Type 0 where
  pub code : ℕ
  pub note : ℕ
  pub paper : List ℕ
  pub wire : List ℕ
  pub waiting : ℕ

abbrev pub show : ℕ → ℕ → List ℕ → List ℕ → ℕ → Shown
show c n p w k = record { code = c; note = n; paper = p; wire = w; waiting = k }

-- the answer to a question, as numbers
abbrev pub told : List ℕ → Shown
told ns = show 0 0 ns [] 0

abbrev pub shown_printer : P.CallEffect → Shown
shown_printer a = show (code_number a.code) (note_number a.effect.note) a.effect.paper a.effect.wire (PC.waiting_count a.effect.state)

abbrev pub shown_bulletin : B.CallEffect → Shown
shown_bulletin a = show (code_number a.code) (note_number a.effect.note) a.effect.host a.effect.wire 0

-- what a report tells: for each option about output disposition who handles its character, and the value
abbrev report_numbers : List Report → List ℕ
report_numbers rs = flat_map (λ r. r.who ∷ r.value ∷ []) rs

-- .. and how a macro byte stands: its status, the issue that its definition kept, the issue in force
abbrev standing_numbers : Standing → List ℕ
standing_numbers s = status_number s.status ∷ s.kept ∷ s.present ∷ []

-- what a list has: a call, or a question about the state that the last call left
pub data PrinterLine : Type 0 where
  call : PS.Call → PrinterLine
  report : PrinterLine

unfoldable pub printer_lines : P.PrinterState → List PrinterLine → List Shown
printer_lines s [] = []
printer_lines s (PrinterLine.call c ∷ ls) = let a = PS.called s c in shown_printer a ∷ printer_lines a.effect.state ls
printer_lines s (PrinterLine.report ∷ ls) = told (report_numbers (PC.dispositions_report s)) ∷ printer_lines s ls

pub data BulletinLine : Type 0 where
  call : BS.Call → BulletinLine
  status : (byte : ℕ) → BulletinLine
  report : BulletinLine
  output : BulletinLine

unfoldable pub bulletin_lines : B.BulletinState → List BulletinLine → List Shown
bulletin_lines s [] = []
bulletin_lines s (BulletinLine.call c ∷ ls) = let a = BS.called s c in shown_bulletin a ∷ bulletin_lines a.effect.state ls
bulletin_lines s (BulletinLine.status x ∷ ls) = told (standing_numbers (BC.macro_standing s x)) ∷ bulletin_lines s ls
bulletin_lines s (BulletinLine.report ∷ ls) = told (report_numbers (BC.dispositions_report s)) ∷ bulletin_lines s ls
bulletin_lines s (BulletinLine.output ∷ ls) = told (cond (is_waiting s.waits) 1 0 ∷ []) ∷ bulletin_lines s ls

unfoldable pub same_bytes : List ℕ → List ℕ → Bool
same_bytes [] [] = true
same_bytes [] (b ∷ bs) = false
same_bytes (a ∷ as') [] = false
same_bytes (a ∷ as') (b ∷ bs) = eqb a b && same_bytes as' bs

abbrev pub same_shown : Shown → Shown → Bool
same_shown a b =
    eqb a.code b.code && eqb a.note b.note && same_bytes a.paper b.paper && same_bytes a.wire b.wire && eqb a.waiting b.waiting

-- 0 if the lists are the same, else the place, from 1, where they first differ
unfoldable pub first_difference : ℕ → List Shown → List Shown → ℕ
first_difference n [] [] = 0
first_difference n [] (b ∷ bs) = n
first_difference n (a ∷ as') [] = n
first_difference n (a ∷ as') (b ∷ bs) = let rest = first_difference (suc n) as' bs in cond (same_shown a b) rest n

unfoldable pub bytes_difference : ℕ → List ℕ → List ℕ → ℕ
bytes_difference n [] [] = 0
bytes_difference n [] (b ∷ bs) = n
bytes_difference n (a ∷ as') [] = n
bytes_difference n (a ∷ as') (b ∷ bs) = let rest = bytes_difference (suc n) as' bs in cond (eqb a b) rest n
