-- A new text is refused, and the printer end keeps the old one: the byte is then not used, and all text is read as it was sent.
use Rattle.std.specs.Prelude.{◌≡◌, List, [], ◌∷◌, ◌++◌, ℕ, suc, take, drop}
use Rattle.codes.specs.Answers.{code_number}
use Rattle.keys.specs.declared.Key.TheVariants.{Char, Line}
use Rattle.received_macros.specs.Texts.{entry_of, text}
use Rattle.sent_macros.specs.Sending.{sent_of, refused}
use Rattle.printer.specs.State as P
use Rattle.printer.specs.Session as PS
use Rattle.bulletin.specs.State as B
use Rattle.bulletin.specs.Session as BS
use Rattle.read_back.specs.Ends.{printer_answers, printer_paper, printer_wire, printer_after, bulletin_after, reached, NetworkCalls}
use Rattle.read_back.specs.TextSent.{Sending, item, macro_use, answer, answers, all_data, all_wire}
use Rattle.read_back.specs.ReadBack.{Demanded, Agreed, ReadBack}
use Rattle.read_back.specs.Defined.{agrees, accepts, to_bulletin, to_printer, wire_of, first_reads, defines}

abbrev pub old_text : List ℕ
old_text = 79 ∷ 76 ∷ 68 ∷ []

abbrev pub new_text : List ℕ
new_text = 78 ∷ 69 ∷ 87 ∷ []

-- REFUSE of 128 with reason 3: the string is not as long as its count
abbrev pub refuses : List ℕ
refuses = 255 ∷ 250 ∷ 19 ∷ 3 ∷ 128 ∷ 3 ∷ 255 ∷ 240 ∷ []

-- 128 is defined as the old text and accepted, then as the new one and refused
abbrev pub calls : List BS.Call
calls = defines old_text ++ BS.define 128 new_text 4096 ∷ to_bulletin refuses

-- the byte behind the first n is lost on the line
abbrev pub losing : ℕ → List ℕ → List ℕ
losing n bytes = take n bytes ++ drop (suc n) bytes

abbrev pub arrived : List ℕ
arrived = losing 21 (wire_of calls)

abbrev pub b : B.BulletinState
b = reached calls

abbrev pub read : List P.CallEffect
read = first_reads arrived

abbrev pub p : P.PrinterState
p = printer_after P.fresh read

-- a use of the macro, which is refused; then its byte as a character, A and a Line
abbrev pub sendings : List Sending
sendings = macro_use 128 4096 ∷ item (Char 128) 4096 ∷ item (Char 65) 4096 ∷ item Line 4096 ∷ []

-- Assumed: nothing. 128 has an accepted text. A new one loses a byte on the line (`sent`, `lost`); the printer end
-- answers REFUSE (`replies`) and keeps the old text (`kept`), the bulletin end has the byte as refused (`is_refused`).
-- Promised: the premise of demand 2 is met (`demanded`), a use has code 10 (`code`), the byte as a character goes out
-- as LITERAL (`wire`), the paper is the data (`paper`), all else is read back (`back`). Ruled out: a sender that uses
-- the byte regardless; an old text on the paper.
pub record Incident : Type 0 where
  pub sent : wire_of calls
      ≡ 255 ∷ 251 ∷ 19 ∷ 255 ∷ 250 ∷ 19 ∷ 1 ∷ 128 ∷ 3 ∷ 79 ∷ 76 ∷ 68 ∷ 255 ∷ 240 ∷ 255 ∷ 250 ∷ 19 ∷ 1 ∷ 128 ∷ 3 ∷ 78 ∷ 69 ∷ 87 ∷ 255 ∷ 240 ∷ []
  pub lost : drop 14 arrived ≡ 255 ∷ 250 ∷ 19 ∷ 1 ∷ 128 ∷ 3 ∷ 78 ∷ 87 ∷ 255 ∷ 240 ∷ []
  pub replies : printer_wire read ≡ agrees ++ accepts ++ refuses
  pub kept : entry_of p.table 128 ≡ text old_text
  pub is_refused : sent_of b.table 128 ≡ refused
  pub demanded : Demanded b p
  pub code : code_number (answer b (macro_use 128 4096)).code ≡ 10
  pub wire : all_wire b sendings ≡ 255 ∷ 250 ∷ 19 ∷ 4 ∷ 128 ∷ 255 ∷ 240 ∷ 65 ∷ 13 ∷ 10 ∷ []
  pub paper : printer_paper (printer_answers p (to_printer (all_wire b sendings))) ≡ 128 ∷ 65 ∷ 13 ∷ 10 ∷ []
  pub back : (cs : List Sending) (later : List PS.Call) → NetworkCalls (all_wire b cs) later
      → ReadBack Agreed (all_data b cs) (bulletin_after b (answers b cs)) p later
