-- The premise of the claims can be met: from fresh ends, with a macro defined and accepted, and already while BM is being agreed.
use Rattle.std.specs.Prelude.{◌≡◌, true, false, List, [], ◌∷◌, ◌++◌, map, ℕ}
use Rattle.keys.specs.declared.Key.TheVariants.{Char}
use Rattle.sent_macros.specs.Sending.{sent_of, accepted}
use Rattle.printer.specs.State as P
use Rattle.printer.specs.Session as PS
use Rattle.bulletin.specs.State as B
use Rattle.bulletin.specs.Session as BS
use Rattle.read_back.specs.Ends.{printer_answers, printer_paper, printer_wire, printer_after, bulletin_answers, bulletin_wire, bulletin_after, reached}
use Rattle.read_back.specs.TextSent.{Sending, item, macro_use, answers, all_data, all_wire}
use Rattle.read_back.specs.ReadBack.{Demanded, Agreed, ReadBack}

-- DO BM, and ACCEPT of 128
abbrev pub agrees : List ℕ
agrees = 255 ∷ 253 ∷ 19 ∷ []

abbrev pub accepts : List ℕ
accepts = 255 ∷ 250 ∷ 19 ∷ 2 ∷ 128 ∷ 255 ∷ 240 ∷ []

-- bytes that arrive at each end
abbrev pub to_bulletin : List ℕ → List BS.Call
to_bulletin bytes = map (λ x. BS.network x 1024 4096) bytes

abbrev pub to_printer : List ℕ → List PS.Call
to_printer bytes = map (λ x. PS.network x 1024 4096) bytes

-- the wire of a session of the bulletin end, and a fresh printer end that reads bytes
abbrev pub wire_of : List BS.Call → List ℕ
wire_of session = bulletin_wire (bulletin_answers B.fresh session)

abbrev pub first_reads : List ℕ → List P.CallEffect
first_reads bytes = printer_answers P.fresh (to_printer bytes)

-- BM is asked for and agreed, and 128 is defined as this text and accepted
abbrev pub asks : List BS.Call
asks = BS.ask 19 3 4096 ∷ []

abbrev pub defines : List ℕ → List BS.Call
defines t = asks ++ to_bulletin agrees ++ BS.define 128 t 4096 ∷ to_bulletin accepts

abbrev pub macro_text : List ℕ
macro_text = 72 ∷ 255 ∷ []

abbrev pub calls : List BS.Call
calls = defines macro_text

abbrev pub read : List P.CallEffect
read = first_reads (wire_of calls)

-- Assumed: nothing. From fresh ends BM is agreed, and 128 defined and accepted. Promised: the printer end's replies
-- are those that the session hears, it prints nothing, and the ends meet the premise of demand 2 with BM in force and
-- 128 accepted. Ruled out: a premise that no ends with a macro meet; a printer end that refuses each DEFINE.
pub record DefinedAgree : Type 0 where
  pub in_force : B.bm_in_force (reached calls) ≡ true
  pub is_accepted : sent_of (reached calls).table 128 ≡ accepted macro_text
  pub wire : printer_wire read ≡ agrees ++ accepts
  pub paper : printer_paper read ≡ []
  pub demanded : Demanded (reached calls) (printer_after P.fresh read)

-- a use of the macro, Char(13), Char(255), and the macro's byte as a character
abbrev pub sendings : List Sending
sendings = macro_use 128 4096 ∷ item (Char 13) 4096 ∷ item (Char 255) 4096 ∷ item (Char 128) 4096 ∷ []

abbrev pub sent_wire : List ℕ
sent_wire = all_wire (reached calls) sendings

-- Assumed: nothing; the ends are those of DefinedAgree. Promised: byte by byte, the DEFINE (a count of 3, each 255
-- doubled twice); a use, Char(13), Char(255) and the macro's byte as a character, as they go out, their data and the
-- paper; and what AllReadBack says of them. Ruled out: items that have no data; a 255 that is stored once.
pub record DefinedReadBack : Type 0 where
  pub defining : wire_of calls ≡ 255 ∷ 251 ∷ 19 ∷ 255 ∷ 250 ∷ 19 ∷ 1 ∷ 128 ∷ 3 ∷ 72 ∷ 255 ∷ 255 ∷ 255 ∷ 255 ∷ 255 ∷ 240 ∷ []
  pub wire : sent_wire ≡ 128 ∷ 13 ∷ 0 ∷ 255 ∷ 255 ∷ 255 ∷ 250 ∷ 19 ∷ 4 ∷ 128 ∷ 255 ∷ 240 ∷ []
  pub data_sent : all_data (reached calls) sendings ≡ 72 ∷ 255 ∷ 13 ∷ 0 ∷ 255 ∷ 128 ∷ []
  pub paper : printer_paper (printer_answers (printer_after P.fresh read) (to_printer sent_wire)) ≡ 72 ∷ 255 ∷ 13 ∷ 0 ∷ 255 ∷ 128 ∷ []
  pub back : ReadBack Agreed (all_data (reached calls) sendings) (bulletin_after (reached calls) (answers (reached calls) sendings))
      (printer_after P.fresh read) (to_printer sent_wire)

-- Assumed: nothing. BM is asked for and not yet agreed. Promised: it is in force at the printer end alone, and the
-- ends agree, though demand 2 does not speak of them. Ruled out: a bulletin end that has BM in force by its own
-- request; a printer end that has it in force only after a DEFINE.
pub record AskedAgree : Type 0 where
  pub not_yet : B.bm_in_force (reached asks) ≡ false
  pub in_force : P.bm_in_force (printer_after P.fresh (first_reads (wire_of asks))) ≡ true
  pub agreed : Agreed (reached asks) (printer_after P.fresh (first_reads (wire_of asks)))
