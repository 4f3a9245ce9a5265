-- The receiving table: an entry for each byte, in the order of the bytes.
use Rattle.std.specs.Prelude.{Result, Ok, Err, Bool, ◌&&◌, not, cond, List, [], ◌∷◌, map, ℕ, length, get_or, set, replicate, ltb, eqb}
use Rattle.lists.specs.Lists.{sum}
use Rattle.codes.specs.Telnet.{IAC, BM, ACCEPT, REFUSE}
use Rattle.wire.specs.Frames.{frame}
use Rattle.received_macros.specs.declared.Reason.{Reason}
use Rattle.received_macros.specs.declared.Reason.TheVariants.{Other, BadChoice, TooLong, WrongLength}

-- a byte stands for itself, or for a text
pub data Entry : Type 0 where
  plain : Entry
  text : List ℕ → Entry

abbrev pub Table : Type 0
Table = List Entry

abbrev pub no_macros : Table
no_macros = replicate 256 plain

abbrev pub entry_of : Table → ℕ → Entry
entry_of t x = get_or t x plain

abbrev pub entry_length : Entry → ℕ
entry_length plain = 0
entry_length (text s) = length s

-- the total of all texts
unfoldable pub total : Table → ℕ
total t = sum (map entry_length t)

abbrev pub text_room : ℕ
text_room = 1024

-- X defined as X alone
abbrev pub is_itself : ℕ → List ℕ → Bool
is_itself x s = eqb (length s) 1 && eqb (get_or s 0 256) x

-- what a text makes of X: defined as itself, X is free again
abbrev pub entry_for : ℕ → List ℕ → Entry
entry_for x s = cond (is_itself x s) plain (text s)

unfoldable pub defined : Table → ℕ → List ℕ → Table
defined t x s = set t x (entry_for x s)

-- X stands for itself again
unfoldable pub freed : Table → ℕ → Table
freed t x = set t x plain

-- how a DEFINE is judged
abbrev pub Verdict : Type 0
Verdict = Result (Unit {0}) Reason

-- with a string of the right length
abbrev pub judged_total : Table → ℕ → List ℕ → Verdict
judged_total t x s = cond (ltb text_room (total (defined t x s))) (Err TooLong) (Ok tt)

-- the longest text that a count of one byte can announce
abbrev pub longest_text : ℕ
longest_text = 255

-- with a string of any length
abbrev pub judged_any : Table → ℕ → List ℕ → Verdict
judged_any t x s = cond (ltb longest_text (length s)) (Err TooLong) (judged_total t x s)

-- with a count and a string behind X
abbrev pub judged_text : Table → ℕ → ℕ → List ℕ → Verdict
judged_text t x count s = cond (not (eqb (length s) count)) (Err WrongLength) (judged_total t x s)

abbrev pub judged_rest : Table → ℕ → List ℕ → Verdict
judged_rest t x [] = Err Other
judged_rest t x (count ∷ s) = judged_text t x count s

-- the refusals of a DEFINE of X in their order; rest is what follows X
unfoldable pub judged : Table → ℕ → List ℕ → Verdict
judged t x rest = cond (eqb x IAC) (Err BadChoice) (judged_rest t x rest)

-- a refused DEFINE leaves X with its old text
abbrev pub after_define : Verdict → Table → ℕ → List ℕ → Table
after_define (Ok _) t x s = defined t x s
after_define (Err reason) t x s = t

abbrev pub reason_number : Reason → ℕ
reason_number Other = 0
reason_number BadChoice = 1
reason_number TooLong = 2
reason_number WrongLength = 3

-- ACCEPT is 19, 2, X; REFUSE is 19, 3, X, reason
abbrev pub verdict_bytes : Verdict → ℕ → List ℕ
verdict_bytes (Ok _) x = frame (BM ∷ ACCEPT ∷ x ∷ [])
verdict_bytes (Err reason) x = frame (BM ∷ REFUSE ∷ x ∷ reason_number reason ∷ [])
