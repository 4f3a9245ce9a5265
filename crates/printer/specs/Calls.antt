-- The printer end's calls: each a total function of the state, its arguments and the sizes of the two lent buffers.
use Rattle.std.specs.Prelude.{Bool, ◌&&◌, cond, List, [], ◌∷◌, ℕ, length}
use Rattle.codes.specs.Answers.{no_room, refused_if, guarded}
use Rattle.codes.specs.Telnet.{DR}
use Rattle.codes.specs.Dispositions.{disposition_numbered, of_disposition}
use Rattle.codes.specs.declared.Code.TheVariants.{NoRoom, QueueFull, BadCommand, NotCarried}
use Rattle.codes.specs.declared.Disposition.{Disposition}
use Rattle.codes.specs.declared.Note.TheVariants.{Clear}
use Rattle.codes.specs.declared.Whose.{Whose}
use Rattle.keys.specs.declared.Key.{Key}
use Rattle.keys.specs.Keys.{bad_command, key_wire}
use Rattle.negotiation.specs.declared.End.{End}
use Rattle.negotiation.specs.declared.Side.{Side}
use Rattle.negotiation.specs.Carried.{reply_bytes, disposition_in_force, asked_side, asked_whose, asked_enable, asking_of, asked_by}
use Rattle.rcte.specs.Taking.{sent_paper, sent_at_once}
use Rattle.rcte.specs.Control.{is_full, pressed}
use Rattle.disposition.specs.ByOption.{with_dr, values_of, with_values_of}
use Rattle.disposition.specs.Handled.{suggestion, suggest_guards, handlings_in, Report, reports_of}
use Rattle.printer.specs.State.{PrinterState, with_values, rcte_in_force, echo_in_force, Effect, sends, of_rcte, CallEffect, done, refused}
use Rattle.printer.specs.Network.{network_read, moved_with_reply}

unfoldable pub network_call : PrinterState → ℕ → ℕ → ℕ → CallEffect
network_call s b paper wire = guarded (refused_if (no_room paper wire) NoRoom ∷ []) (refused s) (done (network_read s b))

-- a key goes out as it is typed while RCTE is not in force
abbrev pub key_sent : PrinterState → Key → Effect
key_sent s k = record { note = Clear; paper = sent_paper (echo_in_force s) k; wire = key_wire k; taken = sent_at_once k ∷ []; state = s }

unfoldable pub key_typed : PrinterState → Key → Effect
key_typed s k = cond (rcte_in_force s) (of_rcte (pressed s.rcte k) s) (key_sent s k)

unfoldable pub key_call : PrinterState → Key → ℕ → ℕ → CallEffect
key_call s k paper wire =
    guarded (refused_if (no_room paper wire) NoRoom ∷ refused_if (bad_command k) BadCommand ∷ refused_if (rcte_in_force s && is_full s.rcte) QueueFull ∷ [])
    (refused s)
    (done (key_typed s k))

abbrev pub ask_of : PrinterState → ℕ → Whose → Side → Bool → CallEffect
ask_of s option whose side enable =
    asked_by (refused s) (λ q reply. done (moved_with_reply s side q (reply_bytes whose reply option))) (asking_of s.sides side enable)

unfoldable pub ask_call : PrinterState → ℕ → ℕ → ℕ → ℕ → CallEffect
ask_call s option way paper wire =
    guarded (refused_if (no_room paper wire) NoRoom ∷ []) (refused s)
    (ask_of s option (asked_whose way) (asked_side End.Printer option way) (asked_enable way))

-- DR, suggested by the printer end; the value that counts is its own
abbrev pub suggest_of : PrinterState → ℕ → Disposition → CallEffect
suggest_of s v d =
    let values = values_of s.values d in
    guarded (suggest_guards d (disposition_in_force s.sides d) values.dr v) (refused s)
    (done (sends (suggestion d DR v) (with_values s (with_values_of s.values d (with_dr values v)))))

unfoldable pub suggest_call : PrinterState → ℕ → ℕ → ℕ → ℕ → CallEffect
suggest_call s option v paper wire =
    guarded (refused_if (no_room paper wire) NoRoom ∷ []) (refused s)
    (of_disposition (refused s NotCarried) (suggest_of s v) (disposition_numbered option))

-- of each option about output disposition who handles its character, and by which value, in numbers
abbrev pub dispositions_report : PrinterState → List Report
dispositions_report s = reports_of (handlings_in s.sides s.values)

-- the number of waiting keys
abbrev pub waiting_count : PrinterState → ℕ
waiting_count s = length s.rcte.waiting
