-- One call fits its lent buffers, and the sizes that this rests on are kept.
use mathlib.Core.Path.{◌≡◌, refl}
use mathlib.Core.Bool.{Bool, true, ◌&&◌, not}
use mathlib.Core.Logic.{⊎_elim}
use mathlib.Core.List.Memᴰ
use mathlib.Core.List.{List, [], ◌∷◌, Memᴰ, flat_map}
use Prim.Native.Nat.{ℕ, ◌+◌, ◌≤◌, ◌<◌}
use native.Mathlib.Omega.{arith}
use lib.Dec.{eqb, lit≤, lit<}
use lib.ListN.{length, length-append}
use Rattle.lists.proofs.Lengths.{chosen, either, every_replicate}
use Rattle.lists.proofs.Tables.{both_right}
use Rattle.codes.specs.Answers.{paper_room, no_room, guarded}
use Rattle.codes.specs.Dispositions.{option_number, disposition_numbered}
use Rattle.codes.specs.Telnet.{DR}
use Rattle.codes.specs.declared.Code.{Code}
use Rattle.codes.specs.declared.Code.TheVariants.{NotCarried}
use Rattle.codes.specs.declared.Disposition.{Disposition}
use Rattle.codes.proofs.Entries.{found_cases}
use Rattle.codes.specs.declared.Whose.{Whose}
use Rattle.wire.specs.Frames.{frame}
use Rattle.keys.specs.Keys.{bad_command}
use Rattle.negotiation.specs.declared.End.{End}
use Rattle.negotiation.specs.declared.Side.{Side}
use Rattle.negotiation.specs.Carried.{reply_bytes, disposition_in_force, asked_side, asked_whose, asked_enable}
use Rattle.reader.specs.Reading.{is_between}
use Rattle.bodies.specs.ValueBodies.{is_bad_value}
use Rattle.received_macros.specs.Texts.{Entry, plain, text, entry_of}
use Rattle.rcte.specs.Control.{is_full, pressed}
use Rattle.disposition.specs.ByOption.{with_dr, values_of, with_values_of}
use Rattle.printer.specs.State.{PrinterState, fresh, rcte_in_force, echo_in_force, bm_in_force, Effect, CallEffect, refused}
use Rattle.printer.specs.Network.{byte_read, bytes_read, entry_read, network_read}
use Rattle.printer.specs.Calls.{network_call, key_typed, key_call, ask_of, ask_call, suggest_of, suggest_call}
use Rattle.printer.specs.Session.{Call, network, key, ask, suggest, called, answers_from}
use Rattle.printer.specs.Limits.{text_limit, Sized, InBytes, Limited, Fits, NetworkFits, KeyFits, MoveFits, SuggestionFits, CallFits, FreshLimited, NetworkKeeps, KeyKeeps, MoveKeeps, OfBytes, CallKeeps, Within, SessionWithin}
use Rattle.received_macros.specs.Refinement.{text_of}
use Rattle.rcte.proofs.Bounds.{presses}
use Rattle.keys.proofs.Packing.{paper_most, wire_most}
use Rattle.printer.proofs.LimitsReader.{wire_bound, no_bound, bound_within}
use Rattle.negotiation.proofs.Replies.{reply_long}
use Rattle.negotiation.proofs.Outcomes.{asked_cases}
use Rattle.wire.proofs.Coded.{coded_long}
use Rattle.printer.proofs.LimitsNetwork.{with_values_lem, with_rcte_lem, Step, moves, replies, byte_step, bytes_step}

-- a step that is within these fits
step_fits : {H : Type 0} {p n : ℕ} {d : Effect} (s : PrinterState) → Sized s → p ≤ text_limit → wire_bound s.reader + n ≤ 529 → Step s.rcte s.reader p n H d → Fits d
step_fits s z p n d = record {
  paper = omega (arith, d.paper, z.waiting);
  wire = omega (arith, d.wire, z.waiting, z.gathered);
}

-- one byte in any phase, and a text, which is only read between commands
pub byte_fits : (s : PrinterState) (b : ℕ) → Sized s → Fits (byte_read s b)
byte_fits s b z = step_fits s z (lit≤ tt) (omega (arith, bound_within s.reader.phase s.reader.body z.body)) (byte_step s b)

pub text_fits : (s : PrinterState) (t : List ℕ) → Sized s → is_between s.reader.phase ≡ true → length t ≤ text_limit → Fits (bytes_read s t)
text_fits s t z o l = step_fits s z l (omega (arith, no_bound s.reader.phase s.reader.body o)) (bytes_step s t)

entry_fits : (s : PrinterState) (b : ℕ) (e : Entry) → Sized s → is_between s.reader.phase ≡ true → length (text_of e) ≤ text_limit → Fits (entry_read s b e)
entry_fits s b plain z o l = byte_fits s b z
entry_fits s b (text t) z o l = text_fits s t z o l

pub network_fits : NetworkFits
unfolding network_read
network_fits s b z =
    let on = bm_in_force s in
    let between = is_between s.reader.phase in
    chosen Fits (on && between) (λ e. entry_fits s b (entry_of s.table b) z (both_right on between e) (z.texts b)) (λ e. byte_fits s b z)

entry_keeps : (s : PrinterState) (b : ℕ) (e : Entry) → b < 256 → Limited s → InBytes (text_of e) → Limited (entry_read s b e).state
entry_keeps s b plain l h i = (byte_step s b).kept (l, h)
entry_keeps s b (text t) l h i = (bytes_step s t).kept (i, h)

pub network_keeps : NetworkKeeps
unfolding network_read
network_keeps s b l h =
    either (λ (d : Effect). Limited d.state) (bm_in_force s && is_between s.reader.phase)
    (entry_keeps s b (entry_of s.table b) l h (h.bytewise.texts b))
    ((byte_step s b).kept (l, h))

pub key_fits : KeyFits
unfolding key_typed
key_fits s k z =
    let p = presses s.rcte k in
    either Fits (rcte_in_force s)
    (record { paper = omega (arith, p.paper); wire = omega (arith, p.wire, z.gathered) })
    (record {
      paper = either (λ (l : List ℕ). length l ≤ paper_room) (echo_in_force s) (lit≤ tt) (omega (arith, paper_most k));
      wire = omega (arith, wire_most k);
    })

pub key_keeps : KeyKeeps
unfolding key_typed
key_keeps s k f h =
    let p = presses s.rcte k in
    chosen (λ (d : Effect). Limited d.state) (rcte_in_force s)
    (λ on. with_rcte_lem h (pressed s.rcte k).rcte (p.waits (rw on at f) h.sized.waiting) (p.room h.sized.gathered))
    (λ on. h)

pub move_fits : MoveFits
move_fits s side q reply l z =
    step_fits s z (lit≤ tt) (omega (arith, bound_within s.reader.phase s.reader.body z.body)) (replies 3 s side q reply l)

pub move_keeps : MoveKeeps
move_keeps s side q h = (moves s side q).kept h

pub suggestion_fits : SuggestionFits
unfolding frame flat_map
suggestion_fits d v = simp length-append (omega (arith, coded_long (option_number d), coded_long DR, coded_long v))

-- what is claimed of the answer of a call c on s
record Answered (s : PrinterState) (c : Call) (a : CallEffect) : Type 0 where
  fits : Sized s → Fits a.effect
  kept : OfBytes c → Limited s → Limited a.effect.state

module _ (s : PrinterState) (c : Call) where
  refuses : (code : Code) → Answered s c (refused s code)
  refuses code = record { fits = λ z. record { paper = lit≤ tt; wire = lit≤ tt }; kept = λ b h. h }

  -- an ask moves the side that it is about, or is refused
  asks : (whose : Whose) (option : ℕ) (side : Side) (enable : Bool) → Answered s c (ask_of s option whose side enable)
  asks whose option side enable =
      asked_cases (Answered s c) s.sides side enable _ _ refuses
      (λ q r n e. record {
        fits = move_fits s side q (reply_bytes whose r option) (reply_long whose r option);
        kept = λ b h. move_keeps s side q h;
      })

  -- a suggestion changes this end's value, or is refused
  suggests : (v : ℕ) (d : Disposition) → Answered s c (suggest_of s v d)
  unfolding guarded
  suggests v d =
      let values = values_of s.values d in
      either (Answered s c) (not (disposition_in_force s.sides d)) (refuses _)
      (either (Answered s c) (is_bad_value d v) (refuses _)
      (either (Answered s c) (eqb v values.dr) (refuses _)
      (record {
        fits = λ z. record { paper = lit≤ tt; wire = suggestion_fits d v };
        kept = λ b h. with_values_lem h (with_values_of s.values d (with_dr values v));
      })))

answers : (s : PrinterState) (c : Call) → Answered s c (called s c)
unfolding called network_call key_call ask_call suggest_call guarded
answers s (network b p w) =
    let c = network b p w in
    either (Answered s c) (no_room p w) (refuses s c _)
    (record { fits = network_fits s b; kept = network_keeps s b })
answers s (key k p w) =
    let c = key k p w in
    either (Answered s c) (no_room p w) (refuses s c _)
    (either (Answered s c) (bad_command k) (refuses s c _)
    (chosen (Answered s c) (rcte_in_force s && is_full s.rcte) (λ e. refuses s c _)
    (λ e. record { fits = key_fits s k; kept = λ b h. key_keeps s k e h })))
answers s (ask o y p w) =
    let c = ask o y p w in
    either (Answered s c) (no_room p w) (refuses s c _) (asks s c (asked_whose y) o (asked_side End.Printer o y) (asked_enable y))
answers s (suggest o v p w) =
    let c = suggest o v p w in
    either (Answered s c) (no_room p w) (refuses s c _) (found_cases (Answered s c) (refuses s c NotCarried) (suggests s c v) (disposition_numbered o))

pub call_fits : CallFits
call_fits s c z = (answers s c).fits z

pub call_keeps : CallKeeps
call_keeps s c b h = (answers s c).kept b h

pub fresh_limited : FreshLimited
fresh_limited = record {
  sized = record { waiting = lit≤ tt; gathered = lit≤ tt; body = lit≤ tt; texts = every_replicate (λ e. length (text_of e) ≤ text_limit) plain 256 plain (lit≤ tt) (lit≤ tt) };
  bytewise = record { body = λ i. lit< tt; texts = every_replicate (λ e. InBytes (text_of e)) plain 256 plain (λ i. lit< tt) (λ i. lit< tt) };
}

within_from : (s : PrinterState) (cs : List Call) → Limited s → ((c : Call) → Memᴰ c cs → OfBytes c) → (a : CallEffect) → Memᴰ a (answers_from s cs) → Within a
unfolding answers_from
within_from s [] h bytes a m = absurd (Memᴰ.not-nil m)
within_from s (c ∷ cs) h bytes a m =
    let k = call_keeps s c (bytes c (Memᴰ.head refl)) h in
    ⊎_elim
    (λ (e : a ≡ called s c). rw e (record { fits = call_fits s c h.sized; state = k }))
    (λ (n : Memᴰ a (answers_from (called s c).effect.state cs)). within_from (called s c).effect.state cs k (λ d i. bytes d (Memᴰ.tail i)) a n)
    (Memᴰ.cases_cons m)

pub session_within : SessionWithin
session_within cs bytes a m = within_from fresh cs fresh_limited bytes a m
