-- What network calls with room answer, all put together, is what their bytes bring about one after the other.
use mathlib.Core.Path.{◌≡◌, refl, sym, subst}
use mathlib.Core.Logic.{⊎_elim}
use mathlib.Core.List.Memᴰ
use mathlib.Core.List.{List, [], ◌∷◌, append-eq-nil_iff, Memᴰ, flat_map}
use Prim.Native.Nat.{ℕ, ◌≤◌}
use borrow.Author.Tests.{le-ltb}
use Rattle.codes.specs.Answers.{guarded, first_note, paper_room, wire_room}
use Rattle.codes.specs.declared.Note.{Note}
use Rattle.codes.specs.declared.Note.TheVariants.{Clear, Unreadable, Inactive, OtherOption, Stray}
use Rattle.printer.specs.State.{PrinterState, CallEffect, done}
use Rattle.printer.specs.Calls.{network_call}
use Rattle.printer.specs.Session.{Call, network, called, answers_from}
use Rattle.read_back.specs.Ends.{printer_answers, printer_paper, printer_after, NetworkCalls, none, byte}
use Rattle.read_back.specs.ReadBack.{OnlyPrints, ReadAs}
use Rattle.read_back.proofs.Steps.{reads, Reads, steps}

-- a network call with room is not refused, and does not turn on how much room there is
with_room_lem : (p : PrinterState) (x paper wire : ℕ) → paper_room ≤ paper → wire_room ≤ wire
    → called p (network x paper wire) ≡ done (reads p x)
unfolding called network_call guarded
with_room_lem p x paper wire h k = rw (le-ltb paper paper_room h, le-ltb wire wire_room k)

-- the first note of two is Clear only if both are
both_clear : (m n : Note) → first_note m n ≡ Clear → (m ≡ Clear) × (n ≡ Clear)
both_clear Clear n h = (refl, h)
both_clear Unreadable n h = (h, cc)
both_clear Inactive n h = (h, cc)
both_clear OtherOption n h = (h, cc)
both_clear Stray n h = (h, cc)

record Together (bytes : List ℕ) (p : PrinterState) (given : List CallEffect) : Type 0 where
  paper : printer_paper given ≡ (steps reads p bytes).paper
  state : printer_after p given ≡ (steps reads p bytes).state
  each : (steps reads p bytes).note ≡ Clear → (steps reads p bytes).wire ≡ [] → (steps reads p bytes).taken ≡ []
      → (a : CallEffect) → Memᴰ a given → OnlyPrints a

-- one answer, and those that follow it
more : (p : PrinterState) (x : ℕ) (bytes : List ℕ) (given : List CallEffect) → Together bytes (reads p x).state given
    → Together (x ∷ bytes) p (done (reads p x) ∷ given)
unfolding printer_after flat_map steps
more p x bytes given r =
    let d = reads p x in
    let e = steps reads d.state bytes in
    record {
      paper = rw r.paper;
      state = r.state;
      each = λ n w t a m.
          let notes = both_clear d.note e.note n in
          let wires = (append-eq-nil_iff {p = d.wire} {q = e.wire}).0 w in
          let keys = (append-eq-nil_iff {p = d.taken} {q = e.taken}).0 t in
          ⊎_elim
          (λ (s : a ≡ done d). rw s (record { code = refl; note = notes.0; wire = wires.0; taken = keys.0 }))
          (λ (s : Memᴰ a given). r.each notes.1 wires.1 keys.1 a s)
          (Memᴰ.cases_cons m);
    }

together : {bytes : List ℕ} {calls : List Call} → NetworkCalls bytes calls → (p : PrinterState)
    → Together bytes p (printer_answers p calls)
unfolding answers_from printer_after flat_map steps
together none p = record { paper = refl; state = refl; each = λ n w t a m. absurd (Memᴰ.not-nil m) }
together (byte {x} {bytes} {calls} {paper} {wire} h k rest) p =
    subst (λ (a : CallEffect). Together (x ∷ bytes) p (a ∷ printer_answers a.effect.state calls)) (sym (with_room_lem p x paper wire h k))
    (more p x bytes (printer_answers (reads p x).state calls) (together rest (reads p x).state))

-- so bytes that are read as data are so by the calls
pub by_calls : {bytes x : List ℕ} {calls : List Call} → NetworkCalls bytes calls → (p : PrinterState) → Reads x p (steps reads p bytes)
    → ReadAs x p (printer_answers p calls)
by_calls n p r =
    let t = together n p in
    record { each = t.each r.note r.wire r.taken; paper = rw t.paper r.paper; state = rw t.state r.state }

pub state_by : {bytes : List ℕ} {calls : List Call} → NetworkCalls bytes calls → (p : PrinterState)
    → printer_after p (printer_answers p calls) ≡ (steps reads p bytes).state
state_by n p = (together n p).state
