-- What every call of the printer end keeps. A property of its state that turns on the sides and the table alone is kept, if the steps
-- that change these keep it.
use Rattle.std.specs.Prelude.{Option, Some, None, Result, Ok, Err}
use mathlib.Core.Path.{◌≡◌, refl}
use mathlib.Core.Bool.{Bool, true, ◌&&◌}
use mathlib.Core.Logic.{⊎_elim}
use mathlib.Core.List.Memᴰ
use mathlib.Core.List.{List, [], ◌∷◌, Memᴰ}
use Prim.Native.Nat.{ℕ}
use lib.ListN.{drop}
use Rattle.lists.proofs.Lengths.{either}
use Rattle.codes.specs.Answers.{Guard, guarded}
use Rattle.codes.specs.Dispositions.{disposition_numbered}
use Rattle.codes.specs.Telnet.{DS}
use Rattle.codes.specs.declared.Disposition.{Disposition}
use Rattle.codes.proofs.Entries.{found_cases}
use Rattle.codes.specs.declared.Verb.{Verb}
use Rattle.negotiation.specs.declared.OptionState.{OptionState}
use Rattle.negotiation.specs.declared.End.{End}
use Rattle.negotiation.specs.declared.Side.{Side}
use Rattle.codes.specs.declared.Code.{Code}
use Rattle.negotiation.specs.declared.Move.{Move}
use Rattle.negotiation.specs.Carried.{moved, reply_bytes, asked_side, asked_whose, asked_enable, asking_of, asked_by}
use Rattle.negotiation.specs.Apart.{Reached}
use Rattle.negotiation.specs.Apart.Reached.{hears, asks}
use Rattle.reader.specs.declared.Item.{Item}
use Rattle.reader.specs.declared.Item.TheVariants.{Nothing, Data, Negotiated, BodyEnd, StrayCommand}
use Rattle.reader.specs.Reading.{idle, read, is_between}
use Rattle.bodies.specs.declared.RcteCommand.{RcteCommand}
use Rattle.bodies.specs.declared.MacroCommand.{MacroCommand}
use Rattle.bodies.specs.declared.MacroCommand.TheVariants.{Define, Literal}
use Rattle.bodies.specs.RcteBodies.{rcte_body}
use Rattle.bodies.specs.MacroBodies.{macro_body, define_rest}
use Rattle.bodies.specs.ValueBodies.{value_body}
use Rattle.received_macros.specs.Texts.{Entry, plain, text, entry_of, judged, after_define}
use Rattle.subnegotiation.specs.Checks.{Checked}
use Rattle.subnegotiation.proofs.Outcomes.{checked_cases}
use Rattle.printer.specs.State.{PrinterState, with_reader, with_table, rcte_in_force, bm_in_force, Effect, CallEffect, done, refused}
use Rattle.printer.specs.Network.{data_read, side_moved, moved_with_reply, negotiation_read, rcte_read, macro_read, value_read, body_handled, body_read, item_read, byte_read, bytes_read, entry_read, network_read}
use Rattle.printer.specs.Calls.{network_call, key_typed, key_call, ask_of, ask_call, suggest_call}
use Rattle.printer.specs.Session.{Call, network, key, ask, suggest, called, answers_from}

-- the steps that change sides or table: a side moves by a negotiation received or an ask, a DEFINE is judged while BM is in force
pub record Steps (P : PrinterState → Type 0) : Type 0 where
  pub others : {s t : PrinterState} → s.sides ≡ t.sides → s.table ≡ t.table → P s → P t
  pub moves : (s : PrinterState) (side : Side) (q : OptionState) → (Reached End.Printer s.sides → Reached End.Printer (moved s.sides side q))
      → P s → P (side_moved s side q).state
  pub defines : (s : PrinterState) (x : ℕ) (rest : List ℕ) → bm_in_force s ≡ true → P s
      → P (with_table s (after_define (judged s.table x rest) s.table x (drop 1 rest)))

module _ (P : PrinterState → Type 0) (k : Steps P) where
  abbrev Leaves : Effect → Type 0
  Leaves d = P d.state

  module _ (s : PrinterState) (h : P s) where
    data_kept : (b : ℕ) → Leaves (data_read s b)
    unfolding data_read
    data_kept b = either P (rcte_in_force s) (k.others refl refl h) h

    heard_kept : (v : Verb) (option : ℕ) → Leaves (negotiation_read s v option)
    unfolding negotiation_read
    heard_kept v option = k.moves s _ _ (λ r. hears r v option) h

    rcte_kept : (b : Option RcteCommand) → Leaves (rcte_read s b)
    rcte_kept None = h
    rcte_kept (Some c) = k.others refl refl h

    macro_kept : (body : List ℕ) (b : Option MacroCommand) → bm_in_force s ≡ true → Leaves (macro_read s body b)
    macro_kept body None on = h
    macro_kept body (Some (Define x)) on = k.defines s x (define_rest body) on h
    macro_kept body (Some (Literal x)) on = data_kept x

    value_kept : (d : Disposition) (b : Option ℕ) → Leaves (value_read s d b)
    value_kept d None = h
    value_kept d (Some v) = k.others refl refl h

    body_kept : (marred : Bool) (body : List ℕ) → Leaves (body_read s marred body)
    unfolding body_read
    body_kept marred body =
        checked_cases (λ (c : Checked). Leaves (body_handled s body c)) End.Printer s.sides (λ n. h) (λ on. rcte_kept (rcte_body body))
        (λ d on. value_kept d (value_body d DS body)) (λ on. macro_kept body (macro_body body) on) marred body

    asked_kept : (option way : ℕ) → Leaves (ask_of s option (asked_whose way) (asked_side End.Printer option way) (asked_enable way)).effect
    asked_kept option way = go (asking_of s.sides side (asked_enable way)) refl
      where
        side : Side
        side = asked_side End.Printer option way

        go : (a : Result Move Code) → asking_of s.sides side (asked_enable way) ≡ a
            → Leaves (asked_by (refused s) (λ q r. done (moved_with_reply s side q (reply_bytes (asked_whose way) r option))) a).effect
        go (Err c) e = h
        go (Ok m) e = k.moves s side m.next (λ reached. asks reached option way m.next m.reply e) h

    -- a refusal returns the state that it was given
    guarded_kept : (gs : List Guard) (a : CallEffect) → Leaves a.effect → Leaves (guarded gs (refused s) a).effect
    unfolding guarded
    guarded_kept [] a f = f
    guarded_kept (g ∷ gs) a f = either (λ (a : CallEffect). Leaves a.effect) g.holds h (guarded_kept gs a f)

  item_kept : (s : PrinterState) (i : Item) → P s → Leaves (item_read s i)
  item_kept s Nothing h = h
  item_kept s (Data b) h = data_kept s h b
  item_kept s (Negotiated v option) h = heard_kept s h v option
  item_kept s BodyEnd h = body_kept (with_reader s idle) (k.others refl refl h) s.reader.marred s.reader.body
  item_kept s StrayCommand h = h

  byte_kept : (s : PrinterState) (b : ℕ) → P s → Leaves (byte_read s b)
  unfolding byte_read
  byte_kept s b h = let r = read s.reader b in item_kept (with_reader s r.reader) r.item (k.others refl refl h)

  bytes_kept : (s : PrinterState) (bs : List ℕ) → P s → Leaves (bytes_read s bs)
  unfolding bytes_read
  bytes_kept s [] h = h
  bytes_kept s (b ∷ bs) h = bytes_kept (byte_read s b).state bs (byte_kept s b h)

  entry_kept : (s : PrinterState) (b : ℕ) (e : Entry) → P s → Leaves (entry_read s b e)
  entry_kept s b plain h = byte_kept s b h
  entry_kept s b (text t) h = bytes_kept s t h

  network_kept : (s : PrinterState) (b : ℕ) → P s → Leaves (network_read s b)
  unfolding network_read
  network_kept s b h =
      either Leaves (bm_in_force s && is_between s.reader.phase) (entry_kept s b (entry_of s.table b) h) (byte_kept s b h)

  pub call_kept : (s : PrinterState) (c : Call) → P s → P (called s c).effect.state
  unfolding called network_call key_call key_typed ask_call suggest_call
  call_kept s (network b p w) h = guarded_kept s h _ _ (network_kept s b h)
  call_kept s (key i p w) h = guarded_kept s h _ _ (either Leaves (rcte_in_force s) (k.others refl refl h) h)
  call_kept s (ask o y p w) h =
      guarded_kept s h _ _ (asked_kept s h o y)
  call_kept s (suggest o v p w) h = guarded_kept s h _ _ (found_cases (λ (a : CallEffect). Leaves a.effect) h (λ d. guarded_kept s h _ _ (k.others refl refl h)) (disposition_numbered o))

  -- and so does every answer to a list of calls
  pub answers_kept : (s : PrinterState) (cs : List Call) → P s → (a : CallEffect) → Memᴰ a (answers_from s cs) → Leaves a.effect
  unfolding answers_from
  answers_kept s [] h a m = absurd (Memᴰ.not-nil m)
  answers_kept s (c ∷ cs) h a m =
      let n = call_kept s c h in
      ⊎_elim
      (λ (e : a ≡ called s c). rw e n)
      (λ (r : Memᴰ a (answers_from (called s c).effect.state cs)). answers_kept (called s c).effect.state cs n a r)
      (Memᴰ.cases_cons m)
