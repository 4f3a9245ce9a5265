-- What every call makes of the waits.
use mathlib.Core.Path.{◌≡◌, refl, sym, ap, ◌∙◌}
use mathlib.Core.Bool.{Bool, true, false, ◌&&◌, ◌||◌, true≢false, false≢true}
use mathlib.Core.Logic.{inl}
use mathlib.Core.List.{List, [], ◌∷◌}
use Prim.Native.Nat.{ℕ}
use native.Mathlib.Omega.{arith}
use lib.ListN.{length}
use Rattle.lists.proofs.Tables.{both_right}
use Rattle.codes.specs.declared.Disposition.{Disposition}
use Rattle.codes.proofs.Entries.{entry_for_each}
use Rattle.keys.specs.declared.Key.{Key}
use Rattle.negotiation.specs.declared.OptionState.{OptionState}
use Rattle.negotiation.specs.declared.Side.{Side}
use Rattle.negotiation.specs.declared.Side.TheVariants.{Echo, BulletinSga, Rcte, Macro, PrinterSga, Disposes, Uncarried}
use Rattle.negotiation.specs.Carried.{reply_bytes}
use Rattle.reader.specs.Reading.{ReaderState}
use Rattle.disposition.specs.ByOption.{wait_of, handling_of}
use Rattle.disposition.specs.Handled.{handling_in}
use Rattle.disposition.specs.ItemData.{takes_part, awaits}
use Rattle.bulletin.specs.State.{BulletinState, fresh, with_reader, handlings_now, Effect}
use Rattle.bulletin.specs.Network.{data_read, side_moved}
use Rattle.bulletin.specs.Calls.{wait_after, waits_after, item_sent}
use Rattle.bulletin.specs.Waiting.{WaitsSo, WaitsByOwnOutcome, WaitEndsRightly}
use Rattle.bulletin.proofs.Waiting.{Rightly, unmoved, disposition_moved, revalued}
use Rattle.bulletin.proofs.Walk.{EachStep, call_holds, answers_leave}

-- no option waits at first, nor behind data
never_waits : (d : Disposition) → wait_of fresh.waits d ≡ true → ⊥
never_waits d w = false≢true (sym (entry_for_each (λ (d : Disposition). false) d) ∙ w)

not_none : (b : ℕ) → (b ∷ []) ≡ [] → ⊥
not_none b e = absurd (omega (arith, ap (λ (l : List ℕ). length l) e))

data_rightly : (s : BulletinState) (b : ℕ) → Rightly s (data_read s b)
unfolding data_read
data_rightly s b = record { so = λ h d w. absurd (never_waits d w); ends = λ d w n. inl (not_none b) }

side_rightly : (s : BulletinState) (side : Side) (q : OptionState) (reply : List ℕ) → Rightly s (side_moved s side q reply)
unfolding side_moved
side_rightly s Macro q reply = unmoved refl
side_rightly s (Disposes d) q reply = disposition_moved s d q
side_rightly s Rcte q reply = unmoved refl
side_rightly s Echo q reply = unmoved refl
side_rightly s BulletinSga q reply = unmoved refl
side_rightly s PrinterSga q reply = unmoved refl
side_rightly s Uncarried q reply = unmoved refl

-- the reader is nothing that the waits turn on
with_reader_lem : {s : BulletinState} {r : ReaderState} {e : Effect} → Rightly (with_reader s r) e → Rightly s e
with_reader_lem k = record { so = k.so; ends = k.ends }

-- an item begins waits and ends none
module _ (s : BulletinState) (k : Key) where
  began : (d : Disposition) → wait_of (waits_after s k) d ≡ wait_after s.waits (handlings_now s) k d
  began d = entry_for_each (wait_after s.waits (handlings_now s) k) d

  item_so : WaitsSo s → (d : Disposition) → wait_after s.waits (handlings_now s) k d ≡ true → awaits (handling_in s.sides s.values d) ≡ true
  item_so h d = go (wait_of s.waits d) refl
    where
      go : (b : Bool) → wait_of s.waits d ≡ b → (b || (takes_part k d && awaits (handling_of (handlings_now s) d))) ≡ true
          → awaits (handling_in s.sides s.values d) ≡ true
      go true w e = h d w
      go false w e =
          ap awaits (sym (entry_for_each (handling_in s.sides s.values) d))
          ∙ both_right (takes_part k d) (awaits (handling_of (handlings_now s) d)) e

  sent_rightly : Rightly s (item_sent s k)
  unfolding item_sent
  sent_rightly = record {
    so = λ h d w. item_so h d (sym (began d) ∙ w);
    ends = λ d w n. absurd (true≢false (sym (ap (λ (b : Bool). b || (takes_part k d && awaits (handling_of (handlings_now s) d))) w) ∙ sym (began d) ∙ n));
  }

each_rightly : EachStep Rightly
each_rightly = record {
  stays = λ s n. unmoved refl;
  reads = with_reader_lem;
  gives = data_rightly;
  moves = λ s side q whose r option reached. side_rightly s side q (reply_bytes whose r option);
  values = λ s d v. revalued s d v;
  replies = λ s r. unmoved refl;
  suggests = λ s d v. revalued s d _;
  orders = λ s cmd breaks sent. unmoved refl;
  defines = λ s x t w n. unmoved refl;
  uses = λ s x. unmoved refl;
  items = sent_rightly;
  issues = λ s n. unmoved refl;
}

pub wait_ends_rightly : WaitEndsRightly
wait_ends_rightly s c d = (call_holds each_rightly s c).ends d

pub waits_by_own_outcome : WaitsByOwnOutcome
waits_by_own_outcome cs a m = answers_leave WaitsSo (λ s c h. (call_holds each_rightly s c).so h) fresh cs (λ d w. absurd (never_waits d w)) a m
