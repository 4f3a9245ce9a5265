-- What every call of the bulletin end keeps. A property of its state that turns on the sides, the table and the issues alone is kept,
-- if the steps that change these keep it.
use mathlib.Core.Path.{refl, ◌≡◌}
use mathlib.Core.List.{List, Memᴰ}
use Prim.Native.Nat.{ℕ}
use Rattle.codes.proofs.Guards.{NoneHolds}
use Rattle.negotiation.specs.declared.End.{End}
use Rattle.negotiation.specs.declared.OptionState.{OptionState}
use Rattle.negotiation.specs.declared.Side.{Side}
use Rattle.negotiation.specs.Carried.{moved, reply_bytes}
use Rattle.negotiation.specs.Apart.{Reached}
use Rattle.bodies.specs.declared.MacroReply.{MacroReply}
use Rattle.issues.specs.Issues.{with_present}
use Rattle.bulletin.specs.State.{BulletinState, with_definition, with_issues, Effect, CallEffect}
use Rattle.bulletin.specs.Network.{data_read, side_moved, macro_replied}
use Rattle.bulletin.specs.Calls.{define_guards, item_sent}
use Rattle.bulletin.specs.Session.{Call, called, answers_from}
use Rattle.bulletin.proofs.Walk.{EachStep, call_holds, answers_leave}

-- the steps that change these: a side moves by a negotiation received or an ask, an answer about a macro, a DEFINE, another issue
pub record Steps (P : BulletinState → Type 0) : Type 0 where
  pub others : {s t : BulletinState} → s.sides ≡ t.sides → s.table ≡ t.table → s.issues ≡ t.issues → P s → P t
  pub moves : (s : BulletinState) (side : Side) (q : OptionState) (reply : List ℕ)
      → (Reached End.Bulletin s.sides → Reached End.Bulletin (moved s.sides side q)) → P s → P (side_moved s side q reply).state
  pub replies : (s : BulletinState) (r : MacroReply) → P s → P (macro_replied s r).state
  pub defines : (s : BulletinState) (x : ℕ) (t : List ℕ) (w : ℕ) → NoneHolds (define_guards s x t w) → P s → P (with_definition s x t)
  pub issues : (s : BulletinState) (n : ℕ) → P s → P (with_issues s (with_present s.issues n))

module _ (P : BulletinState → Type 0) (k : Steps P) where
  each_keeps : EachStep (λ s (e : Effect). P s → P e.state)
  unfolding data_read item_sent
  each_keeps = record {
    stays = λ s n h. h;
    reads = λ f h. f (k.others refl refl refl h);
    gives = λ s b h. k.others refl refl refl h;
    moves = λ s side q whose r option reached h. k.moves s side q (reply_bytes whose r option) reached h;
    values = λ s d v h. k.others refl refl refl h;
    replies = k.replies;
    suggests = λ s d v h. k.others refl refl refl h;
    orders = λ s cmd breaks sent h. h;
    defines = k.defines;
    uses = λ s x h. h;
    items = λ s i h. k.others refl refl refl h;
    issues = k.issues;
  }

  pub call_kept : (s : BulletinState) (c : Call) → P s → P (called s c).effect.state
  call_kept s c h = call_holds each_keeps s c h

  -- and so does every answer to a list of calls
  pub answers_kept : (s : BulletinState) (cs : List Call) → P s → (a : CallEffect) → Memᴰ a (answers_from s cs) → P a.effect.state
  answers_kept s cs h a m = answers_leave P call_kept s cs h a m
