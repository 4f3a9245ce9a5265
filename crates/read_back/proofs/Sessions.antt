-- No call of the bulletin end makes 255 other than free.
use mathlib.Core.Path.{◌≡◌, refl, sym, subst, ◌∙◌}
use mathlib.Core.Bool.{Bool, true, false, false≢true}
use mathlib.Core.List.{List, [], ◌∷◌, Memᴰ}
use Prim.Native.Nat.{ℕ}
use lib.ListN.{set, get_or-replicate}
use lib.Seq.{set-get_or, get_or-set_other}
use lib.Dec.{eqb, lit<}
use borrow.Author.Tests.{eqb-true, eqb-false}
use Rattle.lists.proofs.Lengths.{either, chosen}
use Rattle.codes.specs.Telnet.{IAC}
use Rattle.negotiation.specs.declared.OptionState.{OptionState}
use Rattle.negotiation.specs.declared.Side.{Side}
use Rattle.negotiation.specs.declared.Side.TheVariants.{Echo, BulletinSga, Rcte, Macro, PrinterSga, Disposes, Uncarried}
use Rattle.negotiation.specs.Table.{is_yes}
use Rattle.bodies.specs.declared.MacroReply.{MacroReply}
use Rattle.bodies.specs.declared.MacroReply.TheVariants.{Accept, Refuse, PleaseCancel}
use Rattle.sent_macros.specs.Sending.{Definitions, Sent, free, no_definitions, sent_of, is_accepted, on_accept, on_refuse, defining, sent_for}
use Rattle.bulletin.specs.State.{BulletinState, fresh, with_definition, CallEffect}
use Rattle.bulletin.specs.Network.{side_moved, macro_replied}
use Rattle.bulletin.specs.Calls.{define_guards}
use Rattle.bulletin.specs.Session.{Call, called, answers_from}
use Rattle.read_back.specs.Ends.{bulletin_after}
use Rattle.read_back.specs.ReadBack.{IacFree, IacStaysFree}
use Rattle.codes.proofs.Guards.{NoneHolds}
use Rattle.bulletin.proofs.Invariant.{Steps, call_kept, answers_kept}

abbrev FreeIn : Definitions → Type 0
FreeIn t = sent_of t IAC ≡ free

none_free : FreeIn no_definitions
none_free = get_or-replicate 256 255 free free (lit< tt)

-- an entry changed: another byte's, or 255's left free
set_free : (t : Definitions) (x : ℕ) (v : Sent) → FreeIn t → (x ≡ IAC → v ≡ free) → FreeIn (set t x v)
set_free t x v h k = go (eqb x IAC) refl
  where
    go : (c : Bool) → eqb x IAC ≡ c → FreeIn (set t x v)
    go true e =
        let q = eqb-true x IAC e in
        rw (k q ∙ sym h, q, set-get_or t IAC free) h
    go false e = get_or-set_other t x IAC v free (λ (q : IAC ≡ x). eqb-false x IAC e (sym q)) ∙ h

side_free : (s : BulletinState) (side : Side) (q : OptionState) (reply : List ℕ) → IacFree s → IacFree (side_moved s side q reply).state
unfolding side_moved
side_free s Macro q reply h = either FreeIn (is_yes q) h none_free
side_free s (Disposes d) q reply h = h
side_free s Rcte q reply h = h
side_free s Echo q reply h = h
side_free s BulletinSga q reply h = h
side_free s PrinterSga q reply h = h
side_free s Uncarried q reply h = h

-- 255 is free, so that no answer about it changes its entry
replies_free : (s : BulletinState) (r : MacroReply) → IacFree s → IacFree (macro_replied s r).state
unfolding defining
replies_free s (Accept x) h = set_free s.table x (on_accept (sent_of s.table x)) h (λ (e : x ≡ IAC). rw (e, h))
replies_free s (Refuse x) h = set_free s.table x (on_refuse (sent_of s.table x)) h (λ (e : x ≡ IAC). rw (e, h))
replies_free s (PleaseCancel x) h =
    chosen FreeIn (is_accepted (sent_of s.table x))
    (λ k. set_free s.table x (sent_for x (x ∷ [])) h (λ (e : x ≡ IAC). absurd (false≢true (rw (e, h) at k))))
    (λ k. h)

-- a DEFINE of 255 is refused
defines_free : (s : BulletinState) (x : ℕ) (t : List ℕ) (w : ℕ) → NoneHolds (define_guards s x t w) → IacFree s
    → IacFree (with_definition s x t)
unfolding defining
defines_free s x t w n h = set_free s.table x (sent_for x t) h (λ (e : x ≡ IAC). absurd (eqb-false x IAC n.1.1.0 e))

free_steps : Steps IacFree
free_steps = record {
  others = λ e f g h. subst FreeIn f h;
  moves = λ s side q reply reached h. side_free s side q reply h;
  replies = replies_free;
  defines = defines_free;
  issues = λ s n h. h;
}

pub called_free : (s : BulletinState) (c : Call) → IacFree s → IacFree (called s c).effect.state
called_free s c h = call_kept IacFree free_steps s c h

-- what the first state has and every answer leaves, the last state has
after_kept : (P : BulletinState → Type 0) (s : BulletinState) (given : List CallEffect) → P s → ((a : CallEffect) → Memᴰ a given → P a.effect.state)
    → P (bulletin_after s given)
unfolding bulletin_after
after_kept P s [] h k = h
after_kept P s (a ∷ given) h k = after_kept P a.effect.state given (k a (Memᴰ.head refl)) (λ x m. k x (Memᴰ.tail m))

pub iac_stays_free : IacStaysFree
iac_stays_free session =
    after_kept IacFree fresh (answers_from fresh session) none_free (answers_kept IacFree free_steps fresh session none_free)
