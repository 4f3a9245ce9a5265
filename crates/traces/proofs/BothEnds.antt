-- Demand 2 of the program, from demand 2 of the rules and the two ends' traces.
use mathlib.Core.Path.{◌≡◌, refl, ap, ap₂, subst, ◌∙◌}
use mathlib.Core.Logic.{⊎_elim}
use mathlib.Core.List.Memᴰ
use mathlib.Core.List.{List, ◌++◌, Memᴰ, flat_map}
use Prim.Native.Nat.{ℕ}
use lib.ListN.{length}
use Rattle.lists.specs.Buffers.{WroteAtStart}
use Rattle.lists.proofs.ReadOff.{read_off}
use Rattle.printer.specs.Refinement.{view_printer}
use Rattle.printer.specs.State as rules-printer
use Rattle.printer.specs.Session as PS
use Rattle.printer.specs.declared.Printer.{Printer}
use Rattle.bulletin.specs.Refinement.{view_bulletin}
use Rattle.bulletin.specs.State as rules-bulletin
use Rattle.bulletin.specs.Session as BS
use Rattle.bulletin.specs.declared.Bulletin.{Bulletin}
use Rattle.bulletin.proofs.FreshBulletin.{fresh_view}
use Rattle.read_back.specs.Ends.{NetworkCalls, printer_after, bulletin_after, reached}
use Rattle.read_back.specs.TextSent.{Sending, answers, all_data, all_wire}
use Rattle.read_back.specs.ReadBack as rules
use Rattle.read_back.specs.ReadBack.{Demanded, Agreed, ReadBack}
use Rattle.read_back.proofs.ReadBack.{all_read_back, text_read_back}
use Rattle.traces.specs.Chains.{Beside, last_of}
use Rattle.traces.specs.Traces as P
use Rattle.traces.specs.BulletinTraces as B
use Rattle.traces.specs.BothEnds.{sent_bytes, printed_bytes, OnlyPrints, Exchange, Delivered, ProgramReadBack, ProgramTextReadBack}
use Rattle.traces.proofs.Chains.{chain_answers}

-- what is needed of each answer: the bytes it wrote, and the state that it left
record Sent (a : rules-bulletin.CallEffect) (m : B.AnsweredCall) : Type 0 where
  wire : WroteAtStart a.effect.wire m.wire m.answer.wire
  view : view_bulletin m.answer.state ≡ a.effect.state

pub record Read (a : rules-printer.CallEffect) (n : P.AnsweredCall) : Type 0 where
  pub code : n.answer.code ≡ a.code
  pub note : n.answer.note ≡ a.effect.note
  pub paper : WroteAtStart a.effect.paper n.paper n.answer.paper
  pub wire : WroteAtStart a.effect.wire n.wire n.answer.wire
  pub view : view_printer n.answer.state ≡ a.effect.state

sent : {b : Bulletin} {ms : List B.AnsweredCall} → B.Trace b ms → Beside Sent (BS.answers_from (view_bulletin b) (B.calls_of ms)) ms
unfolding BS.answers_from
sent r =
    chain_answers BS.called (λ a. a.effect.state) BS.answers_from (λ v. refl) (λ v c cs. refl) view_bulletin B.call_of B.after B.MeetsContract (λ s. Unit {0}) Sent
    (λ s m g t. (record { wire = g.sent; view = g.view }, g.view, tt)) r tt

pub read : {p : Printer} {ns : List P.AnsweredCall} → P.Trace p ns → Beside Read (PS.answers_from (view_printer p) (P.calls_of ns)) ns
unfolding PS.answers_from
read r =
    chain_answers PS.called (λ a. a.effect.state) PS.answers_from (λ v. refl) (λ v c cs. refl) view_printer P.call_of P.after P.MeetsContract (λ s. Unit {0}) Read
    (λ s n g t. (record { code = g.code; note = g.note; paper = g.wrote.paper; wire = g.wrote.wire; view = g.view }, g.view, tt)) r tt

-- what was written, read off the buffers, is what the rules write
module _ {A M : Type 0} (R : A → M → Type 0) (bytes : A → List ℕ) (written : M → List ℕ) (same : (a : A) (m : M) → R a m → written m ≡ bytes a) where
  pub written_is : {xs : List A} {ms : List M} → Beside R xs ms → flat_map written ms ≡ flat_map bytes xs
  unfolding flat_map
  written_is Beside.none = refl
  written_is (Beside.more r rs) = ap₂ (λ (x y : List ℕ). x ++ y) (same _ _ r) (written_is rs)

-- the state behind the calls is seen as the state behind the rules' answers
bulletin_last : {xs : List rules-bulletin.CallEffect} {ms : List B.AnsweredCall} (b : Bulletin) (v : rules-bulletin.BulletinState) → view_bulletin b ≡ v → Beside Sent xs ms
    → view_bulletin (last_of B.after b ms) ≡ bulletin_after v xs
unfolding last_of bulletin_after
bulletin_last b v e Beside.none = e
bulletin_last b v e (Beside.more r rs) = bulletin_last _ _ r.view rs

printer_last : {xs : List rules-printer.CallEffect} {ns : List P.AnsweredCall} (p : Printer) (v : rules-printer.PrinterState) → view_printer p ≡ v → Beside Read xs ns
    → view_printer (last_of P.after p ns) ≡ printer_after v xs
unfolding last_of printer_after
printer_last p v e Beside.none = e
printer_last p v e (Beside.more r rs) = printer_last _ _ r.view rs

prints : (a : rules-printer.CallEffect) (n : P.AnsweredCall) → Read a n → rules.OnlyPrints a → OnlyPrints n
prints a n r o = record {
  code = r.code ∙ o.code;
  note = r.note ∙ o.note;
  count = r.wire.count ∙ ap length o.wire;
  wire = r.wire.cells ∙ (rw o.wire);
}

pub each_prints : {xs : List rules-printer.CallEffect} {ns : List P.AnsweredCall} → Beside Read xs ns → ((a : rules-printer.CallEffect) → Memᴰ a xs → rules.OnlyPrints a)
    → (n : P.AnsweredCall) → Memᴰ n ns → OnlyPrints n
each_prints Beside.none all n k = absurd (Memᴰ.not-nil k)
each_prints (Beside.more {x = a} {y = m} r rs) all n k =
    ⊎_elim
    (λ (e : n ≡ m). rw e (prints a m r (all a (Memᴰ.head refl))))
    (λ t. each_prints rs (λ c i. all c (Memᴰ.tail i)) n t)
    (Memᴰ.cases_cons k)

module _ {b : Bulletin} {p : Printer} {cs : List Sending} {ms : List B.AnsweredCall} {ns : List P.AnsweredCall} (x : Exchange b p cs ms ns) where
  answers_sent : Beside Sent (answers (view_bulletin b) cs) ms
  answers_sent = subst (λ (calls : List BS.Call). Beside Sent (BS.answers_from (view_bulletin b) calls) ms) x.sendings (sent x.sends)

  bytes_read : NetworkCalls (all_wire (view_bulletin b) cs) (P.calls_of ns)
  bytes_read =
      subst (λ (bytes : List ℕ). NetworkCalls bytes (P.calls_of ns))
      (written_is Sent (λ a. a.effect.wire) sent_bytes (λ a m r. read_off r.wire) answers_sent) x.bytes

  delivered : (Premise : rules-bulletin.BulletinState → rules-printer.PrinterState → Type 0) (bytes : List ℕ)
      → ReadBack Premise bytes (bulletin_after (view_bulletin b) (answers (view_bulletin b) cs)) (view_printer p) (P.calls_of ns)
      → Delivered Premise b p bytes ms ns
  delivered Premise bytes r =
      let given = read x.reads in
      record {
        each = each_prints given r.read.each;
        paper = written_is Read (λ a. a.effect.paper) printed_bytes (λ a n o. read_off o.paper) given ∙ r.read.paper;
        again = rw (bulletin_last b (view_bulletin b) refl answers_sent, printer_last p (view_printer p) refl given) r.again;
      }

pub program_read_back : ProgramReadBack
program_read_back b p iac agreed cs ms ns x =
    delivered x Agreed (all_data (view_bulletin b) cs) (all_read_back (view_bulletin b) (view_printer p) iac agreed cs (P.calls_of ns) (bytes_read x))

-- a state that a trace reached is one that a session reaches
pub run_reached : (before : List B.AnsweredCall) (f : B.TraceFromFresh before) → view_bulletin (last_of B.after f.start before) ≡ reached (B.calls_of before)
run_reached before f =
    let view : view_bulletin f.start ≡ rules-bulletin.fresh = ap view_bulletin f.is_fresh ∙ fresh_view in
    bulletin_last f.start rules-bulletin.fresh view
    (subst (λ (v : rules-bulletin.BulletinState). Beside Sent (BS.answers_from v (B.calls_of before)) before) view (sent f.run))

pub program_text_read_back : ProgramTextReadBack
program_text_read_back before f p premise cs ms ns x =
    let b = last_of B.after f.start before in
    let e : view_bulletin b ≡ reached (B.calls_of before) = run_reached before f in
    let at : (v : rules-bulletin.BulletinState) → v ≡ reached (B.calls_of before) → Demanded v (view_printer p) → NetworkCalls (all_wire v cs) (P.calls_of ns)
    → ReadBack Demanded (all_data v cs) (bulletin_after v (answers v cs)) (view_printer p) (P.calls_of ns) =
    λ v h d c. rw h (text_read_back (B.calls_of before) (view_printer p) (rw h at d) cs (P.calls_of ns) (rw h at c)) in
    delivered x Demanded (all_data (view_bulletin b) cs) (at (view_bulletin b) e premise (bytes_read x))
