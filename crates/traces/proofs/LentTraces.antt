-- A trace on a lent record is a trace by value.
use mathlib.Core.Path.{◌≡◌, refl, sym, ap₂, subst, ◌∙◌}
use mathlib.Core.List.{List, [], ◌∷◌, map}
use Prim.Native.Nat.{ℕ}
use lib.ListN.{length}
use Rattle.lists.specs.Buffers.{Lent, lent_as, WroteAtStart}
use Rattle.lists.proofs.Lengths.{either}
use Rattle.codes.specs.Dispositions.{disposition_numbered}
use Rattle.codes.proofs.Entries.{found_cases}
use Rattle.codes.specs.Answers.{Guard, guarded}
use Rattle.codes.specs.declared.Code.{Code}
use Rattle.codes.specs.declared.Code.TheVariants.{Done}
use Rattle.negotiation.proofs.Outcomes.{asked_cases}
use Rattle.printer.specs.Session as PS
use Rattle.printer.specs.State as PT
use Rattle.printer.specs.Calls as PCalls
use Rattle.printer.specs.Refinement.{view_printer}
use Rattle.printer.specs.declared.Printer.{Printer}
use Rattle.bulletin.specs.Session as BS
use Rattle.bulletin.specs.State as BT
use Rattle.bulletin.specs.Calls as BCalls
use Rattle.bulletin.specs.Refinement.{view_bulletin}
use Rattle.bulletin.specs.declared.Bulletin.{Bulletin}
use Rattle.read_back.specs.TextSent.{Sending}
use Rattle.bulletin.proofs.Determined as BD
use Rattle.sessions.specs.Refinement.{bulletin_answer}
use Rattle.traces.specs.Chains.{Chain, Beside}
use Rattle.traces.specs.Traces as P
use Rattle.traces.specs.BulletinTraces as B
use Rattle.traces.specs.LentTraces.{
  PrinterLent,
  printer_by_value,
  printer_calls_by_value,
  PrinterLentFromFresh,
  PrinterLentIsTrace,
  PrinterLentIsSession,
  PrinterSameGiven,
  PrinterLentAsByValue,
  PrinterRefusedUnchanged,
  BulletinLent,
  bulletin_by_value,
  bulletin_calls_by_value,
  BulletinLentFromFresh,
  BulletinLentIsTrace,
  BulletinLentIsSession,
  BulletinSameGiven,
  BulletinLentAsByValue,
  BulletinRefusedUnchanged,
  BulletinLentOnWire,
  LentTwoSessions,
  LentExchange,
  LentReadBack,
  LentTextReadBack,
  PrinterNetworkEnsures,
  PrinterPressEnsures,
  PrinterAskEnsures,
  PrinterSuggestEnsures,
  BulletinNetworkEnsures,
  BulletinAskEnsures,
  BulletinSuggestEnsures,
  BulletinOrderEnsures,
  BulletinDefineEnsures,
  BulletinUseEnsures,
  BulletinTextEnsures,
  BulletinIssueEnsures,
}
use Rattle.traces.specs.BothEnds.{Exchange}
use Rattle.traces.proofs.Chains.{both_beside}
use Rattle.traces.proofs.Session as PR
use Rattle.traces.proofs.BulletinTraces as BR
use Rattle.traces.proofs.Determined as PD
use Rattle.traces.proofs.BulletinContracts.{on_wire_meets}
use Rattle.traces.proofs.TwoTraces.{program_two_sessions}
use Rattle.traces.proofs.BothEnds.{program_read_back, program_text_read_back}

-- a chain of calls, each seen as another
chain_map : {S M N : Type 0} {Meets : S → N → Type 0} {after : N → S} (f : M → N) {s : S} {ms : List M}
    → Chain (λ (s : S) (m : M). Meets s (f m)) (λ (m : M). after (f m)) s ms → Chain Meets after s (map f ms)
chain_map f Chain.none = Chain.none
chain_map f (Chain.more g r) = Chain.more g (chain_map f r)

-- lists that are equal one by one, and what is equal of their elements
beside_equal : {X : Type 0} {R : X → X → Type 0} {xs ys : List X} → Beside R xs ys → Beside (λ (x y : X). R x y → x ≡ y) xs ys → xs ≡ ys
beside_equal Beside.none Beside.none = refl
beside_equal {X} (Beside.more r rs) (Beside.more e es) = ap₂ (λ (x : X) (xs : List X). x ∷ xs) (e r) (beside_equal rs es)

beside_map : {X Y : Type 0} {R : X → X → Type 0} (f : X → Y) → ((x y : X) → R x y → f x ≡ f y) → {xs ys : List X} → Beside R xs ys → map f xs ≡ map f ys
beside_map f h Beside.none = refl
beside_map {Y = Y} f h (Beside.more {x = x} {y = y} r rs) = ap₂ (λ (z : Y) (zs : List Y). z ∷ zs) (h x y r) (beside_map f h rs)

-- no bytes written
none_written : {bytes : List ℕ} {out : Lent} {n : ℕ} → bytes ≡ [] → WroteAtStart bytes out n → out.after ≡ out.before
none_written {bytes} {out} {n} e w =
    subst (λ (l : List ℕ). WroteAtStart l out n → out.after ≡ out.before) (sym e) (λ u. u.cells) w

-- what holds of every refusal and of the answer behind the guards, holds of the guarded answer
guarded_holds : {A : Type 0} (Q : A → Type 0) (gs : List Guard) (refused : Code → A) (d : A) → ((c : Code) → Q (refused c)) → Q d → Q (guarded gs refused d)
unfolding guarded
guarded_holds Q [] refused d r h = h
guarded_holds Q (g ∷ gs) refused d r h = either Q g.holds (r g.code) (guarded_holds Q gs refused d r h)

pub printer_lent_is_run : PrinterLentIsTrace
printer_lent_is_run s ms r = chain_map printer_by_value r

printer_fresh : {ms : List PrinterLent} → PrinterLentFromFresh ms → P.TraceFromFresh (printer_calls_by_value ms)
printer_fresh {ms} f = record { start = f.start; is_fresh = f.is_fresh; run = printer_lent_is_run f.start ms f.run }

pub printer_lent_is_session : PrinterLentIsSession
printer_lent_is_session ms f = PR.run_is_session (printer_calls_by_value ms) (printer_fresh f)

printer_same_call : (m n : P.AnsweredCall) → PrinterSameGiven m n → P.call_of m ≡ P.call_of n
printer_same_call m n g =
    let args = g.args in
    let paper = g.paper in
    let wire = g.wire in
    λ i. P.with_sizes (args i) (length (paper i)) (length (wire i))

printer_equal : (a : PT.CallEffect) (m n : P.AnsweredCall) → P.AsRuled a m → P.AsRuled a n → PrinterSameGiven m n → m ≡ n
printer_equal a m n r t g =
    let args = g.args in
    let paper = g.paper in
    let wire = g.wire in
    let paper_after : m.paper.after ≡ n.paper.after = cc (r.paper.cells, t.paper.cells, paper) in
    let wire_after : m.wire.after ≡ n.wire.after = cc (r.wire.cells, t.wire.cells, wire) in
    let code = r.code ∙ sym t.code in
    let note = r.note ∙ sym t.note in
    let count = r.paper.count ∙ sym t.paper.count in
    let sent = r.wire.count ∙ sym t.wire.count in
    let state = PD.determined_to_the_byte _ _ r.whole t.whole r.clean t.clean (r.view ∙ sym t.view) in
    λ i. record {
      args = args i;
      paper = lent_as (paper i) (paper_after i);
      wire = lent_as (wire i) (wire_after i);
      answer = record { code = code i; note = note i; paper = count i; wire = sent i; state = state i };
    }

pub printer_lent_as_by_value : PrinterLentAsByValue
printer_lent_as_by_value ms ns f g same =
    let calls = beside_map P.call_of printer_same_call same in
    beside_equal same
    (both_beside P.AsRuled P.AsRuled (λ m n. PrinterSameGiven m n → m ≡ n) printer_equal
    (printer_lent_is_session ms f)
    (subst (λ (cs : List PS.Call). Beside P.AsRuled (PS.session cs) ns) (sym calls) (PR.run_is_session ns g)))

pub bulletin_lent_is_run : BulletinLentIsTrace
bulletin_lent_is_run s ms r = chain_map bulletin_by_value r

bulletin_fresh : {ms : List BulletinLent} → BulletinLentFromFresh ms → B.TraceFromFresh (bulletin_calls_by_value ms)
bulletin_fresh {ms} f = record { start = f.start; is_fresh = f.is_fresh; run = bulletin_lent_is_run f.start ms f.run }

pub bulletin_lent_is_session : BulletinLentIsSession
bulletin_lent_is_session ms f = BR.run_is_session (bulletin_calls_by_value ms) (bulletin_fresh f)

bulletin_same_call : (m n : B.AnsweredCall) → BulletinSameGiven m n → B.call_of m ≡ B.call_of n
bulletin_same_call m n g =
    let args = g.args in
    let host = g.host in
    let wire = g.wire in
    λ i. B.with_sizes (args i) (length (host i)) (length (wire i))

bulletin_equal : (a : BT.CallEffect) (m n : B.AnsweredCall) → B.AsRuled a m → B.AsRuled a n → BulletinSameGiven m n → m ≡ n
bulletin_equal a m n r t g =
    let args = g.args in
    let host = g.host in
    let wire = g.wire in
    let host_after : m.host.after ≡ n.host.after = cc (r.host.cells, t.host.cells, host) in
    let wire_after : m.wire.after ≡ n.wire.after = cc (r.wire.cells, t.wire.cells, wire) in
    let code = r.code ∙ sym t.code in
    let note = r.note ∙ sym t.note in
    let count = r.host.count ∙ sym t.host.count in
    let sent = r.wire.count ∙ sym t.wire.count in
    let state = BD.determined_to_the_byte _ _ r.whole t.whole r.clean t.clean (r.view ∙ sym t.view) in
    λ i. record {
      args = args i;
      host = lent_as (host i) (host_after i);
      wire = lent_as (wire i) (wire_after i);
      answer = record { code = code i; note = note i; host = count i; wire = sent i; state = state i };
    }

pub bulletin_lent_as_by_value : BulletinLentAsByValue
bulletin_lent_as_by_value ms ns f g same =
    let calls = beside_map B.call_of bulletin_same_call same in
    beside_equal same
    (both_beside B.AsRuled B.AsRuled (λ m n. BulletinSameGiven m n → m ≡ n) bulletin_equal
    (bulletin_lent_is_session ms f)
    (subst (λ (cs : List BS.Call). Beside B.AsRuled (BS.session cs) ns) (sym calls) (BR.run_is_session ns g)))

pub bulletin_lent_on_wire : BulletinLentOnWire
bulletin_lent_on_wire s args wire r t = on_wire_meets s args wire (bulletin_answer r t)

pub lent_two_sessions : LentTwoSessions
lent_two_sessions marks ms ns f g a q r = program_two_sessions marks (printer_calls_by_value ms) (printer_calls_by_value ns) (printer_fresh f) (printer_fresh g) a q r

exchange : {b : Bulletin} {p : Printer} {cs : List Sending} {ms : List BulletinLent} {ns : List PrinterLent} → LentExchange b p cs ms ns → Exchange b p cs (bulletin_calls_by_value ms) (printer_calls_by_value ns)
exchange {b} {p} {cs} {ms} {ns} x = record { sends = bulletin_lent_is_run b ms x.sends; sendings = x.sendings; reads = printer_lent_is_run p ns x.reads; bytes = x.bytes }

pub lent_read_back : LentReadBack
lent_read_back b p iac agreed cs ms ns x = program_read_back b p iac agreed cs (bulletin_calls_by_value ms) (printer_calls_by_value ns) (exchange x)

pub lent_text_read_back : LentTextReadBack
unfolding bulletin_fresh
lent_text_read_back before f p premise cs ms ns x =
    program_text_read_back (bulletin_calls_by_value before) (bulletin_fresh f) p premise cs (bulletin_calls_by_value ms) (printer_calls_by_value ns) (exchange x)

-- an answer that is not done wrote nothing
abbrev PrinterUnwritten : PT.CallEffect → Type 0
PrinterUnwritten a = (a.code ≡ Done → ⊥) → (a.effect.paper ≡ []) × (a.effect.wire ≡ [])

abbrev BulletinUnwritten : BT.CallEffect → Type 0
BulletinUnwritten a = (a.code ≡ Done → ⊥) → (a.effect.host ≡ []) × (a.effect.wire ≡ [])

is_done_lem : {X : Type 0} → (Done ≡ Done → ⊥) → X
is_done_lem n = absurd (n refl)

module _ (s : PT.PrinterState) where
  printer_guarded : (gs : List Guard) (d : PT.CallEffect) → PrinterUnwritten d → PrinterUnwritten (guarded gs (PT.refused s) d)
  printer_guarded gs d q = guarded_holds PrinterUnwritten gs (PT.refused s) d (λ c n. (refl, refl)) q

  printer_unwritten : (c : PS.Call) → PrinterUnwritten (PS.called s c)
  unfolding PS.called PCalls.network_call PCalls.key_call PCalls.ask_call PCalls.suggest_call
  printer_unwritten (PS.Call.network b p w) = printer_guarded _ _ is_done_lem
  printer_unwritten (PS.Call.key k p w) = printer_guarded _ _ is_done_lem
  printer_unwritten (PS.Call.ask o y p w) = printer_guarded _ _ (asked_cases PrinterUnwritten s.sides _ _ (PT.refused s) _ (λ c n. (refl, refl)) (λ q r c e. is_done_lem))
  printer_unwritten (PS.Call.suggest o v p w) = printer_guarded _ _ (found_cases PrinterUnwritten (λ n. (refl, refl)) (λ d. printer_guarded _ _ is_done_lem) (disposition_numbered o))

module _ (s : BT.BulletinState) where
  bulletin_guarded : (gs : List Guard) (d : BT.CallEffect) → BulletinUnwritten d → BulletinUnwritten (guarded gs (BT.refused s) d)
  bulletin_guarded gs d q = guarded_holds BulletinUnwritten gs (BT.refused s) d (λ c n. (refl, refl)) q

  bulletin_unwritten : (c : BS.Call) → BulletinUnwritten (BS.called s c)
  unfolding BS.called BCalls.network_call BCalls.ask_call BCalls.suggest_call BCalls.order_call BCalls.define_call BCalls.use_call BCalls.text_call BCalls.issue_call
  bulletin_unwritten (BS.Call.network b h w) = bulletin_guarded _ _ is_done_lem
  bulletin_unwritten (BS.Call.ask o y w) = bulletin_guarded _ _ (asked_cases BulletinUnwritten s.sides _ _ (BT.refused s) _ (λ c n. (refl, refl)) (λ q r c e. is_done_lem))
  bulletin_unwritten (BS.Call.suggest o v w) = bulletin_guarded _ _ (found_cases BulletinUnwritten (λ n. (refl, refl)) (λ d. bulletin_guarded _ _ is_done_lem) (disposition_numbered o))
  bulletin_unwritten (BS.Call.order c bc tc w) = bulletin_guarded _ _ is_done_lem
  bulletin_unwritten (BS.Call.define x t w) = bulletin_guarded _ _ is_done_lem
  bulletin_unwritten (BS.Call.use_macro x w) = bulletin_guarded _ _ is_done_lem
  bulletin_unwritten (BS.Call.text k w) = bulletin_guarded _ _ is_done_lem
  bulletin_unwritten (BS.Call.issue n w) = bulletin_guarded _ _ is_done_lem

pub printer_refused_unchanged : PrinterRefusedUnchanged
printer_refused_unchanged s m g n =
    let refused : ((PS.called (view_printer s) (P.call_of (printer_by_value m))).code ≡ Done → ⊥) = λ e. n (g.code ∙ e) in
    let unprinted = printer_unwritten (view_printer s) (P.call_of (printer_by_value m)) refused in
    record { state = g.same refused; paper = none_written unprinted.0 g.wrote.paper; wire = none_written unprinted.1 g.wrote.wire }

pub bulletin_refused_unchanged : BulletinRefusedUnchanged
bulletin_refused_unchanged s m g n =
    let refused : ((BS.called (view_bulletin s) (B.call_of (bulletin_by_value m))).code ≡ Done → ⊥) = λ e. n (g.code ∙ e) in
    let unprinted = bulletin_unwritten (view_bulletin s) (B.call_of (bulletin_by_value m)) refused in
    record { state = g.same refused; host = none_written unprinted.0 g.given; wire = none_written unprinted.1 g.sent }

pub printer_network_ensures : PrinterNetworkEnsures
unfolding PS.called
printer_network_ensures w κs a r e = refl

pub printer_press_ensures : PrinterPressEnsures
unfolding PS.called
printer_press_ensures w κs a r e = refl

pub printer_ask_ensures : PrinterAskEnsures
unfolding PS.called
printer_ask_ensures w κs a r e = refl

pub printer_suggest_ensures : PrinterSuggestEnsures
unfolding PS.called
printer_suggest_ensures w κs a r e = refl

pub bulletin_network_ensures : BulletinNetworkEnsures
unfolding BS.called
bulletin_network_ensures w κs a r e = refl

pub bulletin_ask_ensures : BulletinAskEnsures
unfolding BS.called
bulletin_ask_ensures w κs a r e = refl

pub bulletin_suggest_ensures : BulletinSuggestEnsures
unfolding BS.called
bulletin_suggest_ensures w κs a r e = refl

pub bulletin_order_ensures : BulletinOrderEnsures
unfolding BS.called
bulletin_order_ensures w κs a r e = refl

pub bulletin_define_ensures : BulletinDefineEnsures
unfolding BS.called
bulletin_define_ensures w κs a r e = refl

pub bulletin_use_ensures : BulletinUseEnsures
unfolding BS.called
bulletin_use_ensures w κs a r e = refl

pub bulletin_text_ensures : BulletinTextEnsures
unfolding BS.called
bulletin_text_ensures w κs a r e = refl

pub bulletin_issue_ensures : BulletinIssueEnsures
unfolding BS.called
bulletin_issue_ensures w κs a r e = refl
