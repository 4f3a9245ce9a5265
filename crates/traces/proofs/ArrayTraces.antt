-- A trace on lent arrays is one by value: a stored state is found again, and a refused call leaves its own.
use mathlib.Core.Path.{◌≡◌, refl, sym, ap, subst, ◌∙◌}
use mathlib.Core.Bool.{Bool, true, false, cond, true≢false}
use mathlib.Core.List.{List, [], ◌∷◌}
use Rattle.lists.specs.Buffers.{Lent}
use Rattle.codes.specs.Answers.{is_done}
use Rattle.codes.specs.declared.Code.{Code}
use Rattle.codes.specs.declared.Code.TheVariants.{Done}
use Rattle.printer.specs.Session as PS
use Rattle.printer.specs.Refinement as PK
use Rattle.printer.specs.Refinement.{view_printer}
use Rattle.printer.specs.declared.Printer.{Printer}
use Rattle.bulletin.specs.Session as BS
use Rattle.bulletin.specs.Refinement as BK
use Rattle.bulletin.specs.Refinement.{view_bulletin}
use Rattle.bulletin.specs.declared.Bulletin.{Bulletin}
use Rattle.session_arrays.specs.PrinterArrays.{encoded_printer}
use Rattle.session_arrays.specs.BulletinArrays.{encoded_bulletin, decoded_bulletin}
use Rattle.session_arrays.proofs.PrinterArrays.{printer_found_again}
use Rattle.session_arrays.proofs.BulletinArrays.{bulletin_found_again}
use Rattle.traces.specs.Chains.{Chain, Beside, BesideChain}
use Rattle.traces.specs.Traces as P
use Rattle.traces.specs.BulletinTraces as B
use Rattle.traces.specs.ArrayTraces.{PrinterOnArrays, PrinterMeetsOnArrays, PrinterSameCall, PrinterArraysAsByValue, BulletinOnArrays, BulletinMeetsOnArrays, BulletinSameCall, BulletinArraysAsByValue, BulletinArraysOnWire}
use Rattle.traces.proofs.BulletinContracts.{on_wire_meets}

-- what stands in the arrays behind a call: its new state, which is the old one if it was refused
kept_state : {S A : Type 0} (stored : S → A) (s t : S) (c d : Code) → c ≡ d → ((d ≡ Done → ⊥) → t ≡ s) → cond (is_done c) (stored t) (stored s) ≡ stored t
kept_state {S} {A} stored s t c d e same = go (is_done c) refl
  where
    go : (b : Bool) → is_done c ≡ b → cond b (stored t) (stored s) ≡ stored t
    go true y = refl
    go false n = ap stored (sym (same (λ y. true≢false (ap is_done (sym (e ∙ y)) ∙ n))))

-- M are calls on arrays A, N calls by value on states S; a call on the arrays of a state is one by value on that state
module _ {S A M N : Type 0} (stored : S → A) (On : A → M → Type 0) (next : M → A) (By : S → N → Type 0) (after : N → S) (Same : M → N → Type 0)
    (call : (s : S) (m : M) → On (stored s) m → N)
    (by : (s : S) (m : M) (g : On (stored s) m) → By s (call s m g))
    (alike : (s : S) (m : M) (g : On (stored s) m) → Same m (call s m g))
    (kept : (s : S) (m : M) (g : On (stored s) m) → next m ≡ stored (after (call s m g))) where
  pub chained : {a : A} {ms : List M} → Chain On next a ms → (s : S) → a ≡ stored s → BesideChain By after Same s ms
  chained Chain.none s e = record { calls = []; chain = Chain.none; related = Beside.none }
  chained {a} (Chain.more {m = m} {ms = ms} g r) s e =
      let h = subst (λ (b : A). On b m) e g in
      let rest = chained r (after (call s m h)) (kept s m h) in
      record { calls = call s m h ∷ rest.calls; chain = Chain.more (by s m h) rest.chain; related = Beside.more (alike s m h) rest.related }

module _ (s : Printer) (m : PrinterOnArrays) (g : PrinterMeetsOnArrays (encoded_printer s) m) where
  printer_call : P.AnsweredCall
  printer_call = record { args = m.args; paper = m.paper; wire = m.wire; answer = g.answer }

  printer_by : P.MeetsContract s printer_call
  unfolding printer_call
  printer_by =
      subst (λ (t : Printer). PK.RefinesOutcome (PS.called (view_printer t) (P.call_of printer_call)) t m.paper m.wire g.answer) (printer_found_again s) g.refines

  printer_kept : m.next ≡ encoded_printer (P.after printer_call)
  unfolding printer_call
  printer_kept = g.keeps.kept ∙ kept_state encoded_printer s g.answer.state g.answer.code _ printer_by.code printer_by.same

  printer_same : PrinterSameCall m printer_call
  unfolding printer_call
  printer_same = record { args = refl; paper = refl; wire = refl; outcome = g.keeps.numbers; state = printer_kept }

pub printer_arrays_as_by_value : PrinterArraysAsByValue
printer_arrays_as_by_value s ms r =
    chained encoded_printer PrinterMeetsOnArrays (λ m. m.next) P.MeetsContract P.after PrinterSameCall printer_call printer_by printer_same printer_kept r s refl

module _ (s : Bulletin) (m : BulletinOnArrays) (g : BulletinMeetsOnArrays (encoded_bulletin s) m) where
  bulletin_call : B.AnsweredCall
  bulletin_call = record { args = m.args; host = m.host; wire = m.wire; answer = g.answer }

  bulletin_by : B.MeetsContract s bulletin_call
  unfolding bulletin_call
  bulletin_by =
      subst (λ (t : Bulletin). BK.RefinesOutcome (BS.called (view_bulletin t) (B.call_of bulletin_call)) t m.host m.wire g.answer) (bulletin_found_again s) g.refines

  bulletin_kept : m.next ≡ encoded_bulletin (B.after bulletin_call)
  unfolding bulletin_call
  bulletin_kept = g.keeps.kept ∙ kept_state encoded_bulletin s g.answer.state g.answer.code _ bulletin_by.code bulletin_by.same

  bulletin_same : BulletinSameCall m bulletin_call
  unfolding bulletin_call
  bulletin_same = record { args = refl; host = refl; wire = refl; outcome = g.keeps.numbers; state = bulletin_kept }

pub bulletin_arrays_as_by_value : BulletinArraysAsByValue
bulletin_arrays_as_by_value s ms r =
    chained encoded_bulletin BulletinMeetsOnArrays (λ m. m.next) B.MeetsContract B.after BulletinSameCall bulletin_call bulletin_by bulletin_same bulletin_kept r s refl

pub bulletin_arrays_on_wire : BulletinArraysOnWire
bulletin_arrays_on_wire m a host unlent e g = record {
  answer = g.answer;
  refines = subst (λ (h : Lent). BK.RefinesAnswer (λ n w. BS.called (view_bulletin (decoded_bulletin a)) (B.with_sizes m.args n w)) (decoded_bulletin a) h m.wire g.answer) (sym e) (on_wire_meets (decoded_bulletin a) m.args m.wire g.answer unlent g.refines host);
  keeps = g.keeps;
}
