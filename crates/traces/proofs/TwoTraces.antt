-- Two traces have in common what the rules' two sessions have.
use mathlib.Core.Path.{◌≡◌, sym, ap, ◌∙◌}
use mathlib.Core.List.{List}
use Prim.Native.Nat.{ℕ}
use lib.ListN.{length, take, drop}
use Rattle.lists.specs.Buffers.{Lent, WroteAtStart}
use Rattle.lists.proofs.ReadOff.{read_off}
use Rattle.printer.specs.State.{CallEffect}
use Rattle.noninterference.specs.TwoSessions.{Each, SameSeen, SameSent, SameTails}
use Rattle.noninterference.proofs.Sessions.{two_sessions}
use Rattle.traces.specs.Chains.{Beside}
use Rattle.traces.specs.Traces.{AnsweredCall, calls_of, AsRuled}
use Rattle.traces.specs.TwoTraces.{SameShown, SameSize, ProgramTwoSessions}
use Rattle.traces.proofs.Session.{run_is_session}
use Rattle.traces.proofs.Determined.{count_is_waiting}

module _ (R : CallEffect → CallEffect → Type 0) (S : AnsweredCall → AnsweredCall → Type 0) (each : (a b : CallEffect) (m n : AnsweredCall) → AsRuled a m → AsRuled b n → R a b → S m n) where
  across : {xs ys : List CallEffect} {ms ns : List AnsweredCall} → Beside AsRuled xs ms → Beside AsRuled ys ns → Each R xs ys → Beside S ms ns
  across Beside.none Beside.none Each.none = Beside.none
  across Beside.none (Beside.more s ss) e = elim e [ ]
  across (Beside.more r rs) Beside.none e = elim e [ ]
  across (Beside.more r rs) (Beside.more s ss) (Each.more t ts) = Beside.more (each _ _ _ _ r s t) (across rs ss ts)

module _ {xs ys : List ℕ} {one other : Lent} {n k : ℕ} (w : WroteAtStart xs one n) (u : WroteAtStart ys other k) where
  same_bytes : xs ≡ ys → take n one.after ≡ take k other.after
  same_bytes e = read_off w ∙ e ∙ sym (read_off u)

  same_counts : length xs ≡ length ys → n ≡ k
  same_counts e = w.count ∙ e ∙ sym u.count

  same_cells : xs ≡ ys → one.before ≡ other.before → one.after ≡ other.after
  same_cells e b = cc (w.cells, u.cells)

  same_tails : SameTails xs ys → one.before ≡ other.before → drop n one.after ≡ drop k other.after
  same_tails t b = t one other n k b w u

same_shown : {a b : CallEffect} {m n : AnsweredCall} → AsRuled a m → AsRuled b n → SameSeen a b → SameShown m n
same_shown {a} {b} {m} {n} r s t =
    let waiting = r.waiting ∙ t.waiting ∙ sym s.waiting in
    record {
      code = r.code ∙ t.code ∙ sym s.code;
      note = r.note ∙ t.note ∙ sym s.note;
      count = same_counts r.paper s.paper (ap length t.paper);
      bytes = same_bytes r.paper s.paper t.paper;
      paper = same_cells r.paper s.paper t.paper;
      waiting = waiting;
      counted = count_is_waiting m.answer.state r.whole r.clean ∙ waiting ∙ sym (count_is_waiting n.answer.state s.whole s.clean);
    }

same_size : {a b : CallEffect} {m n : AnsweredCall} → AsRuled a m → AsRuled b n → SameSent a b → SameSize m n
same_size r s t = record {
  count = same_counts r.wire s.wire t.count;
  paper = same_tails r.paper s.paper t.paper;
  wire = same_tails r.wire s.wire t.wire;
}

pub program_two_sessions : ProgramTwoSessions
program_two_sessions marks ms ns f g a q r =
    let o = two_sessions marks (calls_of ms) (calls_of ns) a q r in
    let x = run_is_session ms f in
    let y = run_is_session ns g in
    record {
      shown = across SameSeen SameShown (λ a b m n. same_shown) x y o.seen;
      sized = λ v. across SameSent SameSize (λ a b m n. same_size) x y (o.sent v);
    }
