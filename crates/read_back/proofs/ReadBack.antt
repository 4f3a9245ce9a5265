-- The claims that text is read back.
use mathlib.Core.Path.{refl, sym, ◌∙◌}
use mathlib.Core.List.{List}
use Prim.Native.Nat.{ℕ}
use Rattle.lists.proofs.Uniform.{get_d_uniform}
use Rattle.received_macros.specs.Texts.{plain}
use Rattle.sent_macros.specs.Sending.{free}
use Rattle.printer.specs.State as P
use Rattle.bulletin.specs.State as B
use Rattle.read_back.specs.Ends.{reached}
use Rattle.read_back.specs.TextSent.{data_of, answer}
use Rattle.read_back.specs.ReadBack.{Demanded, OnlyHolds, EachReadBack, AllReadBack, MacroReadBack, DemandedAgree, FreshDemanded, TextReadBack}
use Rattle.read_back.proofs.Steps.{reads, Reads, steps}
use Rattle.read_back.proofs.Bytes.{macro_read_lem}
use Rattle.read_back.proofs.Calls.{by_calls, state_by}
use Rattle.read_back.proofs.Agreement.{SameTable, agreed_after}
use Rattle.read_back.proofs.Sessions.{iac_stays_free}
use Rattle.read_back.proofs.Tables.{free_alone}
use Rattle.read_back.proofs.Sent.{allowed_done, does_sends, sent_read, sent_same, all_same, all_sent}

pub each_read_back : EachReadBack
each_read_back b p iac a c h calls n =
    let r : Reads (data_of b c) p (steps reads p (answer b c).effect.wire) = rw h at (sent_read b iac p a c) in (
      rw (allowed_done b c h) (does_sends b c),
      record {
        read = by_calls n p r;
        again = rw (state_by n p) (agreed_after (sent_same b c) r.state a);
      },
    )

pub all_read_back : AllReadBack
all_read_back b p iac a cs calls n =
    let r = all_sent b iac p a cs in
    record { read = by_calls n p r; again = rw (state_by n p) (agreed_after (all_same b cs) r.state a) }

pub macro_read_back : MacroReadBack
macro_read_back b p a m x t h calls n = by_calls n p (macro_read_lem p x t (a.macros m) a.between (a.same m x t h))

demanded_after : {b c : B.BulletinState} {x : List ℕ} {p q : P.PrinterState} → SameTable b c → OnlyHolds x p q → Demanded b p → Demanded c q
demanded_after s h a = record {
  macros = rw (s.sides, h.sides) a.macros;
  between_commands = h.between;
  same = rw (s.table, h.table) a.same;
  none = rw (s.table, h.table) a.none;
}

pub demanded_agree : DemandedAgree
demanded_agree b p d = record {
  macros = λ on. sym d.macros ∙ on;
  between = d.between_commands;
  same = λ on. d.same;
  none = λ on x h. d.none x (rw (d.macros ∙ on) at h);
}

pub text_read_back : TextReadBack
text_read_back session p d cs calls n =
    let b = reached session in
    let r = all_read_back b p (iac_stays_free session) (demanded_agree b p d) cs calls n in
    record { read = r.read; again = demanded_after (all_same b cs) r.read.state d }

pub fresh_demanded : FreshDemanded
fresh_demanded = record {
  macros = refl;
  between_commands = refl;
  same = λ x t h. absurd (free_alone t (sym (get_d_uniform 256 x free) ∙ h));
  none = λ x h. get_d_uniform 256 x plain;
}
