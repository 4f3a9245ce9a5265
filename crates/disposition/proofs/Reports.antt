-- A report's numbers tell, of each option, who handles and by which value.
use mathlib.Core.Path.{◌≡◌, ap}
use mathlib.Core.List.{List}
use Prim.Native.Nat.{ℕ}
use native.Mathlib.Omega.{arith}
use lib.ListN.{get_or}
use Rattle.disposition.specs.declared.Handling.{Handling}
use Rattle.disposition.specs.declared.Handling.TheVariants.{Sender, Receiver}
use Rattle.disposition.specs.Handled.{Report, report_of, ReportsDiffer}

told_apart : (g h : Handling) → report_of g ≡ report_of h → g ≡ h
told_apart (Sender m) (Sender n) e = ap Sender (ap (λ (r : Report). r.value) e)
told_apart (Receiver m) (Receiver n) e = ap Receiver (ap (λ (r : Report). r.value) e)
told_apart (Sender m) (Receiver n) e = absurd (omega (arith, ap (λ (r : Report). r.who) e))
told_apart (Receiver m) (Sender n) e = absurd (omega (arith, ap (λ (r : Report). r.who) e))

-- where there is none
none : Report
none = record { who = 0; value = 0 }

pub reports_differ : ReportsDiffer
reports_differ g h e =
    let at : ℕ → List Report → Report = λ i rs. get_or rs i none in
    let naocrd = told_apart g.naocrd h.naocrd (ap (at 0) e) in
    let naolfd = told_apart g.naolfd h.naolfd (ap (at 1) e) in
    let naoffd = told_apart g.naoffd h.naoffd (ap (at 2) e) in
    let naohtd = told_apart g.naohtd h.naohtd (ap (at 3) e) in
    λ i. record { naocrd = naocrd i; naolfd = naolfd i; naoffd = naoffd i; naohtd = naohtd i }
