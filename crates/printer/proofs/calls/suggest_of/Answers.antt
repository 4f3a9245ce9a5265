use mathlib.Core.Path.{◌≡◌, refl, sym, ◌∙◌}
use Rattle.std.specs.Prelude.{Ok, Err}
use Rattle.lists.proofs.Starts.{wrote_none}
use Rattle.codes.specs.Answers.{allowed}
use Rattle.codes.proofs.Allowed.{guarded_by}
use Rattle.disposition.specs.Handled.{suggest_guards}
use Rattle.printer.proofs.Answering.{met_refused}
use Rattle.printer.proofs.calls.suggest_of.Goals as goal

pub returns-in-Err : goal.returns-in-Err
returns-in-Err c =
    let stops : allowed (suggest_guards c.args.d c.disposition_in_force-on.result c.of-old.result.dr c.args.v) ≡ Err c.in-Err.code = sym c.suggest_refusal.ensures ∙ c.in-Err.is in
    rw (← c.disposition_in_force-on.ensures, ← c.of-old.ensures, guarded_by, stops, c.refused.ensures)
    (record { met = λ paper. met_refused })

pub returns : goal.returns
returns c =
    let passes : allowed (suggest_guards c.args.d c.disposition_in_force-on.result c.of-old.result.dr c.args.v) ≡ Ok tt = sym c.suggest_refusal.ensures ∙ c.in_default.is in
    rw (← c.disposition_in_force-on.ensures, ← c.of-old.ensures, guarded_by, passes, c.done.ensures.0, c.sends.ensures, c.with.ensures)
    (record {
      met = λ paper. record {
        code = refl;
        note = refl;
        wrote = record { paper = wrote_none paper; wire = c.put_suggestion-n.ensures };
        view = refl;
        clean = λ k. record { reader = k.reader; table = k.table; rcte = k.rcte };
        whole = λ k. record { body = k.body; cells = k.cells; waiting = k.waiting; gathered = k.gathered };
        same = λ n. absurd (n refl);
      };
    })
