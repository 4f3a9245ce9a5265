use mathlib.Core.Path.{◌≡◌}
use Rattle.std.specs.Prelude.{None}
use borrow.Author.Rules.{rules}
use Rattle.printer.proofs.AnsweringInPlace.{entry_plain, unhandled_on_paper}
use Rattle.printer.proofs.in_place.marked_read.Goals as goal

pub returns-in_err-bytes : goal.returns-in_err-bytes
returns-in_err-bytes c =
    let parts = c.args.parts in
    let none : c.from_residual.result ≡ None = search rules in
    rw (none, entry_plain parts.sides parts.phase parts.held _ c.in_err-bytes.ensures) unhandled_on_paper
