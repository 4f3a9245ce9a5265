use mathlib.Core.Path.{◌≡◌}
use native.Mathlib.Omega.{arith}
use borrow.Author.Rules.{rules}
use lib.ListN.{length}
use Rattle.received_macros.proofs.Totals.{total_room}
use Rattle.sent_macros.proofs.Totals.{stored_cells}
use Rattle.sent_macros.proofs.sizes.stored_total.Goals as goal

pub shared_ref_as_front-stored_length : goal.shared_ref_as_front-stored_length
shared_ref_as_front-stored_length c =
    let long : length c.args.texts.cells ≡ 1024 = search rules in
    omega (arith, c.total_of.ensures, total_room c.args.texts long)

pub returns : goal.returns
returns c =
    let long : length c.args.texts.cells ≡ 1024 = search rules in
    rw (c.stored_length.ensures, c.total_of.ensures) (stored_cells c.args.texts long)
