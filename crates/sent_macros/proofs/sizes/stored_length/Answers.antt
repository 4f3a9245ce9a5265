use Rattle.std.proofs.Common.{◌≡◌, ◌==◌, rules, count_by}
use Rattle.sent_macros.proofs.Totals.{stored_counted}
use Rattle.sent_macros.proofs.sizes.stored_length.Goals as goal

pub returns : goal.returns
returns c =
    let count : c.count.result ≡ count_by (λ b. b == 255) c.args.bytes.now = search rules in
    rw (stored_counted c.args.bytes.now, count)
