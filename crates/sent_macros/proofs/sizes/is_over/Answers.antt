use native.Mathlib.Omega.{arith}
use borrow.Author.Tests.{lt-ltb}
use lib.ListN.{length}
use Rattle.sent_macros.specs.Sending.{stored, stored_room}
use Rattle.sent_macros.proofs.Totals.{stored_long}
use Rattle.sent_macros.proofs.sizes.is_over.Goals as goal

pub returns-then-text-gt-STORED_ROOM : goal.returns-then-text-gt-STORED_ROOM
returns-then-text-gt-STORED_ROOM c =
    let s = c.args.text.now in
    rw (lt-ltb stored_room (length (stored s)) (omega (arith, stored_long s)), lt-ltb stored_room (length s) (omega arith))
