-- A reply or a request is three bytes at most.
use Prim.Native.Nat.{ℕ, ◌≤◌}
use lib.ListN.{length}
use lib.Dec.{lit≤}
use Rattle.codes.specs.declared.Whose.{Whose}
use Rattle.negotiation.specs.declared.Reply.{Reply}
use Rattle.negotiation.specs.declared.Reply.TheVariants.{Silent, Positive, Negative}
use Rattle.negotiation.specs.Carried.{reply_bytes}

pub reply_long : (whose : Whose) (r : Reply) (option : ℕ) → length (reply_bytes whose r option) ≤ 3
reply_long whose Silent option = lit≤ tt
reply_long whose Positive option = lit≤ tt
reply_long whose Negative option = lit≤ tt
