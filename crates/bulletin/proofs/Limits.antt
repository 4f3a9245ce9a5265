-- One call fits its lent buffers.
use mathlib.Core.List.{List, [], ◌∷◌}
use Prim.Native.Nat.{ℕ}
use native.Mathlib.Omega.{arith}
use lib.Dec.{lit≤}
use Rattle.lists.proofs.Lengths.{chosen, either}
use Rattle.codes.specs.Telnet.{DS}
use Rattle.codes.specs.Dispositions.{option_number}
use Rattle.codes.specs.declared.Note.{Note}
use Rattle.negotiation.specs.declared.Side.TheVariants.{Echo, BulletinSga, Rcte, Macro, PrinterSga, Disposes, Uncarried}
use Rattle.negotiation.specs.Carried.{reply_bytes}
use Rattle.negotiation.proofs.Replies.{reply_long}
use Rattle.bodies.specs.declared.MacroReply.{MacroReply}
use Rattle.bodies.specs.declared.MacroReply.TheVariants.{Accept, Refuse, PleaseCancel}
use Rattle.sent_macros.specs.Sending.{Definitions, sent_of, is_accepted, is_too_long, defining_bytes}
use Rattle.bulletin.specs.State.{BulletinState, handlings_now, definitions_now, Effect, sends, notes}
use Rattle.bulletin.specs.Network.{data_read, side_moved, macro_replied}
use Rattle.bulletin.specs.Calls.{item_sent}
use Rattle.bulletin.specs.Limits.{FitsWire, Fits, NetworkFits, MoveFits, SuggestionFits, OrderFits, DefineFits, ItemFits, CallFits}
use Rattle.bulletin.proofs.LimitsBytes.{frame_long, define_long, cancel_long, order_long, item_within, stored_long}
use Rattle.bulletin.proofs.Walk.{EachStep, network_holds, call_holds}

sent : {bytes : List ℕ} {s : BulletinState} → FitsWire bytes → Fits (sends bytes s)
sent l = record { host = lit≤ tt; wire = l }

noted : {n : Note} {s : BulletinState} → Fits (notes n s)
noted = record { host = lit≤ tt; wire = lit≤ tt }

pub move_fits : MoveFits
unfolding side_moved
move_fits s Macro q reply l = sent (omega arith)
move_fits s (Disposes d) q reply l = sent (omega arith)
move_fits s Rcte q reply l = sent (omega arith)
move_fits s Echo q reply l = sent (omega arith)
move_fits s BulletinSga q reply l = sent (omega arith)
move_fits s PrinterSga q reply l = sent (omega arith)
move_fits s Uncarried q reply l = sent (omega arith)

replied_fits : (s : BulletinState) (r : MacroReply) → Fits (macro_replied s r)
replied_fits s (Accept x) = sent (lit≤ tt)
replied_fits s (Refuse x) = sent (lit≤ tt)
replied_fits s (PleaseCancel x) = sent (either FitsWire (is_accepted (sent_of s.table x)) (omega (arith, cancel_long x)) (lit≤ tt))

pub suggestion_fits : SuggestionFits
suggestion_fits d v = omega (arith, frame_long (option_number d ∷ DS ∷ v ∷ []))

pub order_fits : OrderFits
order_fits cmd breaks sends = omega (arith, order_long cmd breaks sends)

pub define_fits : DefineFits
define_fits t x bytes e = omega (arith, define_long x bytes, stored_long t x bytes e)

-- .. and one that is too long writes nothing
pub defining_fits : (t : Definitions) (x : ℕ) (bytes : List ℕ) → FitsWire (defining_bytes t x bytes)
defining_fits t x bytes = chosen FitsWire (is_too_long t x bytes) (λ e. lit≤ tt) (define_fits t x bytes)

pub item_fits : ItemFits
unfolding item_sent
item_fits s k = sent (omega (arith, item_within (definitions_now s) (handlings_now s) k))

each_fits : EachStep (λ s (e : Effect). Fits e)
unfolding data_read
each_fits = record {
  stays = λ s n. noted;
  reads = λ f. f;
  gives = λ s b. record { host = lit≤ tt; wire = lit≤ tt };
  moves = λ s side q whose r option reached. move_fits s side q (reply_bytes whose r option) (reply_long whose r option);
  values = λ s d v. sent (lit≤ tt);
  replies = replied_fits;
  suggests = λ s d v. sent (suggestion_fits d v);
  orders = λ s cmd breaks classes. sent (order_fits cmd breaks classes);
  defines = λ s x t w n. sent (define_fits s.table x t n.1.1.1.1.0);
  uses = λ s x. sent (lit≤ tt);
  items = item_fits;
  issues = λ s n. sent (lit≤ tt);
}

pub network_fits : NetworkFits
network_fits s b = network_holds each_fits s b

pub call_fits : CallFits
call_fits s c = call_holds each_fits s c
