-- The contracts of the bulletin end ensure what a trace asks, as they are written.
use mathlib.Core.Path.{refl, sym}
use mathlib.Core.Bool.{false≢true}
use Rattle.bulletin.specs.Session.{called}
use Rattle.traces.specs.BulletinTraces.{network, ask, suggest, order, define, use_macro, text, issue}
use Rattle.traces.specs.BulletinContracts.{
  OnWireMeetsContract,
  FreshEnsures,
  NetworkEnsures,
  AskEnsures,
  SuggestEnsures,
  OrderEnsures,
  DefineEnsures,
  UseEnsures,
  TextEnsures,
  IssueEnsures,
}

pub on_wire_meets : OnWireMeetsContract
on_wire_meets s (network b) wire r n g host = absurd (false≢true (sym n))
on_wire_meets s (ask o y) wire r n g host = g.met host
on_wire_meets s (suggest o v) wire r n g host = g.met host
on_wire_meets s (order c breaks sends) wire r n g host = g.met host
on_wire_meets s (define x t) wire r n g host = g.met host
on_wire_meets s (use_macro x) wire r n g host = g.met host
on_wire_meets s (text k) wire r n g host = g.met host
on_wire_meets s (issue m) wire r n g host = g.met host

pub fresh_ensures : FreshEnsures
fresh_ensures κs a r e w = refl

pub network_ensures : NetworkEnsures
unfolding called
network_ensures κs a r e w = refl

pub ask_ensures : AskEnsures
unfolding called
ask_ensures κs a r e w = refl

pub suggest_ensures : SuggestEnsures
unfolding called
suggest_ensures κs a r e w = refl

pub order_ensures : OrderEnsures
unfolding called
order_ensures κs a r e w = refl

pub define_ensures : DefineEnsures
unfolding called
define_ensures κs a r e w = refl

pub use_ensures : UseEnsures
unfolding called
use_ensures κs a r e w = refl

pub text_ensures : TextEnsures
unfolding called
text_ensures κs a r e w = refl

pub issue_ensures : IssueEnsures
unfolding called
issue_ensures κs a r e w = refl
