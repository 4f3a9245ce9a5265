-- The contracts ensure what a trace asks, as they are written.
use mathlib.Core.Path.{refl}
use Rattle.printer.specs.Session.{called}
use Rattle.traces.specs.Contracts.{FreshEnsures, NetworkEnsures, PressEnsures, AskEnsures, SuggestEnsures}

pub fresh_ensures : FreshEnsures
fresh_ensures κs a r e w = refl

pub network_ensures : NetworkEnsures
unfolding called
network_ensures κs a r e w = refl

pub press_ensures : PressEnsures
unfolding called
press_ensures κs a r e w = refl

pub ask_ensures : AskEnsures
unfolding called
ask_ensures κs a r e w = refl

pub suggest_ensures : SuggestEnsures
unfolding called
suggest_ensures κs a r e w = refl
