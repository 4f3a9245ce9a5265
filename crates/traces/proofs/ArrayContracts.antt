-- The contracts of the exported calls, as a trace on arrays knows them.
use mathlib.Core.Path.{refl}
use Rattle.printer.specs.Session as PS
use Rattle.bulletin.specs.Session as BS
use Rattle.traces.specs.ArrayContracts.{PrinterNetworkEnsures, PrinterPressEnsures, PrinterAskEnsures, PrinterSuggestEnsures, BulletinNetworkEnsures, BulletinAskEnsures, BulletinSuggestEnsures, BulletinOrderEnsures, BulletinDefineEnsures, BulletinUseEnsures, BulletinTextEnsures, BulletinIssueEnsures}

pub printer_network_ensures : PrinterNetworkEnsures
unfolding PS.called
printer_network_ensures w κs a r e = refl

pub printer_press_ensures : PrinterPressEnsures
unfolding PS.called
printer_press_ensures w κs a r e = refl

pub printer_ask_ensures : PrinterAskEnsures
unfolding PS.called
printer_ask_ensures w κs a r e = refl

pub printer_suggest_ensures : PrinterSuggestEnsures
unfolding PS.called
printer_suggest_ensures w κs a r e = refl

pub bulletin_network_ensures : BulletinNetworkEnsures
unfolding BS.called
bulletin_network_ensures w κs a r e = refl

pub bulletin_ask_ensures : BulletinAskEnsures
unfolding BS.called
bulletin_ask_ensures w κs a r e = refl

pub bulletin_suggest_ensures : BulletinSuggestEnsures
unfolding BS.called
bulletin_suggest_ensures w κs a r e = refl

pub bulletin_order_ensures : BulletinOrderEnsures
unfolding BS.called
bulletin_order_ensures w κs a r e = refl

pub bulletin_define_ensures : BulletinDefineEnsures
unfolding BS.called
bulletin_define_ensures w κs a r e = refl

pub bulletin_use_ensures : BulletinUseEnsures
unfolding BS.called
bulletin_use_ensures w κs a r e = refl

pub bulletin_text_ensures : BulletinTextEnsures
unfolding BS.called
bulletin_text_ensures w κs a r e = refl

pub bulletin_issue_ensures : BulletinIssueEnsures
unfolding BS.called
bulletin_issue_ensures w κs a r e = refl
