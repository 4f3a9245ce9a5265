-- The rules of both ends, opened: `unfolding both_rules` lets a closed term of them compute.
use mathlib.Core.List.{flat_map}
use Rattle.lists.specs.Lists.{sum}
use Rattle.codes.specs.Answers.{guarded}
use Rattle.codes.specs.Dispositions.{disposition_numbered}
use Rattle.wire.specs.Frames.{coded, frame}
use Rattle.negotiation.specs.Carried.{printer_side, clashes, asked_side, heard_by, asking_of}
use Rattle.negotiation.specs.Table.{heard, asked}
use Rattle.reader.specs.Reading.{keeping, command_read, body_command_read, read, by_option}
use Rattle.subnegotiation.specs.Checks.{option_checked, checked}
use Rattle.bodies.specs.MacroBodies.{macro_body, reply_body}
use Rattle.received_macros.specs.Texts.{total, defined, judged}
use Rattle.sent_macros.specs.Sending.{sent_total, defining, is_too_long, define_bytes, data_bytes}
use Rattle.disposition.specs.ByOption.{is_waiting}
use Rattle.disposition.specs.ItemData.{disposition_of, character_data, line_data, item_data}
use Rattle.printer.specs.Network as PN
use Rattle.printer.specs.Calls as PC
use Rattle.printer.specs.Session as PS
use Rattle.bulletin.specs.Network as BN
use Rattle.bulletin.specs.Calls as BC
use Rattle.bulletin.specs.Session as BS
use Rattle.read_back.specs.Ends.{printer_after, bulletin_after}
use Rattle.read_back.specs.TextSent.{all_data}

unfoldable pub both_rules : Unit {0}
unfolding sum flat_map guarded coded frame printer_side clashes asked_side heard_by asking_of heard asked keeping command_read body_command_read read by_option option_checked checked macro_body reply_body total defined judged sent_total defining is_too_long define_bytes data_bytes disposition_numbered is_waiting disposition_of character_data line_data item_data PN.data_read PN.side_moved PN.negotiation_read PN.body_read PN.byte_read PN.bytes_read PN.network_read PC.network_call PS.called PS.answers_from BN.data_read BN.side_moved BN.negotiation_read BN.body_read BN.network_read BC.network_call BC.ask_call BC.define_call BC.use_call BC.text_call BC.item_sent BC.text_data BC.use_data BS.called BS.answers_from printer_after bulletin_after all_data
both_rules = tt
