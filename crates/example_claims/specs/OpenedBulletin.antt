-- The bulletin end's rules, opened for computation.
use Rattle.bodies.specs.MacroBodies.{reply_body}
use Rattle.disposition.specs.ByOption.{is_waiting}
use Rattle.disposition.specs.ItemData.{disposition_of, character_data, line_data, item_data}
use Rattle.sent_macros.specs.Sending.{sent_total, defining, is_too_long, define_bytes, data_bytes}
use Rattle.bulletin.specs.Calls.{network_call, ask_call, suggest_call, order_bytes, order_call, define_call, use_call, item_sent, text_call, text_data, use_data, issue_call}
use Rattle.bulletin.specs.Network.{data_read, side_moved, negotiation_read, body_read, network_read}
use Rattle.bulletin.specs.Session.{called, answers_from}
use Rattle.example_claims.specs.Opened.{layer_rules}

unfoldable pub bulletin_rules : Unit {0}
unfolding layer_rules reply_body is_waiting disposition_of character_data line_data item_data sent_total defining is_too_long define_bytes data_bytes network_call ask_call suggest_call order_bytes order_call define_call use_call item_sent text_call text_data use_data issue_call data_read side_moved negotiation_read body_read network_read called answers_from
bulletin_rules = tt
