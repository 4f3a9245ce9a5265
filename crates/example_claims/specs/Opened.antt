-- The printer end's and the tape's rules, opened for computation: `unfolding printer_rules` lets a closed term of them compute.
use mathlib.Core.List.{flat_map}
use Rattle.lists.specs.Choice.{one_of}
use Rattle.lists.specs.Lists.{sum}
use Rattle.codes.specs.Answers.{guarded}
use Rattle.keys.specs.Keys.{key_of_pair, class_of, in_classes, prints, key_paper, key_wire}
use Rattle.wire.specs.Frames.{coded, frame}
use Rattle.negotiation.specs.Carried.{printer_side, clashes, heard_by, asked_side, asking_of}
use Rattle.negotiation.specs.Table.{heard, asked}
use Rattle.reader.specs.Reading.{keeping, command_read, body_command_read, read, by_option}
use Rattle.reader.specs.NetworkRun.{ran_from, run_from}
use Rattle.subnegotiation.specs.Checks.{option_checked, checked}
use Rattle.bodies.specs.MacroBodies.{macro_body}
use Rattle.bodies.specs.RcteBodies.{rcte_body}
use Rattle.bodies.specs.ValueBodies.{value_body}
use Rattle.received_macros.specs.Texts.{total, defined, judged}
use Rattle.rcte.specs.Control.{is_full, pressed, released, commanded, rcte_ended}
use Rattle.rcte.specs.Taking.{is_break, is_send, taken_up}
use Rattle.codes.specs.Dispositions.{disposition_numbered}
use Rattle.disposition.specs.Handled.{handling}
use Rattle.printer.specs.Calls.{network_call, key_typed, key_call, ask_call, suggest_call}
use Rattle.printer.specs.Network.{data_read, side_moved, negotiation_read, body_read, byte_read, bytes_read, network_read}
use Rattle.printer.specs.Session.{called, answers_from}
use Rattle.printer.specs.UnusedTails.{lent_afresh}
use Rattle.decimals.specs.Decimals.{digits}
use Rattle.tape.specs.Fields.{tag_of, found_at, part_of, fields_from, pairs}
use Rattle.tape.specs.Lines.{hex_byte, line_of, shown, bad_tape}
use Rattle.tape.specs.Running.{pair_of, item_answer, items_run, fields_run, tape_output}

unfoldable pub layer_rules : Unit {0}
unfolding one_of sum flat_map guarded disposition_numbered class_of in_classes prints key_of_pair key_paper key_wire coded frame printer_side clashes heard_by asked_side asking_of heard asked keeping command_read body_command_read read by_option option_checked checked macro_body rcte_body value_body total defined judged is_full pressed released commanded rcte_ended is_break is_send taken_up handling
layer_rules = tt

unfoldable pub printer_rules : Unit {0}
unfolding layer_rules network_call key_typed key_call ask_call suggest_call data_read side_moved negotiation_read body_read byte_read bytes_read network_read ran_from run_from called answers_from
printer_rules = tt

unfoldable pub tape_rules : Unit {0}
unfolding printer_rules tag_of found_at part_of fields_from pairs digits hex_byte line_of shown bad_tape lent_afresh pair_of item_answer items_run fields_run tape_output
tape_rules = tt
