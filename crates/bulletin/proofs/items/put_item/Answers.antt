use mathlib.Core.Path.{◌≡◌, sym, ◌∙◌}
use mathlib.Core.Bool.{true, false}
use Rattle.lists.proofs.ReadOff.{read_off}
use Rattle.keys.specs.Keys.{is_command}
use Rattle.bulletin.specs.State.{definitions_now, handlings_now}
use Rattle.bulletin.specs.Refinement.{view_bulletin}
use Rattle.disposition.proofs.ItemLengths.{item_data_fits}
use Rattle.bulletin.proofs.ItemBytes.{command_bytes, character_bytes}
use Rattle.bulletin.proofs.items.put_item.Goals as goal

pub put_key-requires : goal.put_key-requires
put_key-requires c =
    let commanded : is_command c.args.k ≡ true = sym c.is_command.ensures ∙ c.if-is_command.true in
    rw (command_bytes (definitions_now (view_bulletin c.args.s)) (handlings_now (view_bulletin c.args.s)) c.args.k commanded) at c.requires

pub returns-then-is_command : goal.returns-then-is_command
returns-then-is_command c =
    let commanded : is_command c.args.k ≡ true = sym c.is_command.ensures ∙ c.if-is_command.true in
    rw (command_bytes (definitions_now (view_bulletin c.args.s)) (handlings_now (view_bulletin c.args.s)) c.args.k commanded)
    c.put_key.ensures

pub put_item-n-requires : goal.put_item-n-requires
put_item-n-requires c = item_data_fits c.handlings_now-handlings.result c.args.k

pub put_data-requires : goal.put_data-requires
put_data-requires c =
    let typed : is_command c.args.k ≡ false = sym c.is_command.ensures ∙ c.if-is_command.false in
    rw (read_off c.put_item-n.ensures, c.handlings_now-handlings.ensures, c.table_now-table.ensures)
    (rw (character_bytes (definitions_now (view_bulletin c.args.s)) (handlings_now (view_bulletin c.args.s)) c.args.k typed) at c.requires)

pub returns : goal.returns
returns c =
    let typed : is_command c.args.k ≡ false = sym c.is_command.ensures ∙ c.if-is_command.false in
    rw (character_bytes (definitions_now (view_bulletin c.args.s)) (handlings_now (view_bulletin c.args.s)) c.args.k typed)
    (rw (read_off c.put_item-n.ensures, c.handlings_now-handlings.ensures, c.table_now-table.ensures) at c.put_data.ensures)
