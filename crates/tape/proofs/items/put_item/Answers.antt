use Rattle.lists.proofs.ReadOff.{read_off}
use Rattle.tape.proofs.items.put_item.Goals as goal

pub returns : goal.returns
returns c =
    let e = c.call_item-answer.ensures in
    record {
      line = rw (read_off e.wrote.paper, read_off e.wrote.wire, e.code) at c.put_shown.ensures;
      wrote = e.wrote;
      view = e.view;
      clean = e.clean;
    }
