use Rattle.printer.proofs.Replying.{both_wrote}
use Rattle.printer.specs.Refinement.{view_printer}
use Rattle.negotiation.specs.Carried.{reply_bytes}
use Rattle.printer.proofs.moves.moved_with_reply.Goals as goal

pub returns : goal.returns
returns c =
    let x = c.args in
    let p = c.put_reply-n in
    let m = c.side_moved-step in
    record {
      note = m.ensures.note;
      wrote = record {
        paper = m.ensures.wrote.paper;
        wire = both_wrote (view_printer x.s) x.side x.q (reply_bytes x.whose x.reply x.option) c.requires.room_for_2 p.ensures m.ensures.wrote.wire;
      };
      view = m.ensures.view;
      clean = m.ensures.clean;
    }
