-- By whether the byte has a text, and whether that was printed in place.
use Rattle.printer.proofs.MarkedBytes.{marked_room, marked_met, marked_unwritten}
use Rattle.printer.proofs.network.marked_read.Goals as goal

pub text_read-requires : goal.text_read-requires
text_read-requires c =
    let a = c.args in
    rw c.parts.ensures (marked_room a.s a.b _ c.in-Some.ensures a.paper.now c.requires.room_for)

pub returns-in-Some-text_read : goal.returns-in-Some-text_read
returns-in-Some-text_read c =
    let a = c.args in
    marked_met a.s a.b _ c.in-Some.ensures (rw c.parts.ensures at c.in-Some-text_read.ensures) a.wire.now

pub text_read-requires-in-None : goal.text_read-requires-in-None
text_read-requires-in-None c =
    let a = c.args in
    let same = marked_unwritten a.s a.b _ c.in-Some.ensures (rw c.parts.ensures at c.in-None.ensures) in
    rw same (rw c.in-Some.ensures at c.requires)

pub returns-in-None : goal.returns-in-None
returns-in-None c =
    let a = c.args in
    let same = marked_unwritten a.s a.b _ c.in-Some.ensures (rw c.parts.ensures at c.in-None.ensures) in
    rw c.in-Some.ensures (rw same at c.text_read-in-None.ensures)
