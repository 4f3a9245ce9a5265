use Rattle.received_macros.proofs.Copying.{packed}
use Rattle.received_macros.proofs.repacked.Goals as goal

pub returns : goal.returns
returns c =
    let a = c.args in
    let p = c.requires in
    rw (c.copy_from_slice.ensures.after, c.copy_from_slice-2.ensures.after, c.copy_from_slice-3.ensures.after)
    (packed a.cells.now a.part.now a.start a.end a.total c.told-cells p.0 p.1 p.2 p.3)
