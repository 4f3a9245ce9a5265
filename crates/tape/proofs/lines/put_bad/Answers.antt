use Rattle.lists.proofs.Behind.{wrote_both}
use Rattle.decimals.specs.Decimals.{number_then}
use Rattle.tape.proofs.LineParts.{bad_parts}
use Rattle.tape.proofs.lines.put_bad.Goals as goal

pub returns : goal.returns
returns c =
    let n = c.args.n in
    rw (bad_parts n) (wrote_both c.put_bytes-a.ensures (number_then n 10) (rw (bad_parts n) at c.requires) c.put_number.ensures)
