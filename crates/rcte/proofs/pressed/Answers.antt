use Rattle.lists.proofs.Starts.{wrote_none}
use Rattle.rcte.specs.Refinement.{view_rcte}
use Rattle.rcte.proofs.Pressing.{held_waits, free_takes}
use Rattle.rcte.proofs.pressed.Goals as goal

pub returns-then-e : goal.returns-then-e
returns-then-e c =
    let a = c.args in
    let queue = c.queued.ensures in
    rw (held_waits (view_rcte a.e) a.k c.if-e.true)
    (record { wrote = record { paper = wrote_none _; wire = wrote_none _ }; rcte = queue.rcte; clean = queue.clean })

pub take_up-t-requires : goal.take_up-t-requires
take_up-t-requires c =
    let rule = free_takes (view_rcte c.args.e) c.args.k c.if-e.false in
    rw (c.orders.ensures, c.gathered_bytes-g.ensures)
    record { room_for = rw rule at c.requires.room_for; room_for_2 = rw rule at c.requires.room_for_2 }

pub returns : goal.returns
returns c =
    let took = rw (c.orders.ensures, c.gathered_bytes-g.ensures) at c.take_up-t.ensures in
    rw (free_takes (view_rcte c.args.e) c.args.k c.if-e.false)
    (record {
      wrote = took.wrote;
      rcte = rw (← took.broke, ← took.gathered.bytes) c.left.ensures.rcte;
      clean = λ h. c.left.ensures.clean (took.gathered.clean h.gathered) h.numbers;
    })
