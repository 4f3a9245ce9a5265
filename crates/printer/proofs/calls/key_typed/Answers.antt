use mathlib.Core.Path.{refl, sym, ◌∙◌}
use Rattle.printer.specs.Calls.{key_typed}
use Rattle.printer.proofs.calls.key_typed.Goals as goal

pub pressed-requires : goal.pressed-requires
unfolding key_typed
pressed-requires c =
    let on = sym c.rcte_in_force.ensures ∙ c.if-rcte_in_force.true in
    let free = rw on at c.requires.s_value in
    record { room_for = rw free (rw on at c.requires.room_for); room_for_2 = rw free (rw on at c.requires.room_for_2) }

pub returns-then-rcte_in_force : goal.returns-then-rcte_in_force
unfolding key_typed
returns-then-rcte_in_force c =
    let free = rw (sym c.rcte_in_force.ensures ∙ c.if-rcte_in_force.true) at c.requires.s_value in
    let e = rw free at c.pressed.ensures in
    rw (sym c.rcte_in_force.ensures ∙ c.if-rcte_in_force.true, c.after_rcte.ensures)
    (record {
      note = refl;
      wrote = e.wrote;
      view = rw e.rcte;
      clean = λ k. record { reader = k.reader; table = k.table; rcte = e.clean k.rcte };
    })

pub send_key-sent-requires : goal.send_key-sent-requires
unfolding key_typed
send_key-sent-requires c =
    let off = sym c.rcte_in_force.ensures ∙ c.if-rcte_in_force.false in
    record {
      room_for = rw (off, ← c.echo_in_force-echoed.ensures) at c.requires.room_for;
      room_for_2 = rw off at c.requires.room_for_2;
    }

pub returns : goal.returns
unfolding key_typed
returns c =
    let w = c.send_key-sent.ensures in
    rw (sym c.rcte_in_force.ensures ∙ c.if-rcte_in_force.false, ← c.echo_in_force-echoed.ensures)
    (record { note = refl; wrote = w; view = refl; clean = λ k. k })
