use mathlib.Core.Path.{refl, sym, ◌∙◌}
use Rattle.lists.proofs.Starts.{wrote_none}
use Rattle.bulletin.proofs.in_place.negotiated.Goals as goal

pub returns-then-not-moves_alone : goal.returns-then-not-moves_alone
returns-then-not-moves_alone c =
    rw (← c.heard_by-turn.ensures, sym c.moves_alone.ensures ∙ c.if-not-moves_alone.true)
    (record { met = λ host. record { paper = wrote_none host; wire = wrote_none _ } })

pub put_reply-wire-requires : goal.put_reply-wire-requires
put_reply-wire-requires c =
    rw (← c.heard_by-turn.ensures, sym c.moves_alone.ensures ∙ c.if-not-moves_alone.false) at c.requires

pub returns : goal.returns
returns c =
    rw (← c.heard_by-turn.ensures, sym c.moves_alone.ensures ∙ c.if-not-moves_alone.false, c.moved.ensures)
    (record { met = λ host. record { parts = refl; wrote = record { paper = wrote_none host; wire = c.put_reply-wire.ensures } } })
