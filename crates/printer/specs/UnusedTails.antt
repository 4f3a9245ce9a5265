-- A session in lent buffers, as a program over a tape lends them: a call's bytes go into the unused tails of the lent buffers,
-- those tails are its buffers, and a buffer is lent afresh before a call would meet code 1.
use Rattle.std.specs.Prelude.{cond, List, [], ◌∷◌, ℕ, ◌-◌, ◌≤◌, length, ltb}
use Rattle.codes.specs.Answers.{paper_room, wire_room}
use Rattle.printer.specs.State.{PrinterState, fresh, CallEffect}
use Rattle.printer.specs.Session.{Call, called}
use Rattle.printer.specs.Session.Call.{network, key, ask, suggest}

-- how much of each lent buffer is unused
pub record Tails : Type 0 where
  pub paper : ℕ
  pub wire : ℕ

-- the call with these buffers, whatever sizes it had
abbrev pub in_tails : Tails → Call → Call
in_tails t (network b p w) = network b t.paper t.wire
in_tails t (key k p w) = key k t.paper t.wire
in_tails t (ask o y p w) = ask o y t.paper t.wire
in_tails t (suggest o v p w) = suggest o v t.paper t.wire

-- what is unused after an answer
abbrev pub unused_after : Tails → CallEffect → Tails
unused_after t a = record { paper = t.paper - length a.effect.paper; wire = t.wire - length a.effect.wire }

-- as much as code 1 asks for
pub record Enough (t : Tails) : Type 0 where
  pub paper : paper_room ≤ t.paper
  pub wire : wire_room ≤ t.wire

-- whole are the sizes of buffers that are lent afresh
module _ (whole : Tails) where
  unfoldable pub lent_afresh : Tails → Tails
  lent_afresh t = record {
    paper = cond (ltb t.paper paper_room) whole.paper t.paper;
    wire = cond (ltb t.wire wire_room) whole.wire t.wire;
  }

  -- the calls as they are made from state s on, each in the tails that the one before left
  unfoldable pub lent_from : PrinterState → Tails → List Call → List Call
  lent_from s t [] = []
  lent_from s t (c ∷ cs) =
      let tails = lent_afresh t in
      let made = in_tails tails c in
      let a = called s made in
      made ∷ lent_from a.effect.state (unused_after tails a) cs

  -- what is unused behind them
  unfoldable pub tails_after : PrinterState → Tails → List Call → Tails
  tails_after s t [] = t
  tails_after s t (c ∷ cs) =
      let tails = lent_afresh t in
      let a = called s (in_tails tails c) in
      tails_after a.effect.state (unused_after tails a) cs

  abbrev pub lent_session : List Call → List Call
  lent_session cs = lent_from fresh whole cs

-- Assumed: any place of a run. Promised: the unused tails for the next item have the sizes of code 1. Ruled out: a
-- buffer that is given afresh too late; one that is given afresh and is too small.
abbrev pub LentIsEnough : Type 0
LentIsEnough = (whole t : Tails) → Enough whole → Enough (lent_afresh whole t)
