-- The digits before the last are written by the same function, which then stores the last one behind them.
use mathlib.Core.List.{[], ◌∷◌, ◌++◌}
use Prim.Native.Nat.{◌+◌, ◌-◌, ◌/◌, ◌%◌}
use Rattle.lists.specs.Buffers.{RoomFor}
use Rattle.lists.proofs.Behind.{last_place, wrote_last}
use Rattle.decimals.specs.Decimals.{digits}
use Rattle.decimals.proofs.Digits.{more_digits}
use Rattle.decimals.proofs.+put_digits.Goals as goal

pub bounds-out-n : goal.bounds-out-n
bounds-out-n t c =
    let all : RoomFor (digits (c.args.most - 1) (c.args.m / 10) ++ (48 + c.args.m % 10) ∷ []) c.args.out.now = rw (more_digits _ _ c.if-most-eq0.false c.if-m-lt10.false) at c.requires in
    last_place c.put_digits-n.ensures _ all

pub returns : goal.returns
returns t c =
    let more = more_digits c.args.most c.args.m c.if-most-eq0.false c.if-m-lt10.false in
    let all : RoomFor (digits (c.args.most - 1) (c.args.m / 10) ++ (48 + c.args.m % 10) ∷ []) c.args.out.now = rw more at c.requires in
    rw more (wrote_last c.put_digits-n.ensures _ all)
