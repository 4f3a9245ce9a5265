use mathlib.Core.Path.{◌≡◌, sym, ◌∙◌}
use mathlib.Core.Bool.{true, false}
use Prim.Native.Nat.{◌≤◌}
use native.Mathlib.Omega.{arith}
use lib.ListN.{length, length-take}
use Rattle.rcte.specs.Taking.{flushes, gathered_with}
use Rattle.rcte.specs.Refinement.{view_orders, bytes_in}
use Rattle.rcte.proofs.Gathering.{kept_room, first_room, rest_room, all_sent, none_left, first_sent, all_left}
use Rattle.rcte.proofs.Gathered.gather.Goals as goal

pub make_room-first-requires : goal.make_room-first-requires
make_room-first-requires c =
    first_room (view_orders c.args.o) (bytes_in c.args.self.now) c.args.k c.args.wire.now c.requires

pub push-requires : goal.push-requires
push-requires c =
    let long : length (bytes_in c.args.self.now) ≤ 512 = simp length-take (omega arith) in
    rw c.make_room-first.ensures.gathered.bytes (kept_room (bytes_in c.args.self.now) c.args.k long)

pub flush-requires : goal.flush-requires
flush-requires c =
    let a = c.args in
    let on : flushes (view_orders a.o) a.k ≡ true = sym c.flushes.ensures ∙ c.if-flushes.true in
    let all : bytes_in c.push.new.self ≡ gathered_with (bytes_in a.self.now) a.k = rw (← c.make_room-first.ensures.gathered.bytes) c.push.ensures.bytes in
    rw all (rest_room (view_orders a.o) (bytes_in a.self.now) a.k c.requires on c.make_room-first.ensures.wire)

pub returns-then-flushes : goal.returns-then-flushes
returns-then-flushes c =
    let a = c.args in
    let on : flushes (view_orders a.o) a.k ≡ true = sym c.flushes.ensures ∙ c.if-flushes.true in
    let all : bytes_in c.push.new.self ≡ gathered_with (bytes_in a.self.now) a.k = rw (← c.make_room-first.ensures.gathered.bytes) c.push.ensures.bytes in
    let last = c.flush.ensures in
    record {
      wire = all_sent (view_orders a.o) (bytes_in a.self.now) a.k c.requires on c.make_room-first.ensures.wire (rw all at last.wire);
      gathered = record {
        bytes = last.gathered.bytes ∙ sym (none_left (view_orders a.o) (bytes_in a.self.now) a.k on);
        clean = λ h. last.gathered.clean (c.push.ensures.clean (c.make_room-first.ensures.gathered.clean h));
        long = last.gathered.long ∙ c.push.ensures.long ∙ c.make_room-first.ensures.gathered.long;
      };
    }

pub returns : goal.returns
returns c =
    let a = c.args in
    let off : flushes (view_orders a.o) a.k ≡ false = sym c.flushes.ensures ∙ c.if-flushes.false in
    let all : bytes_in c.push.new.self ≡ gathered_with (bytes_in a.self.now) a.k = rw (← c.make_room-first.ensures.gathered.bytes) c.push.ensures.bytes in
    record {
      wire = first_sent (view_orders a.o) (bytes_in a.self.now) a.k off c.make_room-first.ensures.wire;
      gathered = record {
        bytes = all ∙ sym (all_left (view_orders a.o) (bytes_in a.self.now) a.k off);
        clean = λ h. c.push.ensures.clean (c.make_room-first.ensures.gathered.clean h);
        long = c.push.ensures.long ∙ c.make_room-first.ensures.gathered.long;
      };
    }
