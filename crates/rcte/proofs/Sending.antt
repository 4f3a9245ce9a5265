-- The waiting keys sent at once: what holds at the loop's head, and a turn of it.
use mathlib.Core.Path.{◌≡◌}
use mathlib.Core.List.{List, ◌∷◌, flat_map}
use mathlib.Core.Bool.{Bool}
use Prim.Native.Nat.{ℕ, ◌+◌, ◌≤◌}
use native.Mathlib.Omega.{arith}
use lib.ListN.{length, drop}
use Rattle.lists.specs.Buffers.{Lent, lent_as, untouched, RoomFor, WroteBothAtStart}
use Rattle.lists.proofs.Parts.{rest_of, with_rest}
use Rattle.lists.proofs.Filling.{Filling, nothing_filled, room_done, still_long, run_room, run_more, run_done}
use Rattle.keys.specs.declared.Key.{Key}
use Rattle.keys.specs.Keys.{key_wire}
use Rattle.rcte.specs.Taking.{sent_paper}
use Rattle.rcte.specs.Control.{sent_papers}

pub record SendLoop (echoed : Bool) (ks : List Key) (i : ℕ) (paper wire : Lent) (p w : ℕ) : Type 0 where
  pub room_paper : RoomFor (sent_papers echoed ks) paper.before
  pub room_wire : RoomFor (flat_map key_wire ks) wire.before
  pub on_paper : Filling (sent_papers echoed ks) (sent_papers echoed (drop i ks)) paper p
  pub on_wire : Filling (flat_map key_wire ks) (flat_map key_wire (drop i ks)) wire w

pub begun : (echoed : Bool) (ks : List Key) (paper wire : List ℕ) → RoomFor (sent_papers echoed ks) paper → RoomFor (flat_map key_wire ks) wire
    → SendLoop echoed ks 0 (untouched paper) (untouched wire) 0 0
begun echoed ks paper wire room_p room_w = record {
  room_paper = room_p;
  room_wire = room_w;
  on_paper = nothing_filled (sent_papers echoed ks) paper;
  on_wire = nothing_filled (flat_map key_wire ks) wire;
}

module _ {echoed : Bool} {ks : List Key} {i : ℕ} {paper wire : Lent} {p w : ℕ} (so : SendLoop echoed ks i paper wire p w) where
  pub paper_within : p ≤ length paper.after
  paper_within = omega (arith, room_done so.on_paper so.room_paper, still_long so.on_paper so.room_paper)

  pub wire_within : w ≤ length wire.after
  wire_within = omega (arith, room_done so.on_wire so.room_wire, still_long so.on_wire so.room_wire)

  module _ (k : Key) (next : drop i ks ≡ k ∷ drop (i + 1) ks) where
    pub paper_room : RoomFor (sent_paper echoed k) (rest_of paper p)
    paper_room = run_room (λ k. sent_paper echoed k) ks i k next so.on_paper so.room_paper

    pub wire_room : RoomFor (key_wire k) (rest_of wire w)
    wire_room = run_room key_wire ks i k next so.on_wire so.room_wire

    module _ {last_p last_w : List ℕ} {m n : ℕ}
        (wrote : WroteBothAtStart (sent_paper echoed k) (key_wire k) (lent_as (rest_of paper p) last_p) (lent_as (rest_of wire w) last_w) m n) where
      pub turn : SendLoop echoed ks (i + 1) (with_rest paper p last_p) (with_rest wire w last_w) (p + m) (w + n)
      turn = record {
        room_paper = so.room_paper;
        room_wire = so.room_wire;
        on_paper = run_more (λ k. sent_paper echoed k) ks i k next so.on_paper so.room_paper last_p m wrote.paper;
        on_wire = run_more key_wire ks i k next so.on_wire so.room_wire last_w n wrote.wire;
      }

      pub paper_sum : p + m ≤ length paper.before
      paper_sum = room_done turn.on_paper so.room_paper

      pub wire_sum : w + n ≤ length wire.before
      wire_sum = room_done turn.on_wire so.room_wire

  pub all_sent : length ks ≤ i → WroteBothAtStart (sent_papers echoed ks) (flat_map key_wire ks) paper wire p w
  all_sent h = record {
    paper = run_done (λ k. sent_paper echoed k) ks i h so.on_paper;
    wire = run_done key_wire ks i h so.on_wire;
  }
