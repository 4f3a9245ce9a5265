-- How long the bytes are that the bulletin end sends: frames, definitions, orders and the data of a text item.
use mathlib.Core.Path.{◌≡◌, refl}
use mathlib.Core.Bool.{Bool, true, false, ◌||◌, cond}
use mathlib.Core.List.{List, [], ◌∷◌, ◌++◌, flat_map}
use Prim.Native.Nat.{ℕ, ◌+◌, ◌*◌, ◌≤◌}
use native.Mathlib.Omega.{arith}
use borrow.Author.Tests.{ltb-false}
use lib.Dec.{ltb, eqb, lit≤}
use lib.ListN.{length, length-append}
use Rattle.lists.proofs.Lengths.{flat_map_within}
use Rattle.codes.specs.Telnet.{IAC, BM, DEFINE}
use Rattle.keys.specs.declared.Key.TheVariants.{Char, Line, Command}
use Rattle.wire.specs.Frames.{coded, doubled, frame}
use Rattle.wire.proofs.Coded.{coded_long}
use Rattle.received_macros.specs.Texts.{text_room}
use Rattle.bodies.specs.RcteBodies.{sets_breaks, sets_sends}
use Rattle.sent_macros.specs.Sending.{Definitions, sent_of, is_free, stored, stored_room, sent_total, defining, is_too_long, define_bytes, data_bytes}
use Rattle.disposition.specs.ItemData.{item_data}
use Rattle.disposition.proofs.ItemLengths.{item_data_fits}
use Rattle.bulletin.specs.Calls.{pair_bytes, order_body, order_bytes}
use Rattle.bulletin.specs.Limits.{ItemWithin}

doubled_long : (bs : List ℕ) → length (doubled bs) ≤ 2 * length bs
doubled_long bs = flat_map_within coded 2 coded_long bs

-- a frame doubles its body at most, and adds four bytes
pub frame_long : (body : List ℕ) → length (frame body) ≤ 2 * length body + 4
unfolding frame
frame_long body = simp length-append (omega (arith, doubled_long body))

pub define_long : (x : ℕ) (text : List ℕ) → length (define_bytes x text) ≤ 2 * length (stored text) + 12
unfolding define_bytes
define_long x text = omega (arith, frame_long (BM ∷ DEFINE ∷ x ∷ length (stored text) ∷ stored text))

-- PLEASE CANCEL's answer
pub cancel_long : (x : ℕ) → length (define_bytes x (x ∷ [])) ≤ 16
cancel_long x = omega (arith, define_long x (x ∷ []), doubled_long (x ∷ []))

pair_long : (b : Bool) (pair : ℕ) → length (pair_bytes b pair) ≤ 2
pair_long true pair = lit≤ tt
pair_long false pair = lit≤ tt

-- an order's option, its cmd and two pairs at most
pub body_long : (cmd breaks sends : ℕ) → length (order_body cmd breaks sends) ≤ 6
body_long cmd breaks sends = simp length-append (omega (arith, pair_long (sets_breaks cmd) breaks, pair_long (sets_sends cmd) sends))

pub order_long : (cmd breaks sends : ℕ) → length (order_bytes cmd breaks sends) ≤ 16
unfolding order_bytes
order_long cmd breaks sends = omega (arith, frame_long (order_body cmd breaks sends), body_long cmd breaks sends)

-- a LITERAL is seven bytes, and 255 is none
byte_long : (t : Definitions) (b : ℕ) → length (data_bytes t b) ≤ 7
unfolding data_bytes coded frame flat_map
byte_long t b = go (eqb b IAC) (is_free (sent_of t b))
  where
    go : (iac free : Bool) → length (cond iac (cond iac (255 ∷ 255 ∷ []) (b ∷ [])) (cond free (b ∷ []) (255 ∷ 250 ∷ 19 ∷ 4 ∷ ((cond iac (255 ∷ 255 ∷ []) (b ∷ []) ++ []) ++ 255 ∷ 240 ∷ [])))) ≤ 7
    go true free = lit≤ tt
    go false true = lit≤ tt
    go false false = lit≤ tt

pub item_within : ItemWithin
item_within t h (Char b) = omega (arith, flat_map_within (data_bytes t) 7 (byte_long t) (item_data h (Char b)), item_data_fits h (Char b))
item_within t h Line = omega (arith, flat_map_within (data_bytes t) 7 (byte_long t) (item_data h Line), item_data_fits h Line)
item_within t h (Command c) = lit≤ tt

-- a text that is not too long
pub stored_long : (t : Definitions) (x : ℕ) (text : List ℕ) → is_too_long t x text ≡ false → length (stored text) ≤ stored_room
unfolding is_too_long
stored_long t x text e = ltb-false stored_room (length (stored text)) (neither_left (ltb stored_room (length (stored text))) (ltb text_room (sent_total (defining t x text))) e)
  where
    neither_left : (a b : Bool) → (a || b) ≡ false → a ≡ false
    neither_left true b e = e
    neither_left false b e = refl
