-- The code's state seen as the rules' state, and what a call of the code owes to a rule.
use Rattle.std.specs.Prelude.{◌≡◌, true, false, Bool, ◌&&◌, not, cond, List, [], ◌∷◌, map, ℕ, min, length, take, get_or, replicate, drop, leb, eqb}
use Rattle.lists.specs.Buffers.{Lent, WroteBothAtStart, Clean, WroteAtStart}
use Rattle.codes.specs.Telnet.{CR}
use Rattle.keys.specs.declared.Key.{Key}
use Rattle.keys.specs.declared.Key.TheVariants.{Char}
use Rattle.keys.specs.Refinement.{key_number, key_of_number}
use Rattle.rcte.specs.Taking.{OrdersState, gather_room, KeyEffect, is_skipped, overflows, flushes}
use Rattle.rcte.specs.Control.{RcteState, RcteEffect, wait_room, is_full, queued, pressed, released, orders_now}
use Rattle.rcte.specs.declared.Rcte.{Rcte}
use Rattle.rcte.specs.declared.RcteStep.{RcteStep}
use Rattle.keys.specs.Keys.{key_paper, prints}
use Rattle.bodies.specs.declared.RcteCommand.{RcteCommand}
use Rattle.rcte.specs.declared.Orders.{Orders}
use Rattle.rcte.specs.declared.Gathered.{Gathered}
use Rattle.rcte.specs.declared.Taken.{Taken}

-- an array's cells in use: a count past the array counts as its length
abbrev pub keys_in : List ℕ → ℕ → List Key
keys_in cells count = map key_of_number (take (min count wait_room) cells)

-- .. and their numbers
abbrev pub numbers_in : Rcte → List ℕ
numbers_in e = take (min e.count wait_room) e.waiting

abbrev pub orders_in : Rcte → OrdersState
orders_in e = record { action = e.action; breaks = e.breaks; sends = e.sends }

abbrev pub waiting_in : Rcte → List Key
waiting_in e = keys_in e.waiting e.count

abbrev pub gathered_in : Rcte → List ℕ
gathered_in e = take (min e.filled gather_room) e.gathered

abbrev pub view_rcte : Rcte → RcteState
view_rcte e = record { held = e.held; orders = orders_in e; waiting = waiting_in e; gathered = gathered_in e }

-- each cell for a waiting key has the number of the key that it is read as
abbrev pub Numbered : List ℕ → Type 0
Numbered cells = (i : ℕ) → key_number (key_of_number (get_or cells i 0)) ≡ get_or cells i 0

-- each count is within its array, and the cells past it are 0
pub record CleanRcte (e : Rcte) : Type 0 where
  pub waiting : Clean e.waiting e.count
  pub numbers : Numbered e.waiting
  pub gathered : Clean e.gathered e.filled

-- the state as RCTE comes in force, as the code makes it
abbrev pub started_cells : Rcte
started_cells = record {
  held = true;
  action = record { skipbreak = false; skiptext = false };
  breaks = 0;
  sends = 0;
  waiting = replicate wait_room 0;
  count = 0;
  gathered = replicate gather_room 0;
  filled = 0;
}

-- the new state is the rule's, and clean if the old one was
pub record RefinesState (to : RcteState) (before after : Rcte) : Type 0 where
  pub rcte : view_rcte after ≡ to
  pub clean : CleanRcte before → CleanRcte after

-- a call's answer is the rule's: both buffers, the state, and that it stays clean
pub record RefinesStep (o : RcteEffect) (e : Rcte) (paper wire : Lent) (r : RcteStep) : Type 0 where
  pub wrote : WroteBothAtStart o.paper o.wire paper wire r.paper r.wire
  pub rcte : view_rcte r.rcte ≡ o.rcte
  pub clean : CleanRcte e → CleanRcte r.rcte

-- a key that finds the queue full changes nothing
abbrev pub queued_if_room : RcteState → Key → RcteState
queued_if_room e k = cond (leb wait_room (length e.waiting)) e (queued e k)

abbrev pub pressed_if_room : RcteState → Key → RcteEffect
pressed_if_room e k = cond (is_full e) (record { paper = []; wire = []; taken = []; rcte = e }) (pressed e k)

abbrev pub order_cells : Rcte → Orders
order_cells e = record { action = e.action; breaks = e.breaks; sends = e.sends }

abbrev pub view_orders : Orders → OrdersState
view_orders o = record { action = o.action; breaks = o.breaks; sends = o.sends }

abbrev pub gathered_cells : Rcte → Gathered
gathered_cells e = record { cells = e.gathered; filled = e.filled }

abbrev pub bytes_in : Gathered → List ℕ
bytes_in g = take (min g.filled gather_room) g.cells

abbrev pub CleanGathered : Gathered → Type 0
CleanGathered g = Clean g.cells g.filled

-- a taken key's paper
abbrev pub taken_paper : OrdersState → Key → List ℕ
taken_paper o k = cond (is_skipped o k) [] (key_paper k)

-- what stays gathered as the key's bytes come
abbrev pub stays_first : List ℕ → Key → List ℕ
stays_first gathered k = cond (overflows gathered k) [] gathered

-- a character that is its own byte on the paper and on the wire, and neither breaks nor is sent
unfoldable pub is_plain_key : OrdersState → ℕ → Bool
is_plain_key o b = not (flushes o (Char b)) && (prints b && not (eqb b CR))

-- its paper
abbrev pub plain_paper : OrdersState → ℕ → List ℕ
plain_paper o b = cond o.action.skiptext [] (b ∷ [])

-- those bytes are gathered after it
pub record Gathers (those : List ℕ) (before after : Gathered) : Type 0 where
  pub bytes : bytes_in after ≡ those
  pub clean : CleanGathered before → CleanGathered after
  pub long : length after.cells ≡ length before.cells

pub record RefinesSent (sent kept : List ℕ) (before after : Gathered) (out : Lent) (count : ℕ) : Type 0 where
  pub wire : WroteAtStart sent out count
  pub gathered : Gathers kept before after

pub record RefinesTaken (t : KeyEffect) (before after : Gathered) (paper wire : Lent) (r : Taken) : Type 0 where
  pub wrote : WroteBothAtStart t.paper t.wire paper wire r.paper r.wire
  pub broke : r.broke ≡ t.broke
  pub gathered : Gathers t.gathered before after

-- a command has set its orders
abbrev pub ordering : RcteCommand → RcteState → RcteState
ordering c e = record { held = e.held; orders = orders_now c e.orders; waiting = e.waiting; gathered = e.gathered }

-- the waiting keys are taken up under the orders in force
abbrev pub releasing : RcteState → RcteEffect
releasing e = released e.orders e.gathered e.waiting

-- so many of them were
abbrev pub left_at : RcteState → List ℕ → ℕ → Bool → RcteState
left_at e gathered at held = record { held = held; orders = e.orders; waiting = drop at e.waiting; gathered = gathered }

pub record Left (to : RcteState) (g : Gathered) (before after : Rcte) : Type 0 where
  pub rcte : view_rcte after ≡ to
  pub clean : CleanGathered g → Numbered before.waiting → CleanRcte after
