-- A plain character that is taken up is only gathered.
use mathlib.Core.Path.{◌≡◌}
use mathlib.Core.Bool.{false, true, ◌&&◌, not, false≢true}
use mathlib.Core.List.{List, [], ◌∷◌, ◌++◌}
use Prim.Native.Nat.{ℕ, ◌+◌, ◌<◌}
use native.Mathlib.Omega.{arith}
use lib.ListN.{length}
use lib.Dec.{eqb, ltb}
use borrow.Author.Tests.{not-true, ne_eqb, le-ltb}
use Rattle.lists.specs.Choice.{one_of}
use Rattle.lists.proofs.Tables.{both_left, both_right}
use Rattle.lists.proofs.Fronts.{neither_left}
use Rattle.codes.specs.Telnet.{CR, IAC}
use Rattle.keys.specs.declared.Key.TheVariants.{Char}
use Rattle.keys.specs.Keys.{class_of, prints, key_paper, key_wire}
use Rattle.rcte.specs.Taking.{OrdersState, is_break, is_send, flushes, taken_up}
use Rattle.rcte.specs.Refinement.{is_plain_key, plain_paper}

module _ (o : OrdersState) (b : ℕ) (plain : is_plain_key o b ≡ true) where
  stays : flushes o (Char b) ≡ false
  unfolding is_plain_key
  stays = not-true (flushes o (Char b)) (both_left (not (flushes o (Char b))) (prints b && not (eqb b CR)) plain)

  unbroken : is_break o (Char b) ≡ false
  unbroken = neither_left (is_break o (Char b)) (is_send o (Char b)) stays

  its_own : (prints b && not (eqb b CR)) ≡ true
  unfolding is_plain_key
  its_own = both_right (not (flushes o (Char b))) (prints b && not (eqb b CR)) plain

  printed : prints b ≡ true
  printed = both_left (prints b) (not (eqb b CR)) its_own

  -- IAC prints nothing
  no_command : eqb b IAC ≡ false
  unfolding prints class_of one_of
  no_command = ne_eqb b IAC (λ (e : b ≡ IAC). false≢true (rw e at printed))

  one_byte : key_wire (Char b) ≡ b ∷ []
  unfolding key_wire
  one_byte = rw (not-true (eqb b CR) (both_right (prints b) (not (eqb b CR)) its_own), no_command)

  pub plain_taken : (g : List ℕ) → length g < 512
      → taken_up o g (Char b) ≡ record { paper = plain_paper o b; wire = []; gathered = g ++ b ∷ []; broke = false }
  unfolding taken_up key_paper
  plain_taken g room =
      let fits : ltb 512 (length g + 1) ≡ false = le-ltb 512 (length g + 1) (omega arith) in
      rw (one_byte, fits, stays, unbroken, printed)
