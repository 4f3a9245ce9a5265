-- The visible characters: what each prints, and at which break class it breaks.
use Rattle.std.specs.Prelude.{◌≡◌, true, cond, List, [], ◌∷◌, ◌++◌, ℕ, ◌≤◌, ◌-◌, ◌/◌, ◌%◌, ◌^◌, eqb}
use Rattle.lists.specs.Choice.{between}
use Rattle.keys.specs.Keys.{class_of}
use Rattle.printer.specs.Session as PS
use Rattle.example_claims.specs.Bytes.{will_rcte, body, reads, types, paper_of, wire_behind}

-- RCTE in force, and an order to print all and to break at one class alone
abbrev pub breaks_at : ℕ → List PS.Call
breaks_at k = reads (will_rcte ++ body (0x07 ∷ 0x09 ∷ 2 ^ (k - 1) / 256 ∷ 2 ^ (k - 1) % 256 ∷ []))

-- what is promised of a visible character
pub record ClassedAndPrinted (b : ℕ) : Type 0 where
  -- it has one of the nine classes, the space and no other the ninth
  pub classed : between 1 9 (class_of b) ≡ true
  pub space : eqb (class_of b) 9 ≡ eqb b 32
  -- of the nine orders to break at one class alone, only that of its own class has it sent at once
  pub caught : (k : ℕ) → 1 ≤ k → k ≤ 9 → wire_behind (breaks_at k) (types (b ∷ [])) ≡ cond (eqb k (class_of b)) (b ∷ []) []
  pub printed : paper_of (types (b ∷ [])) ≡ b ∷ []

-- Assumed: the space, or a visible ASCII character, 33 to 126. Promised: exactly one class catches it, the space's is 9, and
-- it prints itself. Ruled out: rules that leave a character without a class, as 96 was before request A1; a class that
-- prints nothing; an order to break at one class that catches characters of another.
abbrev pub EachClassedAndPrinted : Type 0
EachClassedAndPrinted = (b : ℕ) → 32 ≤ b → b ≤ 126 → ClassedAndPrinted b
