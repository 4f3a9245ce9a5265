-- ECHO or RCTE is always at NO: a clash is judged where one of them would leave NO, and no other row of the table needs
-- a test.
use Rattle.std.specs.Prelude.{◌≡◌, true, ◌||◌, ℕ, Ok}
use Rattle.codes.specs.declared.Verb.{Verb}
use Rattle.negotiation.specs.declared.End.{End}
use Rattle.negotiation.specs.declared.OptionState.{OptionState}
use Rattle.negotiation.specs.declared.Reply.{Reply}
use Rattle.negotiation.specs.declared.Sides.{Sides}
use Rattle.negotiation.specs.Table.{to, is_no}
use Rattle.negotiation.specs.Carried.{all_no, moved, heard_by, asked_side, asked_enable, asking_of}

abbrev pub Apart : Sides → Type 0
Apart s = (is_no s.echo || is_no s.rcte) ≡ true

-- the sides that an end comes to from all at NO, by any sequence of negotiations received and of asks that are not refused
pub data Reached (end : End) : Sides → Type 0 where
  first : Reached end all_no
  hears : {s : Sides} → Reached end s → (v : Verb) (option : ℕ)
      → Reached end (moved s (heard_by end s v option).side (heard_by end s v option).next)
  asks : {s : Sides} → Reached end s → (option way : ℕ) (q : OptionState) (r : Reply)
      → asking_of s (asked_side end option way) (asked_enable way) ≡ Ok (to q r) → Reached end (moved s (asked_side end option way) q)

-- Assumed: any sequence of negotiations received and of asks that are not refused, at either end, from all sides at
-- NO. Promised: ECHO or RCTE is at NO. Ruled out: an end that agrees to RCTE beside ECHO; one that asks for ECHO
-- beside RCTE.
abbrev pub StayApart : Type 0
StayApart = (end : End) (s : Sides) → Reached end s → Apart s
