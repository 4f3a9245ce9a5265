-- Plain bytes: each is printed as it is, and leaves the state as it is.
use Rattle.std.specs.Prelude.{Bool, not, ◌&&◌, ◌||◌, cond, List, ℕ}
use Rattle.lists.specs.Fronts.{front}
use Rattle.codes.specs.Telnet.{not_iac}
use Rattle.negotiation.specs.declared.End.{End}
use Rattle.negotiation.specs.declared.Sides.{Sides}
use Rattle.negotiation.specs.Table.{is_yes}
use Rattle.negotiation.specs.Carried.{macros_in_force}
use Rattle.reader.specs.declared.Phase.{Phase}
use Rattle.reader.specs.Reading.{is_between}
use Rattle.received_macros.specs.Refinement.{is_unmarked_text}

-- the reader is between commands, and data has nothing to hold: without RCTE, or under a hold
abbrev pub is_settled : Sides → Phase → (held : Bool) → Bool
is_settled sides phase held = is_between phase && (held || not (is_yes sides.rcte))

-- how many bytes at the front of a macro's text are plain
unfoldable pub text_stretch : Sides → Phase → (held : Bool) → List ℕ → ℕ
text_stretch sides phase held bytes = cond (is_settled sides phase held) (front not_iac bytes) 0

-- .. and at the front of bytes that arrive, where BM in force replaces those that have a mark
abbrev pub is_plain : Sides → (marks : List ℕ) → ℕ → Bool
is_plain sides marks = cond (macros_in_force End.Printer sides) (is_unmarked_text marks) not_iac

unfoldable pub data_stretch : Sides → Phase → (held : Bool) → (marks : List ℕ) → List ℕ → ℕ
data_stretch sides phase held marks bytes = cond (is_settled sides phase held) (front (is_plain sides marks) bytes) 0

-- one of these by itself
abbrev pub is_plain_byte : Sides → Phase → (held : Bool) → (marks : List ℕ) → ℕ → Bool
is_plain_byte sides phase held marks b = is_settled sides phase held && is_plain sides marks b
