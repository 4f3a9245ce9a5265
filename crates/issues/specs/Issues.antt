-- The forecast issue, a term of document 02: the number in force, and for each macro byte the number that its last DEFINE kept.
use Rattle.std.specs.Prelude.{Bool, not, cond, List, [], ◌∷◌, ℕ, get_or, set, replicate, eqb}
use Rattle.codes.specs.Answers.{Guard, refused_if}
use Rattle.codes.specs.declared.Code.TheVariants.{NoText, IssueDiffers}
use Rattle.bodies.specs.declared.MacroReply.{MacroReply}
use Rattle.bodies.specs.declared.MacroReply.TheVariants.{Accept, Refuse, PleaseCancel}
use Rattle.sent_macros.specs.Sending.{Definitions, sent_of, is_accepted}
use Rattle.issues.specs.declared.Issues.{Issues}

-- the numbers while nothing is defined
abbrev pub none_kept : List ℕ
none_kept = replicate 256 0

abbrev pub first_issue : Issues
first_issue = record { present = 0; kept = none_kept }

-- another number in force; what was kept stays
abbrev pub with_present : Issues → ℕ → Issues
with_present i n = record { present = n; kept = i.kept }

abbrev pub kept_of : Issues → ℕ → ℕ
kept_of i x = get_or i.kept x 0

-- a definition of X keeps the number in force
abbrev pub keeping : Issues → ℕ → Issues
keeping i x = record { present = i.present; kept = set i.kept x i.present }

-- the definitions are gone, and their numbers with them; the issue belongs to the end and stays
abbrev pub forgetting : Issues → Issues
forgetting i = record { present = i.present; kept = none_kept }

-- behind an answer about a macro: ACCEPT and REFUSE, whenever they come, change no number; the definition that answers a PLEASE CANCEL
-- keeps the one in force
abbrev pub kept_after : Definitions → Issues → MacroReply → Issues
kept_after t i (Accept x) = i
kept_after t i (Refuse x) = i
kept_after t i (PleaseCancel x) = cond (is_accepted (sent_of t x)) (keeping i x) i

-- the definition of X was made under another issue than the present one
abbrev pub is_of_other : Issues → ℕ → Bool
is_of_other i x = not (eqb (kept_of i x) i.present)

-- a use of X: without an accepted text code 10, then under another issue code 14
abbrev pub macro_guards : Definitions → Issues → ℕ → List Guard
macro_guards t i x = refused_if (not (is_accepted (sent_of t x))) NoText ∷ refused_if (is_of_other i x) IssueDiffers ∷ []
