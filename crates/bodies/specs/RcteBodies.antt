-- RCTE's body: 7, cmd, then the break classes if bit 3 is on, the transmission classes if bit 4 is.
use Rattle.std.specs.Prelude.{Bool, true, false, ◌||◌, not, cond, Option, Some, None, List, ℕ, ◌+◌, ◌*◌, ◌/◌, ◌%◌, length, get_or, ltb, eqb}
use Rattle.bodies.specs.declared.Action.{Action}
use Rattle.bodies.specs.declared.RcteCommand.{RcteCommand}
use Rattle.bodies.specs.declared.RcteCommand.TheVariants.{Repeat, Perform}

-- bits 1 to 4 of a cmd, each by its weight
abbrev pub bit : ℕ → ℕ → Bool
bit weight cmd = eqb (cmd / weight % 2) 1

abbrev pub skips_break : ℕ → Bool
skips_break cmd = bit 2 cmd

abbrev pub skips_text : ℕ → Bool
skips_text cmd = bit 4 cmd

abbrev pub sets_breaks : ℕ → Bool
sets_breaks cmd = bit 8 cmd

abbrev pub sets_sends : ℕ → Bool
sets_sends cmd = bit 16 cmd

abbrev pub action_of : ℕ → Action
action_of cmd = record { skipbreak = skips_break cmd; skiptext = skips_text cmd }

-- the class pair at a place of the body
abbrev pub pair_at : List ℕ → ℕ → ℕ
pair_at body at = 256 * get_or body at 0 + get_or body (at + 1) 0

abbrev pub classes_at : Bool → List ℕ → ℕ → Option ℕ
classes_at true body at = Some (pair_at body at)
classes_at false body at = None

-- how long a body with an odd cmd is, and where its transmission classes stand
abbrev pub rcte_length : ℕ → ℕ
rcte_length cmd = 2 + cond (sets_breaks cmd) 2 0 + cond (sets_sends cmd) 2 0

abbrev pub sends_at : ℕ → ℕ
sends_at cmd = cond (sets_breaks cmd) 4 2

abbrev pub performed : ℕ → List ℕ → RcteCommand
performed cmd body = Perform (action_of cmd) (classes_at (sets_breaks cmd) body 2) (classes_at (sets_sends cmd) body (sends_at cmd))

-- an even cmd repeats the last action and stands alone; an odd one over 31 or a wrong length is unreadable
abbrev pub rcte_shape : ℕ → List ℕ → Option RcteCommand
rcte_shape cmd body =
    cond (eqb (cmd % 2) 0) (cond (eqb (length body) 2) (Some Repeat) None)
    (cond (ltb 31 cmd || not (eqb (length body) (rcte_length cmd))) None (Some (performed cmd body)))

unfoldable pub rcte_body : List ℕ → Option RcteCommand
rcte_body body = cond (ltb (length body) 2) None (rcte_shape (get_or body 1 0) body)
