-- What the statuses alone decide, of the table that they belong to.
use mathlib.Core.Path.{◌≡◌, refl}
use Prim.Native.Nat.{ℕ}
use Rattle.codes.specs.Answers.{allowed}
use Rattle.bodies.specs.declared.MacroReply.{MacroReply}
use Rattle.bodies.specs.declared.MacroReply.TheVariants.{Accept, Refuse, PleaseCancel}
use Rattle.sent_macros.specs.declared.SendingTable.{SendingTable}
use Rattle.sent_macros.specs.Refinement.{view_table, bare_table}
use Rattle.sent_macros.proofs.Views.{accepted_bare}
use Rattle.issues.specs.declared.Issues.{Issues}
use Rattle.issues.specs.Issues.{kept_after, macro_guards}

pub kept_bare : (t : SendingTable) (i : Issues) (r : MacroReply) → kept_after (bare_table t.statuses) i r ≡ kept_after (view_table t) i r
kept_bare t i (Accept x) = refl
kept_bare t i (Refuse x) = refl
kept_bare t i (PleaseCancel x) = rw (accepted_bare t x)

pub allowed_bare : (t : SendingTable) (i : Issues) (x : ℕ) → allowed (macro_guards (bare_table t.statuses) i x) ≡ allowed (macro_guards (view_table t) i x)
allowed_bare t i x = rw (accepted_bare t x)
