-- How a step of the code meets the rule's, put together.
use mathlib.Core.Path.{◌≡◌, refl}
use mathlib.Core.Bool.{Bool}
use mathlib.Core.List.{List, []}
use Prim.Native.Nat.{ℕ}
use Rattle.lists.specs.Buffers.{Lent, WroteAtStart}
use Rattle.lists.proofs.Starts.{wrote_none}
use Rattle.codes.specs.declared.Note.{Note}
use Rattle.codes.specs.declared.Disposition.{Disposition}
use Rattle.negotiation.specs.declared.OptionState.{OptionState}
use Rattle.negotiation.specs.declared.Side.{Side}
use Rattle.negotiation.specs.declared.Side.TheVariants.{Echo, BulletinSga, Rcte, Macro, PrinterSga, Disposes, Uncarried}
use Rattle.disposition.specs.ByOption.{Waits}
use Rattle.sent_macros.specs.declared.SendingTable.{SendingTable}
use Rattle.sent_macros.specs.Sending.{Definitions}
use Rattle.sent_macros.specs.Refinement.{view_table, CleanTable}
use Rattle.issues.specs.declared.Issues.{Issues}
use Rattle.bulletin.specs.declared.Bulletin.{Bulletin}
use Rattle.bulletin.specs.State.{BulletinState, with_macros, with_issues, with_waits, notes}
use Rattle.bulletin.specs.Refinement.{view_bulletin, RefinesStepOnWire, RefinesStepUnwritten, RefinesState, step_of, sides_moved}
use Rattle.bulletin.specs.Network.{side_state}

pub met_same : {b : Bulletin} → RefinesState (view_bulletin b) b b
met_same = record { view = refl; clean = λ k. k }

module _ (n : Note) {s : BulletinState} {b t : Bulletin} (state : RefinesState s b t) where
  -- a step that writes on the wire, and leaves this state
  pub met_step : {bytes : List ℕ} {wire : Lent} {m : ℕ} → WroteAtStart bytes wire m
      → RefinesStepOnWire (record { note = n; host = []; wire = bytes; state = s }) b wire (step_of n m t)
  met_step w = record { met = λ host. record { note = refl; given = wrote_none host; sent = w; view = state.view; clean = state.clean } }

  -- .. or writes nothing
  pub met_unwritten : RefinesStepUnwritten (notes n s) b (step_of n 0 t)
  met_unwritten = record { met = λ wire. met_step (wrote_none wire) }

-- nothing but the sides changed: no side of BM's, nor of an option about output disposition
pub met_sides : {b : Bulletin} (side : Side) (q : OptionState) → (side ≡ Macro → ⊥) → ((d : Disposition) → side ≡ Disposes d → ⊥)
    → RefinesState (side_state (view_bulletin b) side q) b (sides_moved b side q)
met_sides Echo q n m = record { view = refl; clean = λ k. record { reader = k.reader; table = k.table } }
met_sides BulletinSga q n m = record { view = refl; clean = λ k. record { reader = k.reader; table = k.table } }
met_sides Rcte q n m = record { view = refl; clean = λ k. record { reader = k.reader; table = k.table } }
met_sides Macro q n m = absurd (n refl)
met_sides PrinterSga q n m = record { view = refl; clean = λ k. record { reader = k.reader; table = k.table } }
met_sides (Disposes d) q n m = absurd (m d refl)
met_sides Uncarried q n m = record { view = refl; clean = λ k. record { reader = k.reader; table = k.table } }

-- .. the table and the issues
pub met_macros : {b : Bulletin} {t : SendingTable} {d : Definitions} → view_table t ≡ d → (CleanTable b.table → CleanTable t) → (i : Issues)
    → RefinesState (with_macros (view_bulletin b) d i) b (record { sides = b.sides; reader = b.reader; table = t; values = b.values; waits = b.waits; issues = i })
met_macros view clean i = record { view = rw view; clean = λ k. record { reader = k.reader; table = clean k.table } }

pub met_issues : {b : Bulletin} (i : Issues)
    → RefinesState (with_issues (view_bulletin b) i) b (record { sides = b.sides; reader = b.reader; table = b.table; values = b.values; waits = b.waits; issues = i })
met_issues i = record { view = refl; clean = λ k. record { reader = k.reader; table = k.table } }

-- .. the waits
pub met_waits : {b : Bulletin} (x : Waits)
    → RefinesState (with_waits (view_bulletin b) x) b (record { sides = b.sides; reader = b.reader; table = b.table; values = b.values; waits = x; issues = b.issues })
met_waits x = record { view = refl; clean = λ k. record { reader = k.reader; table = k.table } }
