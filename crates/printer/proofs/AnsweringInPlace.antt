-- How an answer of the code to a byte that is handled in place meets the rule's.
use mathlib.Core.Path.{◌≡◌, refl}
use mathlib.Core.Bool.{Bool, true, false}
use mathlib.Core.List.{List}
use Prim.Native.Nat.{ℕ}
use Rattle.lists.specs.Buffers.{Lent, untouched, WroteAtStart}
use Rattle.lists.proofs.Starts.{wrote_none}
use Rattle.negotiation.specs.declared.Sides.{Sides}
use Rattle.reader.specs.declared.Phase.{Phase}
use Rattle.received_macros.specs.Texts.{Entry, plain, text}
use Rattle.std.specs.Prelude.{Some, None}
use Rattle.printer.specs.Stretches.{is_settled}
use Rattle.printer.specs.InPlace.{unhandled, prints_in_place, text_in_place, entry_in_place, RefinesInPlace, RefinesInPlaceOnPaper, RefinesInPlaceOnWire}

module _ {sides : Sides} {phase : Phase} where
  pub met_unhandled : {paper wire : List ℕ} → RefinesInPlace (unhandled sides phase) (untouched paper) (untouched wire) None
  met_unhandled {paper} {wire} = record { handled = refl; wrote = record { paper = wrote_none paper; wire = wrote_none wire } }

  pub unhandled_on_paper : {paper : List ℕ} → RefinesInPlaceOnPaper (unhandled sides phase) (untouched paper) None
  unhandled_on_paper = record { met = λ wire. met_unhandled }

-- a byte that has a mark, by what was found of it
module _ (sides : Sides) (phase : Phase) (held : Bool) where
  pub entry_plain : (e : Entry) → e ≡ plain → entry_in_place sides phase held e ≡ unhandled sides phase
  unfolding entry_in_place
  entry_plain e h = rw h
