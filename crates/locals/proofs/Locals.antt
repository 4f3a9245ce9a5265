-- A local's cell with what its value owns is what can be lent, and comes back as that.
use mathlib.Core.List.{List, [], ◌∷◌}
use Prim.Native.Nat.{ℕ}
use seplogic.Ra.Ura.{Ura}
use base.Fraction.{full_share}
use mir.Val.{Val}
use base.Logic.{ent, sep, ex, id⊢}
use base.Fml.{Fml, fsep}
use types.Logic.{Logic, sem}
use types.Kit.{‵, ◌$◌, ◌∵◌, !, qed, fjoin, fpack, done}
use denote.RattleType.{RattleType}
use denote.Memory.{mem, cell_at, part_of}

module _ {M : Type 1} {𝓤 : Ura M} (𝓛 : Logic 𝓤) (R : RattleType) (h : R.Denot) (b o : ℕ) where
  abbrev Stored : List Val → Fml
  Stored vs = fsep (cell_at full_share R.mir vs b o) (R.own_val h vs)

  pub lendable : (vs : List Val) → ent 𝓤 (sep 𝓤 (sem 𝓛 (cell_at full_share R.mir vs b o)) (sem 𝓛 (R.own_val h vs))) (sem 𝓛 ((mem R).own_at h b o))
  unfolding part_of
  lendable vs = qed 𝓛 (‵ (cell_at full_share R.mir vs b o) ∷ ‵ (R.own_val h vs) ∷ []) ∵ fjoin ! $ fpack ! (List Val) Stored vs $ done !

  pub back : ent 𝓤 (sem 𝓛 ((mem R).own_at h b o)) (ex 𝓤 (λ (vs : List Val). sep 𝓤 (sem 𝓛 (cell_at full_share R.mir vs b o)) (sem 𝓛 (R.own_val h vs))))
  unfolding part_of
  back = id⊢ 𝓤 _
