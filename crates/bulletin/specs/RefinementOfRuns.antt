-- How a run's answer of the code meets the rule's.
use Rattle.std.specs.Prelude.{◌≡◌, List, ℕ, length}
use Rattle.lists.specs.Buffers.{Lent, WroteAtStart}
use Rattle.codes.specs.declared.Code.{Code}
use Rattle.codes.specs.declared.Code.TheVariants.{Done}
use Rattle.codes.specs.declared.Note.{Note}
use Rattle.codes.specs.declared.Note.TheVariants.{Clear}
use Rattle.reader.specs.NetworkRun.{RunCallEffect, ran_from}
use Rattle.bulletin.specs.declared.Bulletin.{Bulletin}
use Rattle.bulletin.specs.declared.RunAnswer.{RunAnswer}
use Rattle.bulletin.specs.State.{BulletinState, Effect}
use Rattle.bulletin.specs.NetworkRun.{bulletin_byte}
use Rattle.bulletin.specs.Refinement.{view_bulletin, CleanBulletin, WholeBulletin}

-- as `Refinement.RefinesOutcome`, with the number of bytes that were taken
pub record RefinesRunOutcome (a : RunCallEffect Effect) (b : Bulletin) (host wire : Lent) (r : RunAnswer) : Type 0 where
  pub code : r.code ≡ a.code
  pub note : r.note ≡ a.ran.effect.note
  pub taken : r.taken ≡ a.ran.taken
  pub given : WroteAtStart a.ran.effect.host host r.host
  pub sent : WroteAtStart a.ran.effect.wire wire r.wire
  pub view : view_bulletin r.state ≡ a.ran.effect.state
  pub clean : CleanBulletin b → CleanBulletin r.state
  pub whole : WholeBulletin b → WholeBulletin r.state
  pub same : (a.code ≡ Done → ⊥) → r.state ≡ b

-- what a run owes to its rule, which goes by the sizes of the two buffers
abbrev pub RefinesRun : (ℕ → ℕ → RunCallEffect Effect) → Bulletin → Lent → Lent → RunAnswer → Type 0
RefinesRun rule b host wire r = RefinesRunOutcome (rule (length host.before) (length wire.before)) b host wire r

-- the rule of a run that is not refused
abbrev pub begun_run : BulletinState → List ℕ → (host wire : ℕ) → RunCallEffect Effect
begun_run s bs host wire = record { code = Done; ran = ran_from bulletin_byte s bs host wire }

-- the code's answers: a run that is refused, and one that took so many bytes
abbrev pub refused_run : Bulletin → Code → RunAnswer
refused_run b c = record { code = c; note = Clear; taken = 0; host = 0; wire = 0; state = b }

abbrev pub ran_answer : Bulletin → Note → (taken given sent : ℕ) → RunAnswer
ran_answer b n taken given sent = record { code = Done; note = n; taken = taken; host = given; wire = sent; state = b }
