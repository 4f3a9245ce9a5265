-- The numbers of the reader's phases, where a host keeps them. Every number stands for a phase.
use Rattle.std.specs.Prelude.{cond, ℕ, eqb}
use Rattle.codes.specs.declared.Verb.TheVariants.{Will, Wont, Do, Dont}
use Rattle.reader.specs.declared.Phase.{Phase}
use Rattle.reader.specs.declared.Phase.TheVariants.{Between, AfterIac, AfterVerb, InBody, InBodyAfterIac}

abbrev pub phase_number : Phase → ℕ
phase_number Between = 0
phase_number AfterIac = 1
phase_number (AfterVerb Will) = 2
phase_number (AfterVerb Wont) = 3
phase_number (AfterVerb Do) = 4
phase_number (AfterVerb Dont) = 5
phase_number InBody = 6
phase_number InBodyAfterIac = 7

unfoldable pub phase_of : ℕ → Phase
phase_of n =
    cond (eqb n 1) AfterIac
    (cond (eqb n 2) (AfterVerb Will)
    (cond (eqb n 3) (AfterVerb Wont)
    (cond (eqb n 4) (AfterVerb Do)
    (cond (eqb n 5) (AfterVerb Dont)
    (cond (eqb n 6) InBody
    (cond (eqb n 7) InBodyAfterIac Between))))))
