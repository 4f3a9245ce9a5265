-- The numbers of the option states, where a host keeps them. Every number stands for a state.
use Rattle.std.specs.Prelude.{cond, ℕ, eqb}
use Rattle.negotiation.specs.declared.OptionState.{OptionState}
use Rattle.negotiation.specs.declared.OptionState.TheVariants.{No, Yes, WantNo, WantNoOpposite, WantYes, WantYesOpposite}

abbrev pub option_state_number : OptionState → ℕ
option_state_number No = 0
option_state_number Yes = 1
option_state_number WantNo = 2
option_state_number WantNoOpposite = 3
option_state_number WantYes = 4
option_state_number WantYesOpposite = 5

unfoldable pub option_state_of : ℕ → OptionState
option_state_of n =
    cond (eqb n 1) Yes
    (cond (eqb n 2) WantNo
    (cond (eqb n 3) WantNoOpposite
    (cond (eqb n 4) WantYes
    (cond (eqb n 5) WantYesOpposite No))))
