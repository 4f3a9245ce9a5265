-- A part of a state is found again by its number.
use mathlib.Core.Path.{◌≡◌, refl}
use mathlib.Core.Bool.{Bool, true, false, cond}
use Rattle.codes.specs.declared.Verb.TheVariants.{Will, Wont, Do, Dont}
use Rattle.negotiation.specs.declared.OptionState.{OptionState}
use Rattle.negotiation.specs.declared.OptionState.TheVariants.{No, Yes, WantNo, WantNoOpposite, WantYes, WantYesOpposite}
use Rattle.reader.specs.declared.Phase.{Phase}
use Rattle.reader.specs.declared.Phase.TheVariants.{Between, AfterIac, AfterVerb, InBody, InBodyAfterIac}
use Rattle.bulletin.specs.declared.Output.TheVariants.{Ready, Waiting}
use Rattle.negotiation.specs.Numbers.{option_state_number, option_state_of}
use Rattle.reader.specs.Numbers.{phase_number, phase_of}
use Rattle.session_arrays.specs.Numbers.{flag_number, flag_of, output_number}

pub option_state_found : (q : OptionState) → option_state_of (option_state_number q) ≡ q
unfolding option_state_of
option_state_found No = refl
option_state_found Yes = refl
option_state_found WantNo = refl
option_state_found WantNoOpposite = refl
option_state_found WantYes = refl
option_state_found WantYesOpposite = refl

pub phase_found : (p : Phase) → phase_of (phase_number p) ≡ p
unfolding phase_of
phase_found Between = refl
phase_found AfterIac = refl
phase_found (AfterVerb Will) = refl
phase_found (AfterVerb Wont) = refl
phase_found (AfterVerb Do) = refl
phase_found (AfterVerb Dont) = refl
phase_found InBody = refl
phase_found InBodyAfterIac = refl

pub flag_found : (b : Bool) → flag_of (flag_number b) ≡ b
flag_found true = refl
flag_found false = refl

pub flag_output : (b : Bool) → flag_number b ≡ output_number (cond b Waiting Ready)
flag_output true = refl
flag_output false = refl
