-- Notes of steps one behind the other: the first counts.
use mathlib.Core.Path.{◌≡◌, refl}
use mathlib.Core.Bool.{true, false≢true}
use Rattle.codes.specs.Answers.{first_note, is_clear}
use Rattle.codes.specs.declared.Note.{Note}
use Rattle.codes.specs.declared.Note.TheVariants.{Clear, Unreadable, Inactive, OtherOption, Stray}

pub first_assoc : (a b c : Note) → first_note (first_note a b) c ≡ first_note a (first_note b c)
first_assoc Clear b c = refl
first_assoc Unreadable b c = refl
first_assoc Inactive b c = refl
first_assoc OtherOption b c = refl
first_assoc Stray b c = refl

pub first_clear : (n : Note) → first_note n Clear ≡ n
first_clear Clear = refl
first_clear Unreadable = refl
first_clear Inactive = refl
first_clear OtherOption = refl
first_clear Stray = refl

pub clear_is : (n : Note) → is_clear n ≡ true → n ≡ Clear
clear_is Clear c = refl
clear_is Unreadable c = absurd (false≢true c)
clear_is Inactive c = absurd (false≢true c)
clear_is OtherOption c = absurd (false≢true c)
clear_is Stray c = absurd (false≢true c)
