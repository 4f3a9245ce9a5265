-- RFC 1143's table.
use Rattle.std.specs.Prelude.{Bool, true, false, cond, Option, Some, None}
use Rattle.negotiation.specs.declared.OptionState.{OptionState}
use Rattle.negotiation.specs.declared.OptionState.TheVariants.{No, Yes, WantNo, WantNoOpposite, WantYes, WantYesOpposite}
use Rattle.negotiation.specs.declared.Reply.{Reply}
use Rattle.negotiation.specs.declared.Reply.TheVariants.{Silent, Positive, Negative}
use Rattle.negotiation.specs.declared.Move.{Move}

abbrev pub to : OptionState → Reply → Move
to q r = record { next = q; reply = r }

-- WILL of his side, DO of ours; agreed says whether a request from NO is agreed
abbrev pub heard_enable : Bool → OptionState → Move
heard_enable agreed No = cond agreed (to Yes Positive) (to No Negative)
heard_enable agreed Yes = to Yes Silent
heard_enable agreed WantNo = to No Silent
heard_enable agreed WantNoOpposite = to Yes Silent
heard_enable agreed WantYes = to Yes Silent
heard_enable agreed WantYesOpposite = to WantNo Negative

-- WONT of his side, DONT of ours
abbrev pub heard_disable : OptionState → Move
heard_disable No = to No Silent
heard_disable Yes = to No Negative
heard_disable WantNo = to No Silent
heard_disable WantNoOpposite = to WantYes Positive
heard_disable WantYes = to No Silent
heard_disable WantYesOpposite = to No Silent

unfoldable pub heard : Bool → Bool → OptionState → Move
heard enable agreed q = cond enable (heard_enable agreed q) (heard_disable q)

-- the error rows are None; where only the queue changes, nothing is sent
abbrev pub ask_enable : OptionState → Option Move
ask_enable No = Some (to WantYes Positive)
ask_enable Yes = None
ask_enable WantNo = Some (to WantNoOpposite Silent)
ask_enable WantNoOpposite = None
ask_enable WantYes = None
ask_enable WantYesOpposite = Some (to WantYes Silent)

abbrev pub ask_disable : OptionState → Option Move
ask_disable No = None
ask_disable Yes = Some (to WantNo Negative)
ask_disable WantNo = None
ask_disable WantNoOpposite = Some (to WantNo Silent)
ask_disable WantYes = Some (to WantYesOpposite Silent)
ask_disable WantYesOpposite = None

unfoldable pub asked : Bool → OptionState → Option Move
asked enable q = cond enable (ask_enable q) (ask_disable q)

abbrev pub is_already : Option Move → Bool
is_already None = true
is_already (Some m) = false

abbrev pub is_no : OptionState → Bool
is_no No = true
is_no Yes = false
is_no WantNo = false
is_no WantNoOpposite = false
is_no WantYes = false
is_no WantYesOpposite = false

-- in force
abbrev pub is_yes : OptionState → Bool
is_yes No = false
is_yes Yes = true
is_yes WantNo = false
is_yes WantNoOpposite = false
is_yes WantYes = false
is_yes WantYesOpposite = false

-- in force of BM at the printer end: until the other end has said that it stopped
abbrev pub is_yes_or_ending : OptionState → Bool
is_yes_or_ending No = false
is_yes_or_ending Yes = true
is_yes_or_ending WantNo = true
is_yes_or_ending WantNoOpposite = true
is_yes_or_ending WantYes = false
is_yes_or_ending WantYesOpposite = false
