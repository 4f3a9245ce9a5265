-- The parts of a state as numbers, for a record of arrays. Every number decodes.
use Rattle.std.specs.Prelude.{Bool, true, false, not, List, [], ◌∷◌, ◌++◌, ℕ, ◌+◌, eqb, get_or, unwrap_or}
use Rattle.std.specs.Result.{result_ok}
use Rattle.codes.specs.Answers.{code_number, note_number}
use Rattle.codes.specs.declared.Code.{Code}
use Rattle.codes.specs.declared.Note.{Note}
use Rattle.keys.specs.declared.Key.{Key}
use Rattle.keys.specs.declared.Key.TheVariants.{Command}
use Rattle.keys.specs.Keys as K
use Rattle.negotiation.specs.declared.Sides.{Sides}
use Rattle.negotiation.specs.Numbers.{option_state_number, option_state_of}
use Rattle.reader.specs.declared.Phase.{Phase}
use Rattle.reader.specs.declared.Reader.{Reader}
use Rattle.reader.specs.Numbers.{phase_number, phase_of}
use Rattle.disposition.specs.ByOption.{AllValues}
use Rattle.disposition.specs.declared.Values.{Values}
use Rattle.disposition.specs.Handled.{Report}
use Rattle.bulletin.specs.declared.Output.{Output}
use Rattle.bulletin.specs.declared.Output.TheVariants.{Ready, Waiting}
use Rattle.session_arrays.specs.declared.Handler.{Handler}
use Rattle.session_arrays.specs.declared.Outcome.{Outcome}
use Rattle.session_arrays.specs.declared.Reported.{Reported}
use Rattle.session_arrays.specs.declared.RunOutcome.{RunOutcome}

abbrev pub flag_number : Bool → ℕ
flag_number true = 1
flag_number false = 0

abbrev pub flag_of : ℕ → Bool
flag_of n = not (eqb n 0)

-- at either end the small parts begin with the states of the nine sides, the reader's phase and whether its body is marred
abbrev pub sides_in : List ℕ → Sides
sides_in small = record {
  echo = option_state_of (get_or small 0 0);
  sga = option_state_of (get_or small 1 0);
  rcte = option_state_of (get_or small 2 0);
  bm = option_state_of (get_or small 3 0);
  printersga = option_state_of (get_or small 4 0);
  dispositions = record {
    naocrd = option_state_of (get_or small 5 0);
    naolfd = option_state_of (get_or small 6 0);
    naoffd = option_state_of (get_or small 7 0);
    naohtd = option_state_of (get_or small 8 0);
  };
}

abbrev pub reader_from : (phase marred len : ℕ) → List ℕ → Reader
reader_from phase marred len body = record { phase = phase_of phase; marred = flag_of marred; body = body; len = len }

abbrev pub reader_in : (small counts body : List ℕ) → Reader
reader_in small counts body = reader_from (get_or small 9 0) (get_or small 10 0) (get_or counts 0 0) body

abbrev pub sides_and_phase : Sides → Phase → List ℕ
sides_and_phase s phase =
    option_state_number s.echo
    ∷ option_state_number s.sga
    ∷ option_state_number s.rcte
    ∷ option_state_number s.bm
    ∷ option_state_number s.printersga
    ∷ option_state_number s.dispositions.naocrd
    ∷ option_state_number s.dispositions.naolfd
    ∷ option_state_number s.dispositions.naoffd
    ∷ option_state_number s.dispositions.naohtd
    ∷ phase_number phase
    ∷ []

-- .. followed by the parts that are an end's own
abbrev pub small_of : Sides → Reader → List ℕ → List ℕ
small_of s r own = sides_and_phase s r.phase ++ flag_number r.marred ∷ own

abbrev pub values_at : (small : List ℕ) → (at : ℕ) → Values
values_at small at = record { ds = get_or small at 0; dr = get_or small (at + 1) 0 }

-- with DS and DR of each option about output disposition they end; at which place these begin is an end's own
abbrev pub values_in : (small : List ℕ) → (from : ℕ) → AllValues
values_in small from = record {
  naocrd = values_at small from;
  naolfd = values_at small (from + 2);
  naoffd = values_at small (from + 4);
  naohtd = values_at small (from + 6);
}

abbrev pub value_numbers : AllValues → List ℕ
value_numbers v =
    v.naocrd.ds ∷ v.naocrd.dr ∷ v.naolfd.ds ∷ v.naolfd.dr ∷ v.naoffd.ds ∷ v.naoffd.dr ∷ v.naohtd.ds ∷ v.naohtd.dr ∷ []

-- a report in numbers, as an end's report has them
abbrev pub report_in : Handler → Report
report_in h = record { who = h.who; value = h.value }

abbrev pub reports_in : Reported → List Report
reports_in r = report_in r.naocrd ∷ report_in r.naolfd ∷ report_in r.naoffd ∷ report_in r.naohtd ∷ []

abbrev pub output_number : Output → ℕ
output_number Ready = 0
output_number Waiting = 1

-- an answer in numbers, and a run's
abbrev pub outcome : Code → Note → (first wire : ℕ) → Outcome
outcome c n first wire = record { code = code_number c; note = note_number n; first = first; wire = wire }

abbrev pub run_outcome : Code → Note → (taken first wire : ℕ) → RunOutcome
run_outcome c n taken first wire = record { code = code_number c; note = note_number n; taken = taken; first = first; wire = wire }

-- a key by its kind and its byte (keys/Keys.key_of_pair); a pair that stands for no key is a Command that every end refuses
unfoldable pub key_of_pair : ℕ → ℕ → Key
key_of_pair kind b = unwrap_or (result_ok (K.key_of_pair kind b)) (Command 0)
