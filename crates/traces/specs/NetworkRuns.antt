-- Sessions of the printer end whose network bytes come in runs: each is the session of its one-byte calls, and demand 2 holds of it.
use Rattle.std.specs.Prelude.{◌≡◌, ℕ, take}
use mathlib.Core.List.{List, [], ◌∷◌, ◌++◌, map, Memᴰ, flat_map}
use Rattle.codes.specs.declared.Note.TheVariants.{Clear}
use Rattle.reader.specs.NetworkRun.{RunCallEffect}
use Rattle.printer.specs.State.{PrinterState, Effect}
use Rattle.printer.specs.Session.{Call, called, answers_from}
use Rattle.printer.specs.NetworkRun.{network_run, calls_of}
use Rattle.bulletin.specs.State as B
use Rattle.read_back.specs.Ends.{printer_paper, printer_wire, printer_after, bulletin_after}
use Rattle.read_back.specs.TextSent.{Sending, answers, all_data, all_wire}
use Rattle.read_back.specs.ReadBack.{Agreed, IacFree}

-- bytes that are handed over as a run, and the sizes of the lent buffers
pub record Bytes : Type 0 where
  pub bytes : List ℕ
  pub paper : ℕ
  pub wire : ℕ

abbrev pub ran_with : PrinterState → Bytes → RunCallEffect Effect
ran_with s r = network_run s r.bytes r.paper r.wire

-- the bytes that the run took
abbrev pub taken_of : PrinterState → Bytes → List ℕ
taken_of s r = take (ran_with s r).ran.taken r.bytes

-- a part of a session: a call, or a run
pub data Part : Type 0 where
  one : Call → Part
  run : Bytes → Part

-- its answer; a call by itself takes no byte of a run
abbrev pub answered : PrinterState → Part → RunCallEffect Effect
answered s (one c) = let a = called s c in record { code = a.code; ran = record { taken = 0; effect = a.effect } }
answered s (run r) = ran_with s r

abbrev pub after_part : PrinterState → Part → PrinterState
after_part s x = (answered s x).ran.effect.state

-- the answers from state s on, each part on the state that the one before left; and the state that they leave
unfoldable pub answered_from : PrinterState → List Part → List (RunCallEffect Effect)
answered_from s [] = []
answered_from s (x ∷ xs) = answered s x ∷ answered_from (after_part s x) xs

unfoldable pub after_parts : PrinterState → List Part → PrinterState
after_parts s [] = s
after_parts s (x ∷ xs) = after_parts (after_part s x) xs

-- the one-byte calls: of a run those with the bytes that it took, each in the tails that the one before left
abbrev pub calls_in : PrinterState → Part → List Call
calls_in s (one c) = c ∷ []
calls_in s (run r) = calls_of s (taken_of s r) r.paper r.wire

unfoldable pub one_by_one : PrinterState → List Part → List Call
one_by_one s [] = []
one_by_one s (x ∷ xs) = calls_in s x ++ one_by_one (after_part s x) xs

-- A session in parts is the session of its one-byte calls: they write the same bytes, take up the same keys in the same way, and
-- leave the same state.
pub record AsOneByOne (s : PrinterState) (xs : List Part) : Type 0 where
  pub paper : flat_map (λ r. r.ran.effect.paper) (answered_from s xs) ≡ printer_paper (answers_from s (one_by_one s xs))
  pub wire : flat_map (λ r. r.ran.effect.wire) (answered_from s xs) ≡ printer_wire (answers_from s (one_by_one s xs))
  pub taken : flat_map (λ r. r.ran.effect.taken) (answered_from s xs) ≡ flat_map (λ a. a.effect.taken) (answers_from s (one_by_one s xs))
  pub state : after_parts s xs ≡ printer_after s (answers_from s (one_by_one s xs))

abbrev pub PartsAreCalls : Type 0
PartsAreCalls = (s : PrinterState) (xs : List Part) → AsOneByOne s xs

-- all bytes that runs took, one run after the other
unfoldable pub taken_by : PrinterState → List Bytes → List ℕ
taken_by s [] = []
taken_by s (r ∷ rs) = taken_of s r ++ taken_by (after_part s (run r)) rs

-- a run that only printed: no note, no reply, no key taken up
pub record OnlyPrinted (r : RunCallEffect Effect) : Type 0 where
  pub note : r.ran.effect.note ≡ Clear
  pub wire : r.ran.effect.wire ≡ []
  pub taken : r.ran.effect.taken ≡ []

-- these runs read the data, and after them the ends agree again
pub record ReadInRuns (bytes : List ℕ) (b : B.BulletinState) (p : PrinterState) (rs : List Bytes) : Type 0 where
  pub each : (r : RunCallEffect Effect) → Memᴰ r (answered_from p (map run rs)) → OnlyPrinted r
  pub paper : flat_map (λ r. r.ran.effect.paper) (answered_from p (map run rs)) ≡ bytes
  pub again : Agreed b (after_parts p (map run rs))

-- Demand 2 in runs. Assumed: two states that agree, 255 free, and runs of any bytes in any buffers, which took just the bytes that the
-- sendings put on the wire. Promised: they print the data of the sendings that are allowed, in order, and nothing else happens. Ruled
-- out: a run that drops or doubles a byte where it stops, or loses the place in a command.
abbrev pub RunsReadBack : Type 0
RunsReadBack =
    (b : B.BulletinState) (p : PrinterState) → IacFree b → Agreed b p
    → (cs : List Sending) (rs : List Bytes) → taken_by p rs ≡ all_wire b cs
    → ReadInRuns (all_data b cs) (bulletin_after b (answers b cs)) p rs
