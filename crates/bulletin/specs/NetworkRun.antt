-- A run of network bytes at the bulletin end: the call with one byte over a list of them, as reader/NetworkRun says.
use Rattle.std.specs.Prelude.{◌≡◌, List, [], ◌++◌, ℕ}
use Rattle.codes.specs.Answers.{first_note}
use Rattle.codes.specs.declared.Note.TheVariants.{Clear}
use Rattle.reader.specs.NetworkRun as at-either-end
use Rattle.reader.specs.NetworkRun.{OneByte, RunCallEffect, run_from, answers_of, calls_by}
use Rattle.bulletin.specs.State.{BulletinState, Effect, nothing, CallEffect}
use Rattle.bulletin.specs.Calls.{network_call}
use Rattle.bulletin.specs.Session.{Call, network, answers_from}

-- data for the host, and nothing else
abbrev pub giving : List ℕ → BulletinState → Effect
giving bytes s = record { note = Clear; host = bytes; wire = []; state = s }

-- one step and then another: the first note counts
abbrev pub followed : Effect → Effect → Effect
followed d e = record {
  note = first_note d.note e.note;
  host = d.host ++ e.host;
  wire = d.wire ++ e.wire;
  state = e.state;
}

abbrev pub bulletin_byte : OneByte BulletinState Effect CallEffect
bulletin_byte = record {
  call = network_call;
  code = λ a. a.code;
  effect = λ a. a.effect;
  note = λ d. d.note;
  first = λ d. d.host;
  wire = λ d. d.wire;
  state = λ d. d.state;
  nothing = nothing;
  followed = followed;
}

abbrev pub network_run : BulletinState → List ℕ → (host wire : ℕ) → RunCallEffect Effect
network_run s bs host wire = run_from bulletin_byte s bs host wire

-- a run is its one-byte calls, and stops only where the next would be refused, or behind a note
abbrev pub RunIsCalls : Type 0
RunIsCalls = at-either-end.RunIsCalls bulletin_byte

abbrev pub RunStops : Type 0
RunStops = at-either-end.RunStops bulletin_byte

-- the calls of a session with these bytes, each in the tails that the one before left
abbrev pub calls_of : BulletinState → List ℕ → (host wire : ℕ) → List Call
calls_of s bs host wire = calls_by bulletin_byte network s bs host wire

abbrev pub CallsAnswered : Type 0
CallsAnswered = (s : BulletinState) (bs : List ℕ) (host wire : ℕ) → answers_from s (calls_of s bs host wire) ≡ answers_of bulletin_byte s bs host wire
