-- A run of network bytes at the printer end: the call with one byte over a list of them, as reader/NetworkRun says.
use Rattle.std.specs.Prelude.{◌≡◌, List, ℕ}
use Rattle.reader.specs.NetworkRun as at-either-end
use Rattle.reader.specs.NetworkRun.{OneByte, RunCallEffect, run_from, answers_of, calls_by}
use Rattle.printer.specs.State.{PrinterState, Effect, nothing, followed, CallEffect}
use Rattle.printer.specs.Calls.{network_call}
use Rattle.printer.specs.Session.{Call, network, answers_from}

abbrev pub printer_byte : OneByte PrinterState Effect CallEffect
printer_byte = record {
  call = network_call;
  code = λ a. a.code;
  effect = λ a. a.effect;
  note = λ d. d.note;
  first = λ d. d.paper;
  wire = λ d. d.wire;
  state = λ d. d.state;
  nothing = nothing;
  followed = followed;
}

abbrev pub network_run : PrinterState → List ℕ → (paper wire : ℕ) → RunCallEffect Effect
network_run s bs paper wire = run_from printer_byte s bs paper wire

-- a run is its one-byte calls, and stops only where the next would be refused, or behind a note
abbrev pub RunIsCalls : Type 0
RunIsCalls = at-either-end.RunIsCalls printer_byte

abbrev pub RunStops : Type 0
RunStops = at-either-end.RunStops printer_byte

-- the calls of a session with these bytes, each in the tails that the one before left
abbrev pub calls_of : PrinterState → List ℕ → (paper wire : ℕ) → List Call
calls_of s bs paper wire = calls_by printer_byte network s bs paper wire

abbrev pub CallsAnswered : Type 0
CallsAnswered = (s : PrinterState) (bs : List ℕ) (paper wire : ℕ) → answers_from s (calls_of s bs paper wire) ≡ answers_of printer_byte s bs paper wire
