-- Where the phase alone moves, that is how the reader reads the byte.
use mathlib.Core.Path.{◌≡◌, refl, sym, ap, ◌∙◌}
use mathlib.Core.Bool.{Bool, true, false, cond}
use Rattle.std.proofs.Common.{Option, Some, None}
use Prim.Native.Nat.{ℕ}
use lib.Dec.{eqb}
use Rattle.codes.specs.Telnet.{IAC, SB, plain_command, WILL, WONT, DO, DONT}
use Rattle.reader.specs.declared.Phase.{Phase}
use Rattle.reader.specs.declared.Phase.TheVariants.{Between, AfterIac, AfterVerb, InBody, InBodyAfterIac}
use Rattle.reader.specs.declared.Item.TheVariants.{Nothing, Data}
use Rattle.reader.specs.declared.PhaseRead.{PhaseRead}
use Rattle.reader.specs.Reading.{ReaderState, ReadEffect, idle, read, read_in, command_read, gives, goes, in_phase}
use Rattle.reader.specs.Phases.{moves, command_phase, phase_read, PhaseAlone}

-- a byte's reading, by what was found of its phase
abbrev pub by_phase : ReaderState → Option PhaseRead → ReadEffect
by_phase r None = goes InBody idle
by_phase r (Some m) = gives m.item (in_phase r m.phase)

-- a test inside, where only the second case is still to be shown
inside : (r : ReaderState) (t : Bool) (x y : Option PhaseRead) (e : ReadEffect) → by_phase r y ≡ e → by_phase r (cond t x y) ≡ cond t (by_phase r x) e
inside r true x y e h = refl
inside r false x y e h = h

pub command_by_phase : (r : ReaderState) (b : ℕ) → by_phase r (command_phase b) ≡ command_read r b
unfolding command_read command_phase
command_by_phase r b =
    inside r (eqb b IAC) _ _ _
    (inside r (eqb b SB) _ _ _
    (inside r (eqb b WILL) _ _ _
    (inside r (eqb b WONT) _ _ _
    (inside r (eqb b DO) _ _ _
    (inside r (eqb b DONT) _ _ _
    (inside r (plain_command b) _ _ _ refl))))))

-- data leaves the reader between commands
still : (r : ReaderState) → r.phase ≡ Between → r ≡ in_phase r Between
still r h = ap (λ (p : Phase). in_phase r p) h

-- what is found between commands, and under a verb
between_data : (r : ReaderState) (b : ℕ) (m : PhaseRead) → r.phase ≡ Between → (iac : Bool)
    → cond iac (moves Nothing AfterIac) (moves (Data b) Between) ≡ Some m → cond iac (goes AfterIac r) (gives (Data b) r) ≡ gives m.item (in_phase r m.phase)
between_data r b m h true e = ap (by_phase r) e
between_data r b m h false e = ap (λ (q : ReaderState). gives (Data b) q) (still r h) ∙ ap (by_phase r) e

in_phase_lem : (p : Phase) (r : ReaderState) (b : ℕ) (m : PhaseRead) → r.phase ≡ p → phase_read p b ≡ Some m → read_in p r b ≡ gives m.item (in_phase r m.phase)
in_phase_lem Between r b m h e = between_data r b m h (eqb b IAC) e
in_phase_lem AfterIac r b m h e = sym (command_by_phase r b) ∙ ap (by_phase r) e
in_phase_lem (AfterVerb v) r b m h e = ap (by_phase r) e
in_phase_lem InBody r b m h e = cc
in_phase_lem InBodyAfterIac r b m h e = cc

pub phase_alone : PhaseAlone
unfolding read
phase_alone r b m e = in_phase_lem r.phase r b m refl e
