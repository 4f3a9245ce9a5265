-- The encoded forms.
use Rattle.std.specs.Prelude.{cond, ℕ, eqb}
use mathlib.Core.List.{List, [], ◌∷◌, ◌++◌, flat_map}
use Rattle.codes.specs.Telnet.{IAC, SB, SE, BM, LITERAL, verb_number}
use Rattle.codes.specs.declared.Verb.{Verb}

-- a byte of data or of a body, 255 doubled
unfoldable pub coded : ℕ → List ℕ
coded b = cond (eqb b IAC) (IAC ∷ IAC ∷ []) (b ∷ [])

abbrev pub doubled : List ℕ → List ℕ
doubled bs = flat_map coded bs

-- a plain command
abbrev pub command : ℕ → List ℕ
command c = IAC ∷ c ∷ []

abbrev pub negotiation : Verb → ℕ → List ℕ
negotiation v option = IAC ∷ verb_number v ∷ option ∷ []

-- a subnegotiation: its body, the option byte first
unfoldable pub frame : List ℕ → List ℕ
frame body = IAC ∷ SB ∷ (doubled body ++ IAC ∷ SE ∷ [])

abbrev pub literal : ℕ → List ℕ
literal x = frame (BM ∷ LITERAL ∷ x ∷ [])
