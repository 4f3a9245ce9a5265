-- The body of an option about output disposition: its number, who speaks (1 the data sender, 0 the data receiver), the value.
use Rattle.std.specs.Prelude.{Bool, false, ◌||◌, ◌&&◌, not, cond, Option, Some, None, List, ℕ, length, get_or, eqb}
use Rattle.codes.specs.declared.Disposition.{Disposition}
use Rattle.codes.specs.declared.Disposition.TheVariants.{Naocrd, Naolfd, Naoffd, Naohtd}

-- the values that are not allowed
abbrev pub is_bad_value : Disposition → ℕ → Bool
is_bad_value Naocrd v = eqb v 251 || eqb v 253
is_bad_value Naolfd v = eqb v 251
is_bad_value Naoffd v = false
is_bad_value Naohtd v = false

abbrev pub is_value : Disposition → ℕ → List ℕ → Bool
is_value d who body = eqb (length body) 3 && eqb (get_or body 1 0) who && not (is_bad_value d (get_or body 2 0))

unfoldable pub value_body : Disposition → ℕ → List ℕ → Option ℕ
value_body d who body = cond (is_value d who body) (Some (get_or body 2 0)) None
