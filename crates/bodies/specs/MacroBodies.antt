-- BM's bodies, as each end reads them. To either end, what only the other may be sent is of the wrong shape.
use Rattle.std.specs.Prelude.{Bool, ◌&&◌, not, cond, Option, Some, None, List, ℕ, length, get_or, drop, ltb, eqb}
use Rattle.codes.specs.Telnet.{IAC, DEFINE, ACCEPT, REFUSE, LITERAL, PLEASECANCEL}
use Rattle.bodies.specs.declared.MacroCommand.{MacroCommand}
use Rattle.bodies.specs.declared.MacroCommand.TheVariants.{Define, Literal}
use Rattle.bodies.specs.declared.MacroReply.{MacroReply}
use Rattle.bodies.specs.declared.MacroReply.TheVariants.{Accept, Refuse, PleaseCancel}

abbrev pub subcommand_of : List ℕ → ℕ
subcommand_of body = get_or body 1 0

abbrev pub macro_byte_of : List ℕ → ℕ
macro_byte_of body = get_or body 2 0

-- LITERAL is its byte alone, and not of 255
abbrev pub is_literal : List ℕ → Bool
is_literal body = eqb (subcommand_of body) LITERAL && eqb (length body) 3 && not (eqb (macro_byte_of body) IAC)

-- DEFINE needs its macro byte; what follows that is judged later
unfoldable pub macro_body : List ℕ → Option MacroCommand
macro_body body =
    cond (ltb (length body) 3) None
    (cond (eqb (subcommand_of body) DEFINE) (Some (Define (macro_byte_of body)))
    (cond (is_literal body) (Some (Literal (macro_byte_of body))) None))

-- a DEFINE's count and string
abbrev pub define_rest : List ℕ → List ℕ
define_rest body = drop 3 body

-- ACCEPT is its byte alone; REFUSE and PLEASE CANCEL carry any one reason byte
unfoldable pub reply_body : List ℕ → Option MacroReply
reply_body body =
    cond (eqb (subcommand_of body) ACCEPT && eqb (length body) 3) (Some (Accept (macro_byte_of body)))
    (cond (eqb (subcommand_of body) REFUSE && eqb (length body) 4) (Some (Refuse (macro_byte_of body)))
    (cond (eqb (subcommand_of body) PLEASECANCEL && eqb (length body) 4) (Some (PleaseCancel (macro_byte_of body))) None))
