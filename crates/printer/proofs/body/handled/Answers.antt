use mathlib.Core.Path.{◌≡◌}
use Rattle.subnegotiation.specs.declared.Subject.{Subject}
use Rattle.printer.proofs.body.handled.Goals as goal

pub returns-in-Ok-Disposes : goal.returns-in-Ok-Disposes
returns-in-Ok-Disposes c =
    let option = c.in-Ok-Disposes in
    let disposes : option.field-0 ≡ Subject.Disposes option.d = rw option.is at option.field-0-is in
    rw (option.is, disposes) (c.value_read.ensures.met _ _)
