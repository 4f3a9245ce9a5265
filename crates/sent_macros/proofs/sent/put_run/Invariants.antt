use mathlib.Core.List.{flat_map}
use lib.ListN.{drop}
use Rattle.lists.specs.Buffers.{lent_as}
use Rattle.lists.proofs.Filling.{Filling}
use Rattle.sent_macros.specs.Sending.{data_bytes}
use Rattle.sent_macros.specs.Refinement.{bare_table}
use Rattle.sent_macros.proofs.sent.put_run.Given as goal

abbrev pub invariant-loop-b : goal.invariant-loop-b
invariant-loop-b l =
    Filling (flat_map (data_bytes (bare_table l.numbers)) l.bytes) (flat_map (data_bytes (bare_table l.numbers)) (drop l.b-index l.bytes)) (lent_as l.initial.out l.out) l.n
