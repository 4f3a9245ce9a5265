use mathlib.Core.Path.{◌≡◌, ◌∙◌, ap, sym}
use mathlib.Core.Bool.{false}
use native.Mathlib.Omega.{arith}
use lib.ListN.{length}
use lib.Dec.{leb}
use borrow.Author.Tests.{lt-leb}
use borrow.Author.Rules.{rules}
use borrow.Fn.Kinds.{GoodsP}
use Rattle.keys.specs.declared.Key.{Key}
use Rattle.keys.specs.declared.Key.TheVariants.{Char, Line, Command}
use Rattle.keys.specs.Refinement.{key_number, key_of_number, ByteKey}
use Rattle.keys.proofs.Packing.{key_of_key_number}
use Rattle.rcte.specs.declared.Rcte.{Rcte}
use Rattle.rcte.specs.Refinement.{waiting_in}
use Rattle.rcte.proofs.Cells.{count_of, queued_keys, queued_clean, queued_numbers}
use Rattle.rcte.proofs.waiting.queued.Kinds as kinds
use Rattle.rcte.proofs.waiting.queued.Goals as goal

-- a key's numbers are bytes
bytes : (e : Rcte) (k : Key) → GoodsP {n = 0} tt kinds.ps (e, (k, tt)) → ByteKey k
bytes e (Char b) g = omega arith
bytes e Line g = tt
bytes e (Command b) g = omega arith

pub returns : goal.returns
returns c =
    let start = c in
    let free = c.if-e-ge-WAIT_ROOM.false in
    let e = start.args.e in
    let k = start.args.k in
    let l : length e.waiting ≡ 256 = search rules in
    let room : leb 256 (length (waiting_in e)) ≡ false = lt-leb 256 (length (waiting_in e)) (omega (arith, count_of e.waiting e.count l, free)) in
    let same : key_of_number c.from.result ≡ k = ap key_of_number c.from.ensures ∙ key_of_key_number k (bytes e k start.well_formed) in
    rw room
    (record {
      rcte = rw (queued_keys e.waiting e.count l c.from.result k free same);
      clean = λ h. record { waiting = queued_clean e.waiting e.count l c.from.result free h.waiting; numbers = queued_numbers e.waiting e.count c.from.result (ap key_number same ∙ sym c.from.ensures) h.numbers; gathered = h.gathered };
    })
