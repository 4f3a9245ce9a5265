use mathlib.Core.Path.{◌≡◌, sym, ◌∙◌}
use mathlib.Core.List.{[], ◌∷◌}
use Rattle.lists.proofs.Starts.{wrote_start}
use Rattle.wire.specs.Frames.{literal}
use Rattle.sent_macros.specs.Sending.{data_bytes}
use Rattle.sent_macros.specs.Refinement.{bare_table}
use Rattle.sent_macros.proofs.DataBytes.{data_iac, data_literal, data_bare}
use Rattle.sent_macros.proofs.sent.put_byte.Goals as goal

pub put_coded-requires : goal.put_coded-requires
put_coded-requires c =
    rw (data_iac (bare_table c.args.numbers.now) c.args.b c.if-b-eq-IAC.true) at c.requires

pub returns-then-b-eq-IAC : goal.returns-then-b-eq-IAC
returns-then-b-eq-IAC c =
    rw (data_iac (bare_table c.args.numbers.now) c.args.b c.if-b-eq-IAC.true) c.put_coded.ensures

pub put_literal-requires : goal.put_literal-requires
put_literal-requires c =
    let is-literal : let a = c.args in data_bytes (bare_table a.numbers.now) a.b ≡ literal a.b = let a = c.args in data_literal (bare_table a.numbers.now) a.b c.if-b-eq-IAC.false (sym c.is_free.ensures ∙ c.if-not-is_free.true) in
    rw (is-literal) at c.requires

pub returns-then-not-is_free : goal.returns-then-not-is_free
returns-then-not-is_free c =
    let is-literal : let a = c.args in data_bytes (bare_table a.numbers.now) a.b ≡ literal a.b = let a = c.args in data_literal (bare_table a.numbers.now) a.b c.if-b-eq-IAC.false (sym c.is_free.ensures ∙ c.if-not-is_free.true) in
    rw (is-literal) c.put_literal.ensures

pub bounds-out-0 : goal.bounds-out-0
bounds-out-0 c =
    let is-bare : let a = c.args in data_bytes (bare_table a.numbers.now) a.b ≡ a.b ∷ [] = let a = c.args in data_bare (bare_table a.numbers.now) a.b c.if-b-eq-IAC.false (sym c.is_free.ensures ∙ c.if-not-is_free.false) in
    rw (is-bare) at c.requires

pub returns : goal.returns
returns c =
    let is-bare : let a = c.args in data_bytes (bare_table a.numbers.now) a.b ≡ a.b ∷ [] = let a = c.args in data_bare (bare_table a.numbers.now) a.b c.if-b-eq-IAC.false (sym c.is_free.ensures ∙ c.if-not-is_free.false) in
    rw (is-bare) (wrote_start (c.args.b ∷ []) c.args.out.now (rw (is-bare) at c.requires))
