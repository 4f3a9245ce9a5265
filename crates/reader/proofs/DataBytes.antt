-- A byte that is data as it stands leaves the reader as it is.
use mathlib.Core.Path.{◌≡◌, refl}
use mathlib.Core.Bool.{true, not, false≢true}
use Prim.Native.Nat.{ℕ}
use borrow.Author.Tests.{not-true}
use lib.Dec.{eqb}
use Rattle.lists.proofs.Tables.{both_left, both_right}
use Rattle.codes.specs.Telnet.{IAC}
use Rattle.reader.specs.declared.Phase.{Phase}
use Rattle.reader.specs.declared.Phase.TheVariants.{Between, AfterIac, AfterVerb, InBody, InBodyAfterIac}
use Rattle.reader.specs.declared.Item.TheVariants.{Data}
use Rattle.reader.specs.Reading.{ReaderState, read, gives, is_between, is_data}

between : (p : Phase) → is_between p ≡ true → p ≡ Between
between Between e = refl
between AfterIac e = absurd (false≢true e)
between (AfterVerb v) e = absurd (false≢true e)
between InBody e = absurd (false≢true e)
between InBodyAfterIac e = absurd (false≢true e)

pub read_data : (r : ReaderState) (b : ℕ) → is_data r.phase b ≡ true → read r b ≡ gives (Data b) r
unfolding read
read_data r b e =
    let text = not-true (eqb b IAC) (both_left (not (eqb b IAC)) (is_between r.phase) e) in
    rw (between r.phase (both_right (not (eqb b IAC)) (is_between r.phase) e), text)
