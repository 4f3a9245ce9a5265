-- Each byte read adds two to a bound on the wire bytes, and what it completes writes no more than the bound.
use mathlib.Core.Path.{◌≡◌, refl}
use mathlib.Core.Bool.{true, false≢true}
use mathlib.Core.List.{List, [], ◌∷◌}
use Prim.Native.Nat.{ℕ, zero, suc, ◌+◌, ◌*◌, ◌≤◌, ◌<◌}
use native.Mathlib.Omega.{arith}
use borrow.Author.Tests.{ltb-true}
use lib.Dec.{ltb, eqb, lit≤, lit<}
use lib.ListN.{length, length-append}
use Rattle.lists.proofs.Lengths.{chosen, either, every_append}
use Rattle.codes.specs.Telnet.{IAC, SB, SE, plain_command}
use Rattle.codes.specs.declared.Verb.{Verb}
use Rattle.codes.specs.declared.Verb.TheVariants.{Will, Wont, Do, Dont}
use Rattle.reader.specs.declared.Phase.{Phase}
use Rattle.reader.specs.declared.Phase.TheVariants.{Between, AfterIac, AfterVerb, InBody, InBodyAfterIac}
use Rattle.reader.specs.declared.Item.{Item}
use Rattle.reader.specs.declared.Item.TheVariants.{Nothing, Data, Negotiated, BodyEnd, StrayCommand}
use Rattle.reader.specs.Reading.{ReaderState, ReadEffect, idle, in_phase, body_room, gives, goes, keeping, marring, command_read, body_command_read, read_in, read, is_between}
use Rattle.printer.specs.Limits.{InBytes}

-- what the bytes of a command that is not complete have added to the bound
abbrev pub bound_in : Phase → List ℕ → ℕ
bound_in Between body = 0
bound_in AfterIac body = 2
bound_in (AfterVerb v) body = 4
bound_in InBody body = 4 + 2 * length body
bound_in InBodyAfterIac body = 6 + 2 * length body

abbrev pub wire_bound : ReaderState → ℕ
wire_bound r = bound_in r.phase r.body

-- what an item may write
abbrev pub item_bound : Item → List ℕ → ℕ
item_bound Nothing body = 0
item_bound (Data b) body = 0
item_bound (Negotiated v option) body = 3
item_bound BodyEnd body = 8 + 2 * length body
item_bound StrayCommand body = 0

-- a byte b read by a reader with that body and that bound
pub record Reads (body : List ℕ) (b held : ℕ) (x : ReadEffect) : Type 0 where
  pub bounded : wire_bound x.reader + item_bound x.item x.reader.body ≤ held + 2
  pub room : length body ≤ body_room → length x.reader.body ≤ body_room
  pub bytes : b < 256 → InBytes body → InBytes x.reader.body

one_byte : (b : ℕ) → b < 256 → InBytes (b ∷ [])
one_byte b h zero = h
one_byte b h (suc i) = lit< tt

keeps : (r : ReaderState) (b c held : ℕ) → 4 + 2 * length r.body ≤ held → (b < 256 → c < 256) → Reads r.body b held (gives Nothing (keeping r c))
unfolding keeping
keeps r b c held h small = record {
  bounded = either (λ (l : List ℕ). 4 + 2 * length l + 0 ≤ held + 2) (ltb (length r.body) body_room) (simp length-append (omega arith)) (omega arith);
  room = λ l. chosen (λ (l : List ℕ). length l ≤ body_room) (ltb (length r.body) body_room) (λ e. simp length-append (omega (arith, ltb-true (length r.body) body_room e))) (λ e. l);
  bytes = λ l all. either InBytes (ltb (length r.body) body_room) (every_append (λ n. n < 256) 0 r.body (c ∷ []) all (one_byte c (small l))) all;
}

-- the body stays
stays : (r : ReaderState) (b held : ℕ) (i : Item) → wire_bound r + item_bound i r.body ≤ held + 2 → Reads r.body b held (gives i r)
stays r b held i h = record { bounded = h; room = λ l. l; bytes = λ l all. all }

-- a body begins
begins : (body : List ℕ) (b : ℕ) → Reads body b 2 (goes InBody idle)
begins body b = record { bounded = lit≤ tt; room = λ l. lit≤ tt; bytes = λ l all i. lit< tt }

after_iac : (r : ReaderState) (b : ℕ) → Reads r.body b 2 (command_read r b)
unfolding command_read
after_iac r b =
    let Q : ReadEffect → Type 0 = Reads r.body b 2 in
    let verb : (v : Verb) → Q (goes (AfterVerb v) r) = λ v. stays (in_phase r (AfterVerb v)) b 2 Nothing (lit≤ tt) in
    either Q (eqb b IAC) (stays (in_phase r Between) b 2 (Data IAC) (lit≤ tt))
    (either Q (eqb b SB) (begins r.body b)
    (either Q (eqb b 251) (verb Will)
    (either Q (eqb b 252) (verb Wont)
    (either Q (eqb b 253) (verb Do)
    (either Q (eqb b 254) (verb Dont)
    (either Q (plain_command b) (stays (in_phase r Between) b 2 Nothing (lit≤ tt))
    (stays (in_phase r Between) b 2 StrayCommand (lit≤ tt))))))))

after_body_iac : (r : ReaderState) (b : ℕ) → Reads r.body b (6 + 2 * length r.body) (body_command_read r b)
unfolding body_command_read
after_body_iac r b =
    let Q : ReadEffect → Type 0 = Reads r.body b (6 + 2 * length r.body) in
    either Q (eqb b IAC) (keeps r b IAC _ (omega arith) (λ h. lit< tt))
    (either Q (eqb b SE) (stays (in_phase r Between) b _ BodyEnd (omega arith))
    (stays (marring r) b _ Nothing (omega arith)))

reads_in : (p : Phase) (r : ReaderState) (b : ℕ) → r.phase ≡ p → Reads r.body b (bound_in p r.body) (read_in p r b)
reads_in Between r b e =
    either (Reads r.body b 0) (eqb b IAC) (stays (in_phase r AfterIac) b 0 Nothing (lit≤ tt)) (stays r b 0 (Data b) (rw e (lit≤ tt)))
reads_in AfterIac r b e = after_iac r b
reads_in (AfterVerb v) r b e = stays (in_phase r Between) b 4 (Negotiated v b) (lit≤ tt)
reads_in InBody r b e =
    either (Reads r.body b (4 + 2 * length r.body)) (eqb b IAC) (stays (in_phase r InBodyAfterIac) b _ Nothing (omega arith)) (keeps r b b _ (omega arith) (λ h. h))
reads_in InBodyAfterIac r b e = after_body_iac r b

pub reads : (r : ReaderState) (b : ℕ) → Reads r.body b (wire_bound r) (read r b)
unfolding read
reads r b = reads_in r.phase r b refl

-- between commands the bound is 0
pub no_bound : (p : Phase) (body : List ℕ) → is_between p ≡ true → bound_in p body ≡ 0
no_bound Between body e = refl
no_bound AfterIac body e = absurd (false≢true e)
no_bound (AfterVerb v) body e = absurd (false≢true e)
no_bound InBody body e = absurd (false≢true e)
no_bound InBodyAfterIac body e = absurd (false≢true e)

-- .. and never more than for a full body
pub bound_within : (p : Phase) (body : List ℕ) → length body ≤ body_room → bound_in p body ≤ 526
bound_within Between body h = lit≤ tt
bound_within AfterIac body h = lit≤ tt
bound_within (AfterVerb v) body h = lit≤ tt
bound_within InBody body h = omega arith
bound_within InBodyAfterIac body h = omega arith
