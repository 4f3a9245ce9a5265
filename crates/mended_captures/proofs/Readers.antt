-- What a reader keeps between pieces: outside a body the bytes of an earlier body do not matter, and a reader that was idle has none.
use mathlib.Core.Path.{◌≡◌, refl, ap, sym, ◌∙◌}
use mathlib.Core.Bool.{true, false≢true}
use mathlib.Core.List.{List, [], ◌∷◌, ◌++◌}
use Prim.Native.Nat.{ℕ}
use lib.Dec.{eqb}
use Rattle.lists.proofs.Lengths.{either, either_both}
use Rattle.codes.specs.Telnet.{IAC, SB, SE, plain_command, WILL, WONT, DO, DONT}
use Rattle.codes.specs.declared.Verb.{Verb}
use Rattle.codes.specs.declared.Verb.TheVariants.{Will, Wont, Do, Dont}
use Rattle.reader.specs.declared.Phase.{Phase}
use Rattle.reader.specs.declared.Phase.TheVariants.{Between, AfterIac, AfterVerb, InBody, InBodyAfterIac}
use Rattle.reader.specs.declared.Item.{Item}
use Rattle.reader.specs.declared.Item.TheVariants.{Nothing, Data, Negotiated, BodyEnd, StrayCommand}
use Rattle.reader.specs.Reading.{ReaderState, ReadEffect, idle, in_phase, gives, goes, marring, read, read_in, command_read, body_command_read, keeping, is_between}
use Rattle.reader.specs.Framing.{reader_after, Silent}
use Rattle.reader.proofs.Framing.{after_append}
use Rattle.mending.proofs.Walk.{Whole, last_read}

-- a reader without the body that it kept, unless it reads one
abbrev shed_in : Phase → ReaderState → ReaderState
shed_in Between r = idle
shed_in AfterIac r = in_phase idle AfterIac
shed_in (AfterVerb v) r = in_phase idle (AfterVerb v)
shed_in InBody r = r
shed_in InBodyAfterIac r = r

abbrev shed : ReaderState → ReaderState
shed r = shed_in r.phase r

abbrev Alike : ReadEffect → ReadEffect → Type 0
Alike x y = shed x.reader ≡ shed y.reader

shed_in_lem : (p : Phase) (r : ReaderState) (b : ℕ) → r.phase ≡ p → Alike (read_in p r b) (read (shed_in p r) b)
unfolding read command_read
shed_in_lem Between r b e = either_both Alike (eqb b IAC) refl (rw e)
shed_in_lem AfterIac r b e =
    either_both Alike (eqb b IAC) refl
    (either_both Alike (eqb b SB) refl
    (either_both Alike (eqb b WILL) refl
    (either_both Alike (eqb b WONT) refl
    (either_both Alike (eqb b DO) refl
    (either_both Alike (eqb b DONT) refl
    (either_both Alike (plain_command b) refl refl))))))
shed_in_lem (AfterVerb v) r b e = refl
shed_in_lem InBody r b e = rw e
shed_in_lem InBodyAfterIac r b e = rw e

-- two readers that differ only in a body that they kept read alike
after_alike : (r q : ReaderState) (bs : List ℕ) → shed r ≡ shed q → shed (reader_after r bs) ≡ shed (reader_after q bs)
unfolding reader_after read
after_alike r q [] e = e
after_alike r q (b ∷ bs) e =
    after_alike (read r b).reader (read q b).reader bs
    (shed_in_lem r.phase r b refl ∙ (rw e (sym (shed_in_lem q.phase q b refl))))

shed_phase : (r : ReaderState) → (shed r).phase ≡ r.phase
shed_phase r = go r.phase refl
  where
    go : (p : Phase) → r.phase ≡ p → (shed_in p r).phase ≡ p
    go Between e = refl
    go AfterIac e = refl
    go (AfterVerb v) e = refl
    go InBody e = e
    go InBodyAfterIac e = e

same_phase : (r q : ReaderState) → shed r ≡ shed q → r.phase ≡ q.phase
same_phase r q e = sym (shed_phase r) ∙ ap (λ (x : ReaderState). x.phase) e ∙ shed_phase q

shed_between : (r : ReaderState) → is_between r.phase ≡ true → shed r ≡ idle
shed_between r e = go r.phase e
  where
    go : (p : Phase) → is_between p ≡ true → shed_in p r ≡ idle
    go Between e = refl
    go AfterIac e = absurd (false≢true e)
    go (AfterVerb v) e = absurd (false≢true e)
    go InBody e = absurd (false≢true e)
    go InBodyAfterIac e = absurd (false≢true e)

-- behind a whole piece a reader is between commands, whatever it read before
pub piece_ends : (r : ReaderState) (begun : List ℕ) (b : ℕ) → is_between r.phase ≡ true → Whole begun b → is_between (reader_after r (begun ++ b ∷ [])).phase ≡ true
unfolding reader_after
piece_ends r begun b e w =
    let now = begun ++ b ∷ [] in
    let same = same_phase (reader_after r now) (reader_after idle now) (after_alike r idle now (shed_between r e)) in
    rw (same, after_append idle begun (b ∷ [])) w.ends

-- what holds of the reader unless the byte ended a body
abbrev pub UnlessBody : (ReaderState → Type 0) → Item → ReaderState → Type 0
UnlessBody P Nothing r = P r
UnlessBody P (Data b) r = P r
UnlessBody P (Negotiated v option) r = P r
UnlessBody P BodyEnd r = Unit {0}
UnlessBody P StrayCommand r = P r

unless : (P Q : ReaderState → Type 0) (i : Item) (r : ReaderState) → (P r → Q r) → UnlessBody P i r → UnlessBody Q i r
unless P Q Nothing r f p = f p
unless P Q (Data b) r f p = f p
unless P Q (Negotiated v option) r f p = f p
unless P Q BodyEnd r f p = tt
unless P Q StrayCommand r f p = f p

-- a reader that keeps no body, unless it reads one; it stays so
abbrev Bare : ReaderState → Type 0
Bare r = shed r ≡ r

abbrev LeftBare : ReadEffect → Type 0
LeftBare x = UnlessBody Bare x.item x.reader

-- what holds of each effect of a command's byte
each_command : (P : ReadEffect → Type 0) (r : ReaderState) (b : ℕ)
    → P (gives (Data IAC) (in_phase r Between)) → P (goes InBody idle) → ((v : Verb) → P (goes (AfterVerb v) r)) → P (goes Between r)
    → P (gives StrayCommand (in_phase r Between)) → P (command_read r b)
unfolding command_read
each_command P r b iac body verb plain stray =
    either P (eqb b IAC) iac
    (either P (eqb b SB) body
    (either P (eqb b WILL) (verb Will)
    (either P (eqb b WONT) (verb Wont)
    (either P (eqb b DO) (verb Do)
    (either P (eqb b DONT) (verb Dont)
    (either P (plain_command b) plain stray))))))

each_body_command : (P : ReadEffect → Type 0) (r : ReaderState) (b : ℕ)
    → P (gives Nothing (keeping r IAC)) → P (gives BodyEnd (in_phase r Between)) → P (gives Nothing (marring r)) → P (body_command_read r b)
unfolding body_command_read
each_body_command P r b iac end mars = either P (eqb b IAC) iac (either P (eqb b SE) end mars)

left_in : (p : Phase) (r : ReaderState) (b : ℕ) → r.phase ≡ p → shed_in p r ≡ r → LeftBare (read_in p r b)
unfolding keeping
left_in Between r b e k = rw (← k) (either LeftBare (eqb b IAC) {x = goes AfterIac idle} {y = gives (Data b) idle} refl refl)
left_in AfterIac r b e k = rw (← k) (each_command LeftBare (in_phase idle AfterIac) b refl refl (λ v. refl) refl refl)
left_in (AfterVerb v) r b e k = rw (← k) refl
left_in InBody r b e k = either LeftBare (eqb b IAC) {x = goes InBodyAfterIac r} {y = gives Nothing (keeping r b)} refl refl
left_in InBodyAfterIac r b e k = each_body_command LeftBare r b refl tt refl

left_bare : (r : ReaderState) (b : ℕ) → Bare r → LeftBare (read r b)
unfolding read
left_bare r b k = left_in r.phase r b refl k

silent_bare : (r : ReaderState) (xs : List ℕ) → Silent r xs → Bare r → Bare (reader_after r xs)
unfolding Silent reader_after
silent_bare r [] s k = k
silent_bare r (x ∷ xs) s k = silent_bare (read r x).reader xs s.2 (rw s.0 at (left_bare r x k))

-- behind a piece that is no body an idle reader is idle again
pub idle_again : (begun : List ℕ) (b : ℕ) → Whole begun b → let x = last_read begun b in UnlessBody (λ r. r ≡ idle) x.item x.reader
idle_again begun b w =
    let x = last_read begun b in
    unless Bare (λ r. r ≡ idle) x.item x.reader (λ k. sym k ∙ shed_between x.reader w.ends)
    (left_bare (reader_after idle begun) b (silent_bare idle begun w.silent refl))
