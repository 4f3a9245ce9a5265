-- How a frame is read: silent bytes one behind the other, and a body that is kept byte by byte.
use mathlib.Core.Path.{◌≡◌, refl, ap, ◌∙◌}
use mathlib.Core.Bool.{Bool, true, false, cond, true≢false}
use mathlib.Core.List.{List, [], ◌∷◌, ◌++◌, append_assoc, append-nil, flat_map}
use Prim.Native.Nat.{ℕ, ◌+◌, ◌≤◌, ◌<◌}
use native.Mathlib.Omega.{arith}
use lib.ListN.{length, length-append}
use lib.Dec.{eqb, ltb}
use borrow.Author.Tests.{eqb-true, lt-ltb}
use Rattle.lists.proofs.Lengths.{either}
use Rattle.codes.specs.Telnet.{IAC, SB, SE, plain_command, WILL, WONT, DO, DONT}
use Rattle.wire.specs.Frames.{coded, doubled, frame}
use Rattle.reader.specs.declared.Phase.{Phase}
use Rattle.reader.specs.declared.Phase.TheVariants.{Between, AfterIac, AfterVerb, InBody, InBodyAfterIac}
use Rattle.reader.specs.declared.Item.TheVariants.{Nothing}
use Rattle.reader.specs.Reading.{ReaderState, ReadEffect, read, read_in, command_read, body_command_read, keeping, gives, in_phase, is_between, body_room}
use Rattle.reader.specs.Framing.{reader_after, Silent, unclosed, keeps_body, FramesRead}

pub after_append : (r : ReaderState) (xs ys : List ℕ) → reader_after r (xs ++ ys) ≡ reader_after (reader_after r xs) ys
unfolding reader_after
after_append r [] ys = refl
after_append r (x ∷ xs) ys = after_append (read r x).reader xs ys

pub silent_append : (r : ReaderState) (xs ys : List ℕ) → Silent r xs → Silent (reader_after r xs) ys → Silent r (xs ++ ys)
unfolding reader_after Silent
silent_append r [] ys s t = t
silent_append r (x ∷ xs) ys s t = (s.0, s.1, silent_append (read r x).reader xs ys s.2 t)

abbrev InsideIsSilent : ReadEffect → Type 0
InsideIsSilent e = is_between e.reader.phase ≡ false → e.item ≡ Nothing

inside_in : (p : Phase) (r : ReaderState) (b : ℕ) → r.phase ≡ p → InsideIsSilent (read_in p r b)
unfolding command_read body_command_read
inside_in Between r b h = either InsideIsSilent (eqb b IAC) (λ e. refl) (λ e. absurd (true≢false (rw h at e)))
inside_in AfterIac r b h =
    either InsideIsSilent (eqb b IAC) (λ e. absurd (true≢false e))
    (either InsideIsSilent (eqb b SB) (λ e. refl)
    (either InsideIsSilent (eqb b WILL) (λ e. refl)
    (either InsideIsSilent (eqb b WONT) (λ e. refl)
    (either InsideIsSilent (eqb b DO) (λ e. refl)
    (either InsideIsSilent (eqb b DONT) (λ e. refl)
    (either InsideIsSilent (plain_command b) (λ e. refl) (λ e. absurd (true≢false e))))))))
inside_in (AfterVerb v) r b h = λ e. absurd (true≢false e)
inside_in InBody r b h = either InsideIsSilent (eqb b IAC) (λ e. refl) (λ e. refl)
inside_in InBodyAfterIac r b h =
    either InsideIsSilent (eqb b IAC) (λ e. refl) (either InsideIsSilent (eqb b SE) (λ e. absurd (true≢false e)) (λ e. refl))

-- a byte that leaves the reader within a command completes nothing
pub silent_inside : (r : ReaderState) (b : ℕ) → is_between (read r b).reader.phase ≡ false → (read r b).item ≡ Nothing
unfolding read
silent_inside r b e = inside_in r.phase r b refl e

-- silent bytes that lead from one reader to another
record Leads (r : ReaderState) (xs : List ℕ) (q : ReaderState) : Type 0 where
  silent : Silent r xs
  after : reader_after r xs ≡ q

one : (r q : ReaderState) (b : ℕ) → read r b ≡ gives Nothing q → is_between q.phase ≡ false → Leads r (b ∷ []) q
unfolding Silent reader_after
one r q b e h = record { silent = rw e (refl, h, tt); after = ap (λ (x : ReadEffect). x.reader) e }

then : (r q s : ReaderState) (xs ys : List ℕ) → Leads r xs q → Leads q ys s → Leads r (xs ++ ys) s
then r q s xs ys l m = record {
  silent = silent_append r xs ys l.silent (rw l.after m.silent);
  after = after_append r xs ys ∙ rw l.after m.after;
}

-- IAC SB begins an empty body, whatever was kept before
opened : (r : ReaderState) → r.phase ≡ Between → Leads r (IAC ∷ SB ∷ []) (keeps_body InBody [])
unfolding read command_read
opened r h =
    let q = in_phase r AfterIac in
    then r q (keeps_body InBody []) (IAC ∷ []) (SB ∷ []) (one r q IAC (rw h) refl) (one q (keeps_body InBody []) SB refl refl)

-- IAC in a body, which IAC or SE may follow
closing : (body : List ℕ) → Leads (keeps_body InBody body) (IAC ∷ []) (keeps_body InBodyAfterIac body)
unfolding read
closing body = one (keeps_body InBody body) (keeps_body InBodyAfterIac body) IAC refl refl

-- a byte of a body is kept, 255 as one
coded_kept : (bs : List ℕ) (b : ℕ) → ltb (length bs) body_room ≡ true
    → Leads (keeps_body InBody bs) (coded b) (keeps_body InBody (bs ++ b ∷ []))
unfolding coded read body_command_read keeping
coded_kept bs b l = go (eqb b IAC) refl
  where
    go : (t : Bool) → eqb b IAC ≡ t
        → Leads (keeps_body InBody bs) (cond t (IAC ∷ IAC ∷ []) (b ∷ [])) (keeps_body InBody (bs ++ b ∷ []))
    go true k =
        let q = keeps_body InBodyAfterIac bs in
        let s = keeps_body InBody (bs ++ IAC ∷ []) in
        rw (eqb-true b IAC k) (then (keeps_body InBody bs) q s (IAC ∷ []) (IAC ∷ []) (closing bs) (one q s IAC (rw l) refl))
    go false k = one (keeps_body InBody bs) (keeps_body InBody (bs ++ b ∷ [])) b (rw (k, l)) refl

doubled_kept : (body bs : List ℕ) → length bs + length body ≤ body_room
    → Leads (keeps_body InBody bs) (doubled body) (keeps_body InBody (bs ++ body))
unfolding flat_map Silent reader_after
doubled_kept [] bs l = rw (append-nil bs) (record { silent = tt; after = refl })
doubled_kept (b ∷ body) bs l =
    let here : length bs < body_room = omega arith in
    let more : length (bs ++ b ∷ []) + length body ≤ body_room = simp length-append (omega arith) in
    let next = bs ++ b ∷ [] in
    rw (← append_assoc bs (b ∷ []) body)
    (then (keeps_body InBody bs) (keeps_body InBody next) (keeps_body InBody (next ++ body)) (coded b) (doubled body)
    (coded_kept bs b (lt-ltb (length bs) body_room here)) (doubled_kept body next more))

unclosed_kept : (r : ReaderState) (body : List ℕ) → r.phase ≡ Between → length body ≤ body_room
    → Leads r (unclosed body) (keeps_body InBodyAfterIac body)
unfolding unclosed
unclosed_kept r body h l =
    let inside = keeps_body InBody body in
    let whole = keeps_body InBodyAfterIac body in
    then r (keeps_body InBody []) whole (IAC ∷ SB ∷ []) (doubled body ++ IAC ∷ []) (opened r h)
    (then (keeps_body InBody []) inside whole (doubled body) (IAC ∷ []) (doubled_kept body [] (omega arith)) (closing body))

pub frames_read : FramesRead
unfolding frame unclosed read body_command_read
frames_read r body h l =
    let k = unclosed_kept r body h l in
    record { bytes = rw append_assoc; silent = k.silent; kept = k.after; end = refl }
