-- A reader gives a tape's fields, and stays within the tape.
use mathlib.Core.Path.{◌≡◌, refl, sym, ap, ◌∙◌}
use mathlib.Core.Bool.{Bool, true, false, false≢true, cond}
use mathlib.Core.List.{List, [], ◌∷◌}
use Prim.Native.Nat.{ℕ, zero, suc, ◌+◌, ◌≤◌, ◌<◌}
use native.Mathlib.Omega.{arith}
use borrow.Author.Tests.{le-ltb}
use denote.Ref.{Bor}
use lib.ListN.{length, length-take, length-drop}
use Rattle.std.specs.Prelude.{Some, None, Ok, Err}
use Rattle.tape.specs.declared.TapeReader.{TapeReader}
use Rattle.tape.specs.Fields.{Found, head_size, size_at, found_at, part_of, body_of, body_at, Scanned, field_then, fields_from}
use Rattle.tape.specs.Running.{tape_room, tape_output}
use Rattle.tape.specs.Scanning.{place_after, reader_at, found_by, reader_after, is_field, scanned_by, after_calls, ReaderGivesFields, ReaderPrints, ReaderWithin, ReaderMoves, ReaderStops, BodyWhole}
use Rattle.tape.proofs.Heads.{at_end, found_is}
use Rattle.tape.proofs.Steps.{Inside, found_inside}

given_then : (n : ℕ) (tape : Bor (List ℕ)) (at : ℕ) (f : Found) → ((next : ℕ) → scanned_by n (reader_at tape next) ≡ fields_from n tape.now next)
    → ◌≡◌ {A = List Scanned} (record { found = f; body = body_of tape.now f } ∷ cond (is_field f) (scanned_by n (reader_at tape (place_after f at))) [])
    (field_then tape.now f (λ next. fields_from n tape.now next))
given_then n tape at (Ok None) same = refl
given_then n tape at (Err e) same = refl
given_then n tape at (Ok (Some f)) same =
    ap (λ (ss : List Scanned). record { found = Ok (Some f); body = part_of tape.now f.start f.size } ∷ ss) (same f.next.at)

pub reader_gives_fields : ReaderGivesFields
unfolding scanned_by fields_from body_at
reader_gives_fields zero tape at = refl
reader_gives_fields (suc n) tape at = given_then n tape at (found_at tape.now at) (λ next. reader_gives_fields n tape next)

pub reader_prints : ReaderPrints
unfolding tape_output
reader_prints tape short = rw (le-ltb tape_room (length tape.now) short, reader_gives_fields (suc (length tape.now)) tape 0)

-- one call
stays_within : (tape : List ℕ) (at : ℕ) (f : Found) → Inside tape at f → at ≤ length tape → place_after f at ≤ length tape
stays_within tape at (Ok None) i h = h
stays_within tape at (Err e) i h = h
stays_within tape at (Ok (Some f)) i h = i.inside

passes : (tape : List ℕ) (at : ℕ) (f : Found) → Inside tape at f → is_field f ≡ true → at < place_after f at
passes tape at (Ok None) i e = absurd (false≢true e)
passes tape at (Err b) i e = absurd (false≢true e)
passes tape at (Ok (Some f)) i e = omega (arith, i.begins, i.ends)

pub reader_within : ReaderWithin
unfolding after_calls
reader_within zero t h = h
reader_within (suc n) t h =
    reader_within n (reader_after t) (stays_within t.tape.now t.at (found_by t) (found_inside t.tape.now t.at) h)

pub reader_moves : ReaderMoves
reader_moves t e = passes t.tape.now t.at (found_by t) (found_inside t.tape.now t.at) e

-- at the end and at a bad field a call changes nothing
same_place : (f : Found) (at : ℕ) → is_field f ≡ false → place_after f at ≡ at
same_place (Ok None) at e = refl
same_place (Err b) at e = refl
same_place (Ok (Some f)) at e = absurd (false≢true (sym e))

stays : (n : ℕ) (t : TapeReader) → is_field (found_by t) ≡ false → after_calls n t ≡ t
unfolding after_calls
stays zero t e = refl
stays (suc n) t e =
    let same : reader_after t ≡ t = ap (reader_at t.tape) (same_place (found_by t) t.at e) in
    rw same (stays n t e)

stops_after : (n : ℕ) (t : TapeReader) (b : Bool) → is_field (found_by t) ≡ b → (t.at < (reader_after t).at → is_field (found_by (after_calls n (reader_after t))) ≡ false)
    → is_field (found_by (after_calls n (reader_after t))) ≡ false
unfolding after_calls
stops_after n t true e later = later (reader_moves t e)
stops_after n t false e later = ap (λ (u : TapeReader). is_field (found_by u)) (stays (suc n) t e) ∙ e

pub reader_stops : ReaderStops
unfolding after_calls
reader_stops zero t h =
    let end : found_by t ≡ Ok None = at_end t.tape.now t.at (omega arith) in
    rw end
reader_stops (suc n) t h = stops_after n t (is_field (found_by t)) refl (λ lt. reader_stops n (reader_after t) (omega arith))

-- the size of a field is the one that its head names
abbrev Sized : List ℕ → ℕ → Found → Type 0
Sized tape at (Ok None) = Unit {0}
Sized tape at (Err e) = Unit {0}
Sized tape at (Ok (Some f)) = f.size ≡ size_at tape at

sized : (tape : List ℕ) (at : ℕ) → Sized tape at (found_at tape at)
sized tape at = found_is tape at (Sized tape at) tt (λ _. tt) (λ tag _. refl)

part_whole : (tape : List ℕ) (start size : ℕ) → start + size ≤ length tape → length (part_of tape start size) ≡ size
unfolding part_of
part_whole tape start size h = simp (length-take, length-drop) (omega arith)

whole_body : (tape : List ℕ) (at : ℕ) (f : Found) → Inside tape at f → Sized tape at f → is_field f ≡ true
    → (body_of tape f ≡ part_of tape (at + head_size) (size_at tape at)) × (length (body_of tape f) ≡ size_at tape at)
whole_body tape at (Ok None) i s e = absurd (false≢true e)
whole_body tape at (Err b) i s e = absurd (false≢true e)
whole_body tape at (Ok (Some f)) i s e = (rw (i.begins, s), part_whole tape f.start f.size (omega (arith, i.ends, i.inside)) ∙ s)

pub body_whole : BodyWhole
unfolding body_at
body_whole tape at e = whole_body tape at (found_at tape at) (found_inside tape at) (sized tape at) e
