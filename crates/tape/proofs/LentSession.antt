-- The run of a tape is a session in lent tails: item by item, then field by field.
use mathlib.Core.Path.{◌≡◌, refl, sym, ap, subst, ◌∙◌}
use mathlib.Core.List.{List, [], ◌∷◌, ◌++◌, append_assoc, append-nil, flat_map}
use Prim.Native.Nat.{ℕ, ◌+◌, ◌-◌}
use native.Mathlib.Omega.{arith}
use borrow.Author.Tests.{le-ltb}
use lib.ListN.{length}
use Rattle.codes.specs.declared.Code.{Code}
use Rattle.codes.specs.declared.Code.TheVariants.{BadCommand}
use Rattle.printer.specs.State.{PrinterState, CallEffect, refused}
use Rattle.printer.specs.Session.{Call, called, answers_from, reached}
use Rattle.printer.specs.Session.Call.{network, key, ask}
use Rattle.printer.specs.UnusedTails as T
use Rattle.printer.specs.UnusedTails.{Tails, in_tails, unused_after}
use Rattle.printer.proofs.UnusedTails.{from_lent, after_lent}
use Rattle.std.specs.Prelude.{Option, Some, None, Ok, Err}
use Rattle.keys.specs.declared.Key.{Key}
use Rattle.tape.specs.declared.Item.{Item}
use Rattle.tape.specs.declared.Item.TheVariants.{NetworkByte, KeyPair, AskPair}
use Rattle.tape.specs.Fields.{Found, Scanned, fields_at, items_of}
use Rattle.tape.specs.Lines.{answer_line}
use Rattle.tape.specs.Running.{TapeRun, programs, begun, with_room, pair_of, typed_call, item_answer, after_item, Ran, before, ran_then, items_run, field_run, fields_run, tape_room, tape_output}
use Rattle.tape.specs.LentSession.{pair_calls, calls_of, Placed, placed_from, placed_then, placed_in, last_then, last_in, line_then, lines_of, calls_in, RunIsLent}

-- the calls of an item as they are made in the run r, and its answer: one call, or none and code 3
data Comes (r : TapeRun) : List Call → CallEffect → Type 0 where
  none : Comes r [] (refused r.printer BadCommand)
  one : (c : Call) → Comes r (c ∷ []) (called r.printer (in_tails (with_room r).tails c))

pair_comes : (r : TapeRun) (p : Option Key) → Comes r (pair_calls p) (typed_call r.printer p (with_room r).tails.paper (with_room r).tails.wire)
unfolding called
pair_comes r (Some k) = Comes.one (key k 0 0)
pair_comes r None = Comes.none

comes : (r : TapeRun) (i : Item) → Comes r (calls_of i) (item_answer (with_room r) i)
unfolding called item_answer
comes r (NetworkByte b) = Comes.one (network b 0 0)
comes r (KeyPair kind v) = pair_comes r (pair_of kind v)
comes r (AskPair option way) = Comes.one (ask option way 0 0)

abbrev made : TapeRun → List Call → List Call
made r cs = T.lent_from programs r.printer r.tails cs

-- what is printed from the run r on, and the run after it, are those of the session of cs, whose answers are told so
record Same (r : TapeRun) (ran : Ran) (cs : List Call) (told : List CallEffect → List ℕ) (last : List ℕ) : Type 0 where
  lines : ran.lines ≡ told (answers_from r.printer (made r cs)) ++ last
  printer : ran.run.printer ≡ reached r.printer (made r cs)
  tails : T.lent_afresh programs ran.run.tails ≡ T.lent_afresh programs (T.tails_after programs r.printer r.tails cs)

-- a refusal uses nothing
all_unused : (t : Tails) (s : PrinterState) (c : Code) → unused_after t (refused s c) ≡ t
all_unused t s c =
    let paper : t.paper - 0 ≡ t.paper = omega arith in
    let wire : t.wire - 0 ≡ t.wire = omega arith in
    λ i. record { paper = paper i; wire = wire i }

-- an item in front
item_first : (r : TapeRun) (p : Placed) {cs : List Call} {a : CallEffect} → Comes r cs a → (ran : Ran) (later : List Call) (told : List CallEffect → List ℕ) (last : List ℕ)
    → Same (after_item (with_room r) a) ran later told last → Same r (before (answer_line p.field p.number a) ran) (cs ++ later) (line_then p cs told) last
unfolding answers_from reached T.lent_from T.tails_after
item_first r p {a = a} (Comes.one c) ran later told last h = record {
  lines = ap (λ (l : List ℕ). answer_line p.field p.number a ++ l) h.lines ∙ sym (append_assoc (answer_line p.field p.number a) _ last);
  printer = h.printer;
  tails = h.tails;
}
item_first r p Comes.none ran later told last h =
    let a = refused r.printer BadCommand in
    let line = answer_line p.field p.number a in
    let t = (with_room r).tails in
    let k : Same (with_room r) ran later told last = subst (λ (u : Tails). Same (record { printer = r.printer; tails = u }) ran later told last) (all_unused t r.printer BadCommand) h in
    let same = from_lent programs r.printer r.tails later in
    record {
      lines =
          ap (λ (l : List ℕ). line ++ l) (k.lines ∙ ap (λ (cs : List Call). told (answers_from r.printer cs) ++ last) same)
          ∙ sym (append_assoc line (told (answers_from r.printer (made r later))) last);
      printer = k.printer ∙ ap (λ (cs : List Call). reached r.printer cs) same;
      tails = k.tails ∙ after_lent programs r.printer r.tails later;
    }

module _ (later : List Placed) (last : List ℕ) (next : TapeRun → Ran) (behind : (r : TapeRun) → Same r (next r) (calls_in later) (lines_of later) last) where
  items_first : (field n : ℕ) (r : TapeRun) (is : List Item)
      → (let ps = placed_from field n is ++ later in Same r (ran_then (items_run field n r is) next) (calls_in ps) (lines_of ps) last)
  unfolding items_run placed_from lines_of flat_map
  items_first field n r [] = let h = behind r in record { lines = h.lines; printer = h.printer; tails = h.tails }
  items_first field n r (i ∷ is) =
      let a = item_answer (with_room r) i in
      let p : Placed = record { field = field; number = n; item = i } in
      let ps = placed_from field (n + 1) is ++ later in
      let ran = items_run field (n + 1) (after_item (with_room r) a) is in
      let h = item_first r p (comes r i) (ran_then ran next) (calls_in ps) (lines_of ps) last (items_first field (n + 1) (after_item (with_room r) a) is) in
      record { lines = append_assoc (answer_line field n a) ran.lines (next ran.run).lines ∙ h.lines; printer = h.printer; tails = h.tails }

found_first : (field : ℕ) (r : TapeRun) (f : Found) (body : List ℕ) (later : List Placed) (last : List ℕ) (next : TapeRun → Ran)
    → ((r' : TapeRun) → Same r' (next r') (calls_in later) (lines_of later) last)
    → (let ps = placed_then field f body later in Same r (field_run field r f body next) (calls_in ps) (lines_of ps) (last_then field f last))
unfolding lines_of flat_map T.lent_from T.tails_after reached
found_first field r (Ok None) body later last next behind = record { lines = refl; printer = refl; tails = refl }
found_first field r (Err e) body later last next behind = record { lines = append-nil _; printer = refl; tails = refl }
found_first field r (Ok (Some f)) body later last next behind = items_first later last next behind field 1 r (items_of f.tag body)

fields_first : (field : ℕ) (r : TapeRun) (ss : List Scanned) → Same r (fields_run field r ss) (calls_in (placed_in field ss)) (lines_of (placed_in field ss)) (last_in field ss)
unfolding fields_run placed_in last_in lines_of flat_map T.lent_from T.tails_after reached
fields_first field r [] = record { lines = refl; printer = refl; tails = refl }
fields_first field r (s ∷ ss) =
    found_first field r s.found s.body (placed_in (field + 1) ss) (last_in (field + 1) ss) _ (λ r'. fields_first (field + 1) r' ss)

pub run_is_lent : RunIsLent
unfolding tape_output
run_is_lent tape short =
    let h = fields_first 1 begun (fields_at tape 0) in
    record { lines = rw (le-ltb tape_room (length tape) short) h.lines; printer = h.printer; tails = h.tails }
