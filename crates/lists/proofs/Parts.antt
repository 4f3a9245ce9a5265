-- Bytes written behind others, seen in the whole buffer.
use mathlib.Core.Path.{◌≡◌, refl, sym, ◌∙◌}
use mathlib.Core.List.{List, [], ◌∷◌, ◌++◌, append_assoc, append-nil}
use Prim.Native.Nat.{ℕ, suc, ◌+◌, ◌-◌, ◌≤◌, ◌<◌}
use native.Mathlib.Numerals.{add-one}
use native.Mathlib.Omega.{arith}
use lib.ListN.{length, take, drop, set, get_or, length-append, length-drop, drop_of_length-le}
use lib.Seq.{take_all, drop-drop, take_at, drop_at, drop-cons, set_at, append_snoc}
use borrow.Rule.Slice.PartMut.{put_mid}
use Rattle.lists.specs.Buffers.{Lent, lent_as, WroteAtStart, RoomFor}

-- the part behind the first n bytes, as it is lent on, and the buffer with that part as it came back
abbrev pub rest_of : Lent → ℕ → List ℕ
rest_of out n = take (length out.after - n) (drop n out.after)

abbrev pub with_rest : Lent → ℕ → List ℕ → Lent
with_rest out n last = lent_as out.before (put_mid n (length out.after - n) out.after last)

-- what is written keeps the buffer's length
pub same_long : {bytes : List ℕ} {out : Lent} {n : ℕ} → WroteAtStart bytes out n → RoomFor bytes out.before → length out.after ≡ length out.before
same_long w room =
    rw w.cells (simp (length-append, length-drop) (omega arith))

-- a count is within the buffer
pub counted : {bytes : List ℕ} {out : Lent} {n : ℕ} → WroteAtStart bytes out n → RoomFor bytes out.before → n ≤ length out.before
counted w room = rw w.count room

-- what is unused of the buffer
pub unused : {bytes : List ℕ} {out : Lent} {n : ℕ} → WroteAtStart bytes out n → drop n out.after ≡ drop (length bytes) out.before
unused {bytes} {out} w = rw (w.count, w.cells) (drop_at bytes (drop (length bytes) out.before) (length bytes) refl)

module _ {done : List ℕ} {out : Lent} {n : ℕ} (w : WroteAtStart done out n) (room : RoomFor done out.before) where
  pub lent_part : rest_of out n ≡ drop (length done) out.before
  lent_part =
      rw (unused w) (take_all (length out.after - n) (drop (length done) out.before) (simp length-drop (omega (arith, w.count, same_long w room))))

  -- the part that is lent has room for what still fits the whole
  pub part_room : (cs : List ℕ) → RoomFor (done ++ cs) out.before → RoomFor cs (rest_of out n)
  part_room cs h = rw lent_part (simp length-drop (omega (arith, simp length-append at h)))

  pub wrote_then : (cs last : List ℕ) (k : ℕ) → WroteAtStart cs (lent_as (rest_of out n) last) k
      → WroteAtStart (done ++ cs) (with_rest out n last) (n + k)
  wrote_then cs last k v =
      let head : take (length done) out.after ≡ done = rw w.cells (take_at done (drop (length done) out.before) (length done) refl) in
      let none : drop (length out.after - length done) (drop (length done) out.after) ≡ [] = drop_of_length-le (drop (length done) out.after) {i = length out.after - length done} (simp length-drop (omega arith)) in
      let part : last ≡ cs ++ drop (length cs) (drop (length done) out.before) = rw lent_part at v.cells in
      let whole : put_mid n (length out.after - n) out.after last ≡ (done ++ cs) ++ drop (length (done ++ cs)) out.before = rw (w.count, head, none, part) (simp (append-nil, append_assoc, length-append, drop-drop)) in
      record { count = rw (w.count, v.count) (sym (length-append done cs)); cells = whole }

  -- one byte stored behind them
  pub wrote_more : (x : ℕ) → n < length out.before → WroteAtStart (done ++ x ∷ []) (lent_as out.before (set out.after n x)) (n + 1)
  wrote_more x h =
      let inside : length done < length out.before = omega (arith, w.count) in
      let next : drop (length done) out.before ≡ get_or out.before (length done) 0 ∷ drop (suc (length done)) out.before = drop-cons out.before (length done) 0 inside in
      let stored : set (done ++ get_or out.before (length done) 0 ∷ drop (suc (length done)) out.before) (length done) x ≡ done ++ x ∷ drop (suc (length done)) out.before = set_at done (get_or out.before (length done) 0) (drop (suc (length done)) out.before) x (length done) refl in
      let long : length (done ++ x ∷ []) ≡ suc (length done) = length-append done (x ∷ []) ∙ add-one (length done) in
      record {
        count = rw (w.count, long) (add-one (length done));
        cells = rw (w.cells, w.count, next, stored, long) (sym (append_snoc done x (drop (suc (length done)) out.before)));
      }
