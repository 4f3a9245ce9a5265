-- What plain bytes do: each is printed, and the state stays.
use mathlib.Core.Path.{◌≡◌, refl, sym, ap, ◌∙◌}
use mathlib.Core.Bool.{Bool, true, false, not, ◌||◌, false≢true, cond}
use mathlib.Core.List.{List, [], ◌∷◌, ◌++◌}
use Prim.Native.Nat.{ℕ, suc, ◌+◌, ◌≤◌, ◌<◌}
use native.Mathlib.Omega.{arith}
use lib.ListN.{length, take, drop, get_or, take-append-drop}
use lib.Seq.{drop-drop}
use Rattle.lists.proofs.Tables.{both_left, both_right}
use Rattle.lists.proofs.Fronts.{chosen_within, chosen_passes}
use Rattle.codes.specs.Telnet.{not_iac}
use Rattle.reader.specs.Reading.{is_between, is_data}
use Rattle.received_macros.specs.Refinement.{is_unmarked, is_unmarked_text}
use Rattle.received_macros.proofs.View.{unmarked_plain}
use Rattle.rcte.specs.Control.{holding}
use Rattle.printer.specs.declared.Printer.{Printer}
use Rattle.printer.specs.State.{PrinterState, Effect, with_rcte, rcte_in_force, bm_in_force, printing, followed}
use Rattle.printer.specs.Network.{after_data, data_read, byte_read, bytes_read, network_read}
use Rattle.printer.specs.Stretches.{is_settled, text_stretch, is_plain, data_stretch, is_plain_byte}
use Rattle.printer.specs.Refinement.{view_printer}
use Rattle.printer.proofs.Choosing.{data_byte, plain_read, off_read}

abbrev pub is_settled_in : PrinterState → Bool
is_settled_in s = is_settled s.sides s.reader.phase s.rcte.held

-- what is held already is held
held_still : (s : PrinterState) → s.rcte.held ≡ true → with_rcte s (holding s.rcte) ≡ s
held_still s h = ap (λ (x : Bool). with_rcte s (record { held = x; orders = s.rcte.orders; waiting = s.rcte.waiting; gathered = s.rcte.gathered })) (sym h)

pub settled_still : (s : PrinterState) → is_settled_in s ≡ true → after_data s ≡ s
settled_still s h = go (rcte_in_force s) s.rcte.held refl refl (both_right (is_between s.reader.phase) (s.rcte.held || not (rcte_in_force s)) h)
  where
    go : (r x : Bool) → rcte_in_force s ≡ r → s.rcte.held ≡ x → (x || not r) ≡ true → after_data s ≡ s
    go false x p q k = rw p
    go true true p q k = rw p (held_still s q)
    go true false p q k = absurd (false≢true k)

-- any byte but IAC, read as it stands
plain_byte : (s : PrinterState) → is_settled_in s ≡ true → (b : ℕ) → not_iac b ≡ true → byte_read s b ≡ printing (b ∷ []) s
unfolding data_read
plain_byte s h b t =
    let here = both_left (is_between s.reader.phase) (s.rcte.held || not (rcte_in_force s)) h in
    let is-data : is_data s.reader.phase b ≡ true = rw (t, here) in
    data_byte s b is-data ∙ ap (λ (x : PrinterState). printing (b ∷ []) x) (settled_still s h)

-- a list of them in front of others
plain_before : (s : PrinterState) (xs ys : List ℕ) → ((j : ℕ) → j < length xs → byte_read s (get_or xs j 0) ≡ printing (get_or xs j 0 ∷ []) s)
    → bytes_read s (xs ++ ys) ≡ followed (printing xs s) (bytes_read s ys)
unfolding bytes_read
plain_before s [] ys h = refl
plain_before s (x ∷ xs) ys h =
    rw (h 0 (omega arith)) (ap (λ (d : Effect). followed (printing (x ∷ []) s) d) (plain_before s xs ys (λ j lt. h (suc j) (omega arith))))

module _ (s : PrinterState) (text : List ℕ) (i n : ℕ) (e : n ≡ text_stretch s.sides s.reader.phase s.rcte.held (drop i text)) where
  pub text_within : n ≤ length (drop i text)
  unfolding text_stretch
  text_within = chosen_within (is_settled_in s) not_iac (drop i text) n e

  plain_each : (j : ℕ) → j < length (take n (drop i text)) → byte_read s (get_or (take n (drop i text)) j 0) ≡ printing (get_or (take n (drop i text)) j 0 ∷ []) s
  unfolding text_stretch
  plain_each j lt =
      let c = chosen_passes (is_settled_in s) not_iac (drop i text) n e j lt in
      plain_byte s c.0 (get_or (take n (drop i text)) j 0) c.1

  -- a plain stretch of a macro's text, and then the rest of it
  pub text_stretch_lem : bytes_read s (drop i text) ≡ followed (printing (take n (drop i text)) s) (bytes_read s (drop (i + n) text))
  text_stretch_lem =
      let whole : take n (drop i text) ++ drop (i + n) text ≡ drop i text = rw (← drop-drop n i text) (take-append-drop n (drop i text)) in
      rw whole at (plain_before s (take n (drop i text)) (drop (i + n) text) plain_each)

-- a byte that arrives, BM in force or not
arrives_plain : (t : Printer) → is_settled_in (view_printer t) ≡ true → (b : ℕ) → is_plain t.sides t.table.marks b ≡ true
    → network_read (view_printer t) b ≡ printing (b ∷ []) (view_printer t)
arrives_plain t h b p = go (bm_in_force (view_printer t)) refl p
  where
    go : (m : Bool) → bm_in_force (view_printer t) ≡ m → cond m (is_unmarked_text t.table.marks) not_iac b ≡ true → network_read (view_printer t) b ≡ printing (b ∷ []) (view_printer t)
    go true on q =
        plain_read (view_printer t) b (unmarked_plain t.table b (both_right (not_iac b) (is_unmarked t.table.marks b) q))
        ∙ plain_byte (view_printer t) h b (both_left (not_iac b) (is_unmarked t.table.marks b) q)
    go false off q = off_read (view_printer t) b off ∙ plain_byte (view_printer t) h b q

-- what the code finds plain is so: a byte by itself, and a stretch
pub byte_plain : (t : Printer) (b : ℕ) → is_plain_byte t.sides t.reader.phase t.rcte.held t.table.marks b ≡ true
    → network_read (view_printer t) b ≡ printing (b ∷ []) (view_printer t)
byte_plain t b h =
    let settled = is_settled_in (view_printer t) in
    let passes = is_plain t.sides t.table.marks b in
    arrives_plain t (both_left settled passes h) b (both_right settled passes h)

module _ (t : Printer) (bs : List ℕ) (n : ℕ) (e : n ≡ data_stretch t.sides t.reader.phase t.rcte.held t.table.marks bs) where
  pub data_within : n ≤ length bs
  unfolding data_stretch
  data_within = chosen_within (is_settled_in (view_printer t)) (is_plain t.sides t.table.marks) bs n e

  pub data_plain : (j : ℕ) → j < length (take n bs) → network_read (view_printer t) (get_or (take n bs) j 0) ≡ printing (get_or (take n bs) j 0 ∷ []) (view_printer t)
  unfolding data_stretch
  data_plain j lt =
      let c = chosen_passes (is_settled_in (view_printer t)) (is_plain t.sides t.table.marks) bs n e j lt in
      arrives_plain t c.0 (get_or (take n bs) j 0) c.1
