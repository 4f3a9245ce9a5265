-- How the printer end reads bytes of text by its network calls: bare, doubled, as LITERAL, or a macro's byte. No other
-- law of this crate looks inside the printer end's rules of a network byte.
use mathlib.Core.Path.{◌≡◌, refl, ◌∙◌}
use mathlib.Core.Bool.{Bool, true, false, cond}
use mathlib.Core.List.{List, [], ◌∷◌, ◌++◌, flat_map}
use Prim.Native.Nat.{ℕ, ◌<◌}
use native.Mathlib.Omega.{arith}
use lib.ListN.{length}
use lib.Dec.{eqb, leb, ltb, lit<}
use borrow.Author.Tests.{eqb-true, leb-true, ne_eqb}
use Rattle.lists.proofs.Tables.{both_right}
use Rattle.codes.specs.Answers.{guarded}
use Rattle.codes.specs.Telnet.{IAC, SB, SE, BM, LITERAL, plain_command}
use Rattle.wire.specs.Frames.{coded, frame, literal, command}
use Rattle.reader.specs.declared.Phase.{Phase}
use Rattle.reader.specs.declared.Phase.TheVariants.{Between, AfterIac, InBody, InBodyAfterIac}
use Rattle.reader.specs.Reading.{ReaderState, in_phase, is_between, read, command_read, body_command_read, keeping, by_option, body_room, idle}
use Rattle.subnegotiation.specs.Checks.{option_checked, checked}
use Rattle.bodies.specs.MacroBodies.{macro_body}
use Rattle.received_macros.specs.Texts.{plain, entry_of, text}
use Rattle.sent_macros.specs.Sending.{stored}
use Rattle.printer.specs.State.{PrinterState, Effect, nothing, with_reader, rcte_in_force, bm_in_force}
use Rattle.printer.specs.Network.{network_read, byte_read, bytes_read, data_read, body_read}
use Rattle.printer.specs.Calls.{network_call}
use Rattle.read_back.proofs.Steps.{reads, Reads, steps, silent, last, all_read, none_read}
use Rattle.printer.proofs.Choosing.{plain_read, off_read, inside_read}

pub reads_network : (p : PrinterState) (x : ℕ) → reads p x ≡ network_read p x
unfolding network_call guarded
reads_network p x = refl

bytes_read_steps : (p : PrinterState) (xs : List ℕ) → bytes_read p xs ≡ steps byte_read p xs
unfolding bytes_read steps
bytes_read_steps p [] = refl
bytes_read_steps p (x ∷ xs) = rw (bytes_read_steps (byte_read p x).state xs)

cond_same : {X : Type 0} (t : Bool) (x : X) → cond t x x ≡ x
cond_same true x = refl
cond_same false x = refl

-- a part of the state that is picked
part : {Y : Type 0} (f : PrinterState → Y) (t : Bool) (x y : PrinterState) → f (cond t x y) ≡ cond t (f x) (f y)
part f true x y = refl
part f false x y = refl

-- data is printed and holds; the reader's kept bytes are of no account between commands
data_read_lem : (p : PrinterState) (r : ReaderState) (b : ℕ) → r.phase ≡ Between → (p.reader ≡ idle → r ≡ idle)
    → Reads (b ∷ []) p (data_read (with_reader p r) b)
unfolding data_read
data_read_lem p r b h still = record {
  note = refl;
  paper = refl;
  wire = refl;
  taken = refl;
  state = record {
    sides = part (λ s. s.sides) (rcte_in_force p) _ _ ∙ cond_same (rcte_in_force p) _;
    between = part (λ s. s.reader.phase) (rcte_in_force p) _ _ ∙ (cond_same (rcte_in_force p) _ ∙ h);
    reader = λ (i : p.reader ≡ idle). part (λ s. s.reader) (rcte_in_force p) _ _ ∙ (cond_same (rcte_in_force p) _ ∙ still i);
    table = part (λ s. s.table) (rcte_in_force p) _ _ ∙ cond_same (rcte_in_force p) _;
    rcte = part (λ s. s.rcte) (rcte_in_force p) _ _;
    values = part (λ s. s.values) (rcte_in_force p) _ _ ∙ cond_same (rcte_in_force p) _;
  };
}

abbrev pub Ready : PrinterState → Type 0
Ready p = p.reader.phase ≡ Between

-- the byte is read as it stands, no text put for it
abbrev pub Stands : PrinterState → ℕ → Type 0
Stands p x = reads p x ≡ byte_read p x

pub off_stands : (p : PrinterState) (x : ℕ) → bm_in_force p ≡ false → Stands p x
off_stands p x e = reads_network p x ∙ off_read p x e

pub plain_stands : (p : PrinterState) (x : ℕ) → entry_of p.table x ≡ plain → Stands p x
plain_stands p x e = reads_network p x ∙ plain_read p x e

inside_stands : (p : PrinterState) (x : ℕ) → is_between p.reader.phase ≡ false → Stands p x
inside_stands p x e = reads_network p x ∙ inside_read p x e

abbrev at : PrinterState → Phase → PrinterState
at p q = with_reader p (in_phase p.reader q)

idle_at : (p : PrinterState) → p.reader ≡ idle → in_phase p.reader Between ≡ idle
idle_at p i = rw i

-- a byte that is no IAC, read as it stands
byte_data : (p : PrinterState) (b : ℕ) → Ready p → eqb b IAC ≡ false → byte_read p b ≡ data_read p b
unfolding byte_read read
byte_data p b h e = rw (h, e)

byte_iac : (p : PrinterState) → Ready p → byte_read p IAC ≡ nothing (at p AfterIac)
unfolding byte_read read
byte_iac p h = rw h

byte_iac_iac : (p : PrinterState) → byte_read (at p AfterIac) IAC ≡ data_read (at p Between) IAC
unfolding byte_read read command_read
byte_iac_iac p = refl

-- a plain command is none of the bytes from 250 on
apart : (c n : ℕ) → plain_command c ≡ true → 249 < n → eqb c n ≡ false
apart c n h k = ne_eqb c n (λ (e : c ≡ n). omega (arith, leb-true c 249 (both_right (leb 241 c) (leb c 249) h)))

byte_command : (p : PrinterState) (c : ℕ) → plain_command c ≡ true → byte_read (at p AfterIac) c ≡ nothing (at p Between)
unfolding byte_read read command_read
byte_command p c h =
    let past : (n : ℕ) → 249 < n → eqb c n ≡ false = λ n k. apart c n h k in
    rw (past 255 (lit< tt), past 250 (lit< tt), past 251 (lit< tt), past 252 (lit< tt), past 253 (lit< tt), past 254 (lit< tt), h)

-- doubled bytes, read by a rule that takes this one as it stands and replaces nothing inside a command
module _ (f : PrinterState → ℕ → Effect)
    (within : (q : PrinterState) (x : ℕ) → is_between q.reader.phase ≡ false → f q x ≡ byte_read q x) where
  iac_read : (p : PrinterState) → Ready p → f p IAC ≡ byte_read p IAC → Reads (IAC ∷ []) p (steps f p (IAC ∷ IAC ∷ []))
  iac_read p h e =
      rw (
        silent f p (at p AfterIac) IAC (IAC ∷ []) (e ∙ byte_iac p h),
        last f (at p AfterIac) IAC,
        within (at p AfterIac) IAC refl,
        byte_iac_iac p,
      )
      (data_read_lem p (in_phase p.reader Between) IAC refl (idle_at p))

  doubled_read : (p : PrinterState) (b : ℕ) → Ready p → f p b ≡ byte_read p b → Reads (b ∷ []) p (steps f p (coded b))
  unfolding coded
  doubled_read p b h e = go (eqb b IAC) refl
    where
      go : (t : Bool) → eqb b IAC ≡ t → Reads (b ∷ []) p (steps f p (cond t (IAC ∷ IAC ∷ []) (b ∷ [])))
      go true k = let q = eqb-true b IAC k in rw q (iac_read p h (rw q at e))
      go false k = rw (last f p b, e, byte_data p b h k) (data_read_lem p p.reader b h (λ i. i))

-- a byte that stands, 255 doubled
pub coded_read : (p : PrinterState) (b : ℕ) → Ready p → Stands p b → Reads (b ∷ []) p (steps reads p (coded b))
coded_read p b h e = doubled_read reads inside_stands p b h e

-- IAC and a command
pub command_read_lem : (p : PrinterState) (c : ℕ) → Ready p → Stands p IAC → plain_command c ≡ true
    → Reads [] p (steps reads p (command c))
command_read_lem p c h e k =
    rw (
      silent reads p (at p AfterIac) IAC (c ∷ []) (e ∙ byte_iac p h),
      last reads (at p AfterIac) c,
      inside_stands (at p AfterIac) c refl,
      byte_command p c k,
    )
    (none_read p (in_phase p.reader Between) refl (idle_at p))

-- LITERAL, with its body's bytes kept one by one
literal_bytes : (x : ℕ) → eqb x IAC ≡ false → literal x ≡ IAC ∷ SB ∷ BM ∷ LITERAL ∷ x ∷ IAC ∷ SE ∷ []
unfolding frame flat_map coded
literal_bytes x k = rw k

abbrev kept : PrinterState → List ℕ → Phase → PrinterState
kept p bs q = with_reader p (record { phase = q; marred = false; body = bs })

kept_sb : (p : PrinterState) → byte_read (at p AfterIac) SB ≡ nothing (kept p [] InBody)
unfolding byte_read read command_read
kept_sb p = refl

kept_byte : (p : PrinterState) (bs : List ℕ) (b : ℕ) → eqb b IAC ≡ false → ltb (length bs) body_room ≡ true
    → byte_read (kept p bs InBody) b ≡ nothing (kept p (bs ++ b ∷ []) InBody)
unfolding byte_read read keeping
kept_byte p bs b k l = rw (k, l)

kept_iac : (p : PrinterState) (bs : List ℕ) → byte_read (kept p bs InBody) IAC ≡ nothing (kept p bs InBodyAfterIac)
unfolding byte_read read
kept_iac p bs = refl

kept_se : (p : PrinterState) (x : ℕ) → bm_in_force p ≡ true → eqb x IAC ≡ false
    → byte_read (kept p (BM ∷ LITERAL ∷ x ∷ []) InBodyAfterIac) SE ≡ data_read (with_reader p idle) x
unfolding byte_read read body_command_read body_read checked by_option option_checked macro_body
kept_se p x m k = rw (m, k)

-- a byte inside a command that completes nothing
inner : (p q : PrinterState) (x : ℕ) (xs : List ℕ) → is_between p.reader.phase ≡ false → byte_read p x ≡ nothing q
    → steps reads p (x ∷ xs) ≡ steps reads q xs
inner p q x xs h e = silent reads p q x xs (inside_stands p x h ∙ e)

pub literal_read : (p : PrinterState) (x : ℕ) → Ready p → Stands p IAC → bm_in_force p ≡ true → eqb x IAC ≡ false
    → Reads (x ∷ []) p (steps reads p (literal x))
literal_read p x h e m k =
    let lit = BM ∷ LITERAL ∷ [] in
    let all = BM ∷ LITERAL ∷ x ∷ [] in
    rw (
      literal_bytes x k,
      silent reads p (at p AfterIac) IAC _ (e ∙ byte_iac p h),
      inner (at p AfterIac) (kept p [] InBody) SB _ refl (kept_sb p),
      inner (kept p [] InBody) (kept p (BM ∷ []) InBody) BM _ refl (kept_byte p [] BM refl refl),
      inner (kept p (BM ∷ []) InBody) (kept p lit InBody) LITERAL _ refl (kept_byte p (BM ∷ []) LITERAL refl refl),
      inner (kept p lit InBody) (kept p all InBody) x _ refl (kept_byte p lit x k refl),
      inner (kept p all InBody) (kept p all InBodyAfterIac) IAC _ refl (kept_iac p all),
      last reads (kept p all InBodyAfterIac) SE,
      inside_stands (kept p all InBodyAfterIac) SE refl,
      kept_se p x m k,
    )
    (data_read_lem p idle x refl (λ i. refl))

-- with BM in force, between commands, a defined byte is replaced
replaced : (p : PrinterState) (b : ℕ) (t : List ℕ) → bm_in_force p ≡ true → Ready p → entry_of p.table b ≡ text t
    → network_read p b ≡ bytes_read p t
unfolding network_read
replaced p b t m h e = rw (m, h, e)

-- a macro's byte is read as the text whose stored form it has
pub macro_read_lem : (p : PrinterState) (x : ℕ) (t : List ℕ) → bm_in_force p ≡ true → Ready p → entry_of p.table x ≡ text (stored t)
    → Reads t p (steps reads p (x ∷ []))
macro_read_lem p x t m h e =
    rw (last reads p x, reads_network p x, replaced p x (stored t) m h e, bytes_read_steps p (stored t))
    (all_read byte_read coded Ready (λ q r. r) (λ y q s r k. r.between)
    (λ q r b. doubled_read byte_read (λ s y k. refl) q b r refl) t p h)
