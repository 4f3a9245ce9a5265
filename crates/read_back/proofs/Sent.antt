-- Text items and uses of macros: what the bulletin end answers to them, and that their bytes are read as their data.
use mathlib.Core.Path.{◌≡◌, refl, sym, ◌∙◌}
use mathlib.Core.Bool.{Bool, true, false, not, ◌&&◌, false≢true}
use mathlib.Core.List.{List, [], ◌∷◌, flat_map}
use Prim.Native.Nat.{ℕ}
use lib.Dec.{ltb, leb, eqb}
use borrow.Author.Tests.{leb-true, ltb-false, le-ltb, le-leb, not-true, not-false}
use Rattle.lists.proofs.Lengths.{chosen}
use Rattle.lists.proofs.Tables.{both_left, both_right}
use Rattle.codes.specs.Answers.{Guard, guarded, wire_room}
use Rattle.codes.specs.Telnet.{plain_command}
use Rattle.keys.specs.declared.Key.{Key}
use Rattle.keys.specs.declared.Key.TheVariants.{Char, Line, Command}
use Rattle.keys.specs.Keys.{bad_command}
use Rattle.sent_macros.specs.Sending.{Sent, free, pending, pending_free, accepted, refused, sent_of, is_accepted, accepted_text}
use Rattle.issues.specs.Issues.{kept_of}
use Rattle.disposition.specs.ByOption.{is_waiting}
use Rattle.disposition.specs.ItemData.{item_data}
use Rattle.printer.specs.State as P
use Rattle.bulletin.specs.State as B
use Rattle.bulletin.specs.Calls.{text_call, text_data, use_call, use_data, item_sent}
use Rattle.bulletin.specs.Session as BS
use Rattle.read_back.specs.Ends.{bulletin_after}
use Rattle.read_back.specs.TextSent.{Sending, item, macro_use, as_call, is_item, is_allowed, Allowed, data_of, sent_data, answer, answers, all_data, all_wire}
use Rattle.read_back.specs.ReadBack.{Agreed, IacFree, OnlySends}
use Rattle.codes.proofs.Guards.{Judged, stopped, passed, judged, NoneHolds}
use Rattle.read_back.proofs.Steps.{reads, Reads, steps, steps_append, none_read, then_read}
use Rattle.read_back.proofs.Bytes.{command_read_lem, macro_read_lem}
use Rattle.read_back.proofs.Agreement.{SameTable, agreed_after, iac_stands, text_read_lem}
use Rattle.read_back.proofs.Sessions.{called_free}

-- what an allowed one does
abbrev does : B.BulletinState → Sending → B.Effect
does b (item k w) = item_sent b k
does b (macro_use x w) = B.sends (x ∷ []) b

good_item : (k : Key) → is_item k ≡ true → bad_command k ≡ false
good_item (Char c) h = refl
good_item Line h = refl
good_item (Command c) h = rw h

not_bad : (k : Key) → bad_command k ≡ false → is_item k ≡ true
not_bad (Char c) h = refl
not_bad Line h = refl
not_bad (Command c) h = not-false (plain_command c) h

pub accepted_is : (e : Sent) → is_accepted e ≡ true → e ≡ accepted (accepted_text e)
accepted_is free h = absurd (false≢true h)
accepted_is (pending t) h = absurd (false≢true h)
accepted_is pending_free h = absurd (false≢true h)
accepted_is (accepted t) h = refl
accepted_is refused h = absurd (false≢true h)

-- what an item that is allowed meets, and that this is enough
record ItemAllowed (b : B.BulletinState) (k : Key) (w : ℕ) : Type 0 where
  room : ltb w wire_room ≡ false
  good : bad_command k ≡ false
  ready : is_waiting b.waits ≡ false

record UseAllowed (b : B.BulletinState) (x w : ℕ) : Type 0 where
  room : ltb w wire_room ≡ false
  on : B.bm_in_force b ≡ true
  ready : is_waiting b.waits ≡ false
  given : is_accepted (sent_of b.table x) ≡ true
  current : eqb (kept_of b.issues x) b.issues.present ≡ true

module _ (b : B.BulletinState) where
  item_allowed : (k : Key) (w : ℕ) → Allowed b (item k w) → ItemAllowed b k w
  item_allowed k w h =
      let front = leb wire_room w && is_item k in
      let both = both_left front (not (is_waiting b.waits)) h in
      record {
        room = le-ltb w wire_room (leb-true wire_room w (both_left (leb wire_room w) (is_item k) both));
        good = good_item k (both_right (leb wire_room w) (is_item k) both);
        ready = not-true (is_waiting b.waits) (both_right front (not (is_waiting b.waits)) h);
      }

  use_allowed : (x w : ℕ) → Allowed b (macro_use x w) → UseAllowed b x w
  use_allowed x w h =
      let ready = not (is_waiting b.waits) in
      let has = is_accepted (sent_of b.table x) in
      let now = eqb (kept_of b.issues x) b.issues.present in
      let two = leb wire_room w && B.bm_in_force b in
      let four = both_left (two && ready && has) now h in
      let three = both_left (two && ready) has four in
      let front = both_left two ready three in
      record {
        room = le-ltb w wire_room (leb-true wire_room w (both_left (leb wire_room w) (B.bm_in_force b) front));
        on = both_right (leb wire_room w) (B.bm_in_force b) front;
        ready = not-true (is_waiting b.waits) (both_right two ready three);
        given = both_right (two && ready) has four;
        current = both_right (two && ready && has) now h;
      }

  -- an allowed one is not refused
  item_done : (k : Key) (w : ℕ) → ItemAllowed b k w → text_call b k w ≡ B.done (item_sent b k)
  unfolding text_call guarded
  item_done k w h = rw (h.room, h.good, h.ready)

  use_done : (x w : ℕ) → UseAllowed b x w → use_call b x w ≡ B.done (B.sends (x ∷ []) b)
  unfolding use_call guarded
  use_done x w h = rw (h.room, h.on, h.ready, h.given, h.current)

  pub allowed_done : (c : Sending) → Allowed b c → answer b c ≡ B.done (does b c)
  unfolding BS.called
  allowed_done (item k w) h = item_done k w (item_allowed k w h)
  allowed_done (macro_use x w) h = use_done x w (use_allowed x w h)

  -- and only an allowed one is not refused: a refusal sends nothing and leaves the state
  stopped_effect : (gs : List Guard) (d : B.Effect) (given : B.CallEffect) (allowed : Bool) → Judged gs (B.refused b) (B.done d) given
      → (NoneHolds gs → allowed ≡ true) → allowed ≡ false → given.effect ≡ B.nothing b
  stopped_effect gs d given allowed (stopped c n e) f off = rw e
  stopped_effect gs d given allowed (passed h e) f off = absurd (false≢true (sym off ∙ f h))

  pub refused_effect : (c : Sending) → is_allowed b c ≡ false → (answer b c).effect ≡ B.nothing b
  unfolding BS.called text_call use_call
  refused_effect (item k w) off =
      stopped_effect _ (item_sent b k) (text_call b k w) (is_allowed b (item k w))
      (judged _ (B.refused b) (B.done (item_sent b k)) (refl, (refl, (refl, tt))))
      (λ h. rw (le-leb wire_room w (ltb-false w wire_room h.0), not_bad k h.1.0, h.1.1.0)) off
  refused_effect (macro_use x w) off =
      stopped_effect _ (B.sends (x ∷ []) b) (use_call b x w) (is_allowed b (macro_use x w))
      (judged _ (B.refused b) (B.done (B.sends (x ∷ []) b)) (refl, (refl, (refl, (refl, (refl, tt))))))
      (λ h. rw (
        le-leb wire_room w (ltb-false w wire_room h.0),
        not-false (B.bm_in_force b) h.1.0,
        h.1.1.0,
        not-false (is_accepted (sent_of b.table x)) h.1.1.1.0,
        not-false (eqb (kept_of b.issues x) b.issues.present) h.1.1.1.1.0,
      )) off

  module _ (iac : IacFree b) (p : P.PrinterState) (a : Agreed b p) where
    item_read_lem : (k : Key) → bad_command k ≡ false → Reads (text_data b k) p (steps reads p (item_sent b k).wire)
    unfolding text_data item_sent item_data
    item_read_lem (Char c) h = text_read_lem b iac p a (item_data (B.handlings_now b) (Char c))
    item_read_lem Line h = text_read_lem b iac p a (item_data (B.handlings_now b) Line)
    item_read_lem (Command c) h = command_read_lem p c a.between (iac_stands b iac p a) (not-false (plain_command c) h)

    use_read : (x w : ℕ) → UseAllowed b x w → Reads (use_data b x) p (steps reads p (x ∷ []))
    unfolding use_data
    use_read x w h =
        macro_read_lem p x (accepted_text (sent_of b.table x)) (a.macros h.on) a.between
        (a.same h.on x (accepted_text (sent_of b.table x)) (accepted_is (sent_of b.table x) h.given))

    does_read : (c : Sending) → Allowed b c → Reads (data_of b c) p (steps reads p (does b c).wire)
    does_read (item k w) h = item_read_lem k (item_allowed k w h).good
    does_read (macro_use x w) h = use_read x w (use_allowed x w h)

    -- one of them, allowed or not
    pub sent_read : (c : Sending) → Reads (sent_data b c) p (steps reads p (answer b c).effect.wire)
    unfolding steps
    sent_read c =
        chosen (λ bytes. Reads bytes p (steps reads p (answer b c).effect.wire)) (is_allowed b c)
        (λ h. rw (allowed_done c h) (does_read c h))
        (λ h. rw (refused_effect c h) (none_read p p.reader a.between (λ i. i)))

pub does_sends : (b : B.BulletinState) (c : Sending) → OnlySends (B.done (does b c))
unfolding item_sent
does_sends b (item k w) = record { code = refl; note = refl; host = refl }
does_sends b (macro_use x w) = record { code = refl; note = refl; host = refl }

-- an item may start a wait; sides and table stay
does_same : (b : B.BulletinState) (c : Sending) → SameTable b (does b c).state
unfolding item_sent
does_same b (item k w) = record { sides = refl; table = refl }
does_same b (macro_use x w) = record { sides = refl; table = refl }

pub sent_same : (b : B.BulletinState) (c : Sending) → SameTable b (answer b c).effect.state
sent_same b c = go (is_allowed b c) refl
  where
    go : (t : Bool) → is_allowed b c ≡ t → SameTable b (answer b c).effect.state
    go true h = rw (allowed_done b c h) (does_same b c)
    go false h = rw (refused_effect b c h) (record { sides = refl; table = refl })

pub all_same : (b : B.BulletinState) (cs : List Sending) → SameTable b (bulletin_after b (answers b cs))
unfolding BS.answers_from bulletin_after
all_same b [] = record { sides = refl; table = refl }
all_same b (c ∷ cs) =
    let s = sent_same b c in
    let t = all_same (answer b c).effect.state cs in
    record { sides = t.sides ∙ s.sides; table = t.table ∙ s.table }

-- a list of them
pub all_sent : (b : B.BulletinState) → IacFree b → (p : P.PrinterState) → Agreed b p → (cs : List Sending)
    → Reads (all_data b cs) p (steps reads p (all_wire b cs))
unfolding BS.answers_from flat_map all_data steps
all_sent b iac p a [] = none_read p p.reader a.between (λ i. i)
all_sent b iac p a (c ∷ cs) =
    let d = (answer b c).effect in
    let r = sent_read b iac p a c in
    let q = (steps reads p d.wire).state in
    rw (steps_append reads d.wire (all_wire d.state cs) p)
    (then_read r (all_sent d.state (called_free b (as_call c) iac) q (agreed_after (sent_same b c) r.state a) cs))
