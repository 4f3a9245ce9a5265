-- What a call of the bulletin end does to its macros and issues is one of a few changes, and the events that are seen of it tell which.
use Rattle.std.specs.Prelude.{Option, Some, None, Result, Ok, Err}
use mathlib.Core.Path.{◌≡◌, refl, sym, subst, ◌∙◌}
use mathlib.Core.Bool.{Bool, true, false, cond, and-false}
use mathlib.Core.List.{List, [], ◌∷◌}
use Prim.Native.Nat.{ℕ}
use lib.ListN.{set}
use lib.Dec.{eqb}
use Rattle.lists.specs.Choice.{is_same}
use Rattle.lists.proofs.Lengths.{either}
use Rattle.lists.proofs.Same.{same_itself}
use Rattle.codes.specs.Answers.{Guard, guarded, is_done}
use Rattle.codes.specs.Telnet.{RCTE, BM, DR}
use Rattle.codes.specs.Dispositions.{disposition_numbered}
use Rattle.codes.specs.declared.Code.{Code}
use Rattle.codes.specs.declared.Code.TheVariants.{NotCarried}
use Rattle.codes.specs.declared.Disposition.{Disposition}
use Rattle.codes.proofs.Entries.{found_cases}
use Rattle.codes.proofs.Guards.{Refusals, Judged, stopped, passed, judged}
use Rattle.wire.specs.Frames.{frame}
use Rattle.negotiation.specs.declared.End.{End}
use Rattle.negotiation.specs.declared.OptionState.{OptionState}
use Rattle.negotiation.specs.declared.Side.{Side}
use Rattle.negotiation.specs.declared.Side.TheVariants.{Echo, BulletinSga, Rcte, Macro, PrinterSga, Disposes, Uncarried}
use Rattle.negotiation.specs.declared.Move.{Move}
use Rattle.negotiation.specs.Table.{is_yes}
use Rattle.negotiation.specs.Carried.{reply_bytes, asked_side, asked_whose, asked_enable, asking_of, asked_by, disposition_in_force, heard_by}
use Rattle.reader.specs.declared.Item.{Item}
use Rattle.reader.specs.declared.Item.TheVariants.{Nothing, Data, Negotiated, BodyEnd, StrayCommand}
use Rattle.reader.specs.Reading.{ReaderState, gives, idle, read, by_option}
use Rattle.bodies.specs.declared.MacroReply.{MacroReply}
use Rattle.bodies.specs.declared.MacroReply.TheVariants.{Accept, Refuse, PleaseCancel}
use Rattle.bodies.specs.MacroBodies.{reply_body}
use Rattle.bodies.specs.ValueBodies.{value_body}
use Rattle.subnegotiation.specs.declared.Subject.{Subject}
use Rattle.subnegotiation.specs.Checks.{Checked, in_force, disposition_checked, option_checked, checked}
use Rattle.sent_macros.specs.Sending.{Definitions, no_definitions, sent_of, is_accepted, on_accept, on_refuse, defining, define_bytes}
use Rattle.issues.specs.declared.Issues.{Issues}
use Rattle.issues.specs.Issues.{with_present, keeping, forgetting}
use Rattle.bulletin.specs.State.{BulletinState, with_reader, bm_in_force, CallEffect, done}
use Rattle.bulletin.specs.State as B
use Rattle.bulletin.specs.Network.{data_read, side_state, side_moved, negotiation_read, macro_replied, reply_read, value_read, body_handled, body_read, item_read, network_read}
use Rattle.bulletin.specs.Calls.{network_call, ask_of, ask_call, suggest_call, order_call, define_call, use_call, item_sent, text_call, issue_call}
use Rattle.bulletin.specs.Session.{Call, network, ask, suggest, order, define, use_macro, text, issue, called}
use Rattle.bulletin.specs.EmptyTable.{EmptyWhileOff}
use Rattle.bulletin.proofs.EmptyTable.{empty_steps}
use Rattle.read_back.specs.History.{Event, issued, defined, accepted, refused, reply_events, reply_body_events, read_events, reader_behind, call_events, reader_after}

-- from a table and issues to others, with the events of it
pub data Change (t : Definitions) (i : Issues) : Definitions → Issues → List Event → Type 0 where
  keeps : Change t i t i []
  empties : Change t i no_definitions (forgetting i) []
  defines : (x : ℕ) (s : List ℕ) → Change t i (defining t x s) (keeping i x) (defined x s ∷ [])
  accepts : (x : ℕ) → Change t i (set t x (on_accept (sent_of t x))) i (accepted x ∷ [])
  refuses : (x : ℕ) → Change t i (set t x (on_refuse (sent_of t x))) i (refused x ∷ [])
  sets : (n : ℕ) → Change t i t (with_present i n) (issued n ∷ [])

abbrev Changed : BulletinState → BulletinState → List Event → Type 0
Changed s after es = Change s.table s.issues after.table after.issues es

-- a step: its change, and the reader behind it
abbrev StepSeen : BulletinState → List Event → ReaderState → BulletinState → Type 0
StepSeen s es r after = Changed s after es × (after.reader ≡ r)

-- what is seen of an answer: of one that is refused, nothing
abbrev pub seen_events : ReaderState → Call → CallEffect → List Event
seen_events r c a = cond (is_done a.code) (call_events r c a.effect.wire) []

abbrev pub seen_reader : ReaderState → Call → CallEffect → ReaderState
seen_reader r c a = cond (is_done a.code) (reader_after r c) r

pub record Seen (s : BulletinState) (c : Call) (a : CallEffect) : Type 0 where
  pub change : Change s.table s.issues a.effect.state.table a.effect.state.issues (seen_events s.reader c a)
  pub reader : a.effect.state.reader ≡ seen_reader s.reader c a

-- a side moves: leaving YES, BM's empties the table
side_seen : (s : BulletinState) (side : Side) (q : OptionState) → StepSeen s [] s.reader (side_state s side q)
side_seen s Macro q = (go (is_yes q), refl)
  where
    go : (yes : Bool) → Change s.table s.issues (cond yes s.table no_definitions) (cond yes s.issues (forgetting s.issues)) []
    go true = keeps
    go false = empties
side_seen s (Disposes d) q = (keeps, refl)
side_seen s Rcte q = (keeps, refl)
side_seen s Echo q = (keeps, refl)
side_seen s BulletinSga q = (keeps, refl)
side_seen s PrinterSga q = (keeps, refl)
side_seen s Uncarried q = (keeps, refl)

-- no bytes are no DEFINE
no_bytes : (x : ℕ) (t : List ℕ) → is_same [] (define_bytes x t) ≡ false
unfolding is_same define_bytes frame
no_bytes x t = refl

-- an answer about a macro: the bytes sent for a PLEASE CANCEL tell whether it was a definition
replied_change : (s : BulletinState) (r : MacroReply) → Changed s (macro_replied s r).state (reply_events r (macro_replied s r).wire)
replied_change s (Accept x) = accepts x
replied_change s (Refuse x) = refuses x
replied_change s (PleaseCancel x) = go (is_accepted (sent_of s.table x))
  where
    own : List ℕ
    own = define_bytes x (x ∷ [])

    go : (has : Bool) → Change s.table s.issues (cond has (defining s.table x (x ∷ [])) s.table) (cond has (keeping s.issues x) s.issues)
        (cond (is_same (cond has own []) own) (defined x (x ∷ []) ∷ []) [])
    go true = rw (same_itself own) (defines x (x ∷ []))
    go false = rw (no_bytes x (x ∷ [])) keeps

module _ (s : BulletinState) (empty : EmptyWhileOff s) where
  -- while BM is not in force the table is empty: an answer, which then is not looked at, would change nothing
  unheeded : bm_in_force s ≡ false → (r : MacroReply) → Changed s s (reply_events r [])
  unheeded off (Accept x) =
      subst (λ (t : Definitions). Change s.table s.issues t s.issues (accepted x ∷ []))
      (empty_steps.replies s (Accept x) empty off ∙ sym (empty off)) (accepts x)
  unheeded off (Refuse x) =
      subst (λ (t : Definitions). Change s.table s.issues t s.issues (refused x ∷ []))
      (empty_steps.replies s (Refuse x) empty off ∙ sym (empty off)) (refuses x)
  unheeded off (PleaseCancel x) = rw (no_bytes x (x ∷ [])) keeps

  reply_seen : (r : Option MacroReply) → StepSeen s (reply_body_events r (reply_read s r).wire) s.reader (reply_read s r).state
  reply_seen None = (keeps, refl)
  reply_seen (Some r) = (replied_change s r, refl)

  inactive_seen : bm_in_force s ≡ false → (r : Option MacroReply) → StepSeen s (reply_body_events r []) s.reader s
  inactive_seen off None = (keeps, refl)
  inactive_seen off (Some r) = (unheeded off r, refl)

  value_seen : (d : Disposition) (v : Option ℕ) → StepSeen s [] s.reader (value_read s d v).state
  value_seen d None = (keeps, refl)
  value_seen d (Some v) = (keeps, refl)

  macro_seen : (body : List ℕ) (on : Bool) → bm_in_force s ≡ on → let d = body_handled s body (in_force on Subject.Macro) in
      StepSeen s (reply_body_events (reply_body body) d.wire) s.reader d.state
  macro_seen body true e = reply_seen (reply_body body)
  macro_seen body false e = inactive_seen e (reply_body body)

  disposition_seen : (body : List ℕ) (option : ℕ) → StepSeen s [] s.reader (body_handled s body (disposition_checked s.sides option)).state
  disposition_seen body option =
      found_cases (λ (c : Checked). StepSeen s [] s.reader (body_handled s body c).state) ((keeps, refl))
      (λ d. either (λ (c : Checked). StepSeen s [] s.reader (body_handled s body c).state) (disposition_in_force s.sides d)
      (value_seen d (value_body d DR body)) ((keeps, refl)))
      (disposition_numbered option)

  option_seen : (body : List ℕ) (option : ℕ) (bm : Bool)
      → let d = body_handled s body (cond bm (in_force (bm_in_force s) Subject.Macro) (disposition_checked s.sides option)) in
      StepSeen s (cond bm (reply_body_events (reply_body body) d.wire) []) s.reader d.state
  option_seen body option true = macro_seen body (bm_in_force s) refl
  option_seen body option false = disposition_seen body option

  -- the bulletin end reads no body of RCTE
  body_seen : (marred : Bool) (body : List ℕ) → let d = body_read s marred body in
      StepSeen s (by_option marred body [] (λ option. cond (eqb option BM) (reply_body_events (reply_body body) d.wire) [])) s.reader d.state
  unfolding body_read checked option_checked by_option
  body_seen true body = (keeps, refl)
  body_seen false [] = (keeps, refl)
  body_seen false (option ∷ rest) = rw (and-false (eqb option RCTE)) (option_seen (option ∷ rest) option (eqb option BM))

item_seen : (s : BulletinState) → EmptyWhileOff s → (r : ReaderState) (i : Item) → let d = item_read (with_reader s r) i in
    StepSeen s (read_events (gives i r) d.wire) (reader_behind (gives i r)) d.state
unfolding data_read negotiation_read side_moved
item_seen s empty r Nothing = (keeps, refl)
item_seen s empty r (Data b) = (keeps, refl)
item_seen s empty r (Negotiated v option) =
    let t = heard_by End.Bulletin s.sides v option in
    side_seen (with_reader s r) t.side t.next
item_seen s empty r BodyEnd = body_seen (with_reader s idle) empty r.marred r.body
item_seen s empty r StrayCommand = (keeps, refl)

network_seen : (s : BulletinState) → EmptyWhileOff s → (b : ℕ) → let e = read s.reader b in let d = network_read s b in
    StepSeen s (read_events e d.wire) (reader_behind e) d.state
unfolding network_read
network_seen s empty b = let e = read s.reader b in item_seen s empty e.reader e.item

module _ (s : BulletinState) where
  done_seen : {c : Call} {d : B.Effect} → StepSeen s (call_events s.reader c d.wire) (reader_after s.reader c) d.state → Seen s c (done d)
  done_seen g = record { change = g.0; reader = g.1 }

  refused_seen : (c : Call) (k : Code) → is_done k ≡ false → Seen s c (B.refused s k)
  refused_seen c k e = record { change = rw e keeps; reader = rw e }

  guarded_seen : (c : Call) (gs : List Guard) (a : CallEffect) → Refusals gs → Seen s c a → Seen s c (guarded gs (B.refused s) a)
  guarded_seen c gs a r h = go (judged gs (B.refused s) a r)
    where
      go : {given : CallEffect} → Judged gs (B.refused s) a given → Seen s c given
      go (stopped k e is) = rw is (refused_seen c k e)
      go (passed n is) = rw is h

  asked_seen : (option way w : ℕ) → Seen s (ask option way w) (ask_of s option (asked_whose way) (asked_side End.Bulletin option way) (asked_enable way))
  unfolding side_moved
  asked_seen option way w = go (asking_of s.sides side (asked_enable way))
    where
      side : Side
      side = asked_side End.Bulletin option way

      go : (a : Result Move Code) → Seen s (ask option way w) (asked_by (B.refused s) (λ q r. done (side_moved s side q (reply_bytes (asked_whose way) r option))) a)
      go (Err k) = record { change = either (Changed s s) (is_done k) keeps keeps; reader = either (λ r. s.reader ≡ r) (is_done k) refl refl }
      go (Ok m) = done_seen (side_seen s side m.next)

  module _ (empty : EmptyWhileOff s) where
    pub call_seen : (c : Call) → Seen s c (called s c)
    unfolding called network_call ask_call suggest_call order_call define_call use_call text_call item_sent issue_call
    call_seen (network b h w) = guarded_seen (network b h w) _ _ (refl, tt) (done_seen (network_seen s empty b))
    call_seen (ask o y w) = guarded_seen (ask o y w) _ _ (refl, tt) (asked_seen o y w)
    call_seen (suggest o v w) =
        guarded_seen (suggest o v w) _ _ (refl, tt)
        (found_cases (Seen s (suggest o v w)) (refused_seen (suggest o v w) NotCarried refl)
        (λ d. guarded_seen (suggest o v w) _ _ (refl, (refl, (refl, tt))) (done_seen (keeps, refl))) (disposition_numbered o))
    call_seen (order k bc tc w) = guarded_seen (order k bc tc w) _ _ (refl, (refl, (refl, tt))) (done_seen (keeps, refl))
    call_seen (define x t w) = guarded_seen (define x t w) _ _ (refl, (refl, (refl, (refl, (refl, tt))))) (done_seen (defines x t, refl))
    call_seen (use_macro x w) = guarded_seen (use_macro x w) _ _ (refl, (refl, (refl, (refl, (refl, tt))))) (done_seen (keeps, refl))
    call_seen (text k w) = guarded_seen (text k w) _ _ (refl, (refl, (refl, tt))) (done_seen (keeps, refl))
    call_seen (issue n w) = guarded_seen (issue n w) _ _ (refl, tt) (done_seen (sets n, refl))
