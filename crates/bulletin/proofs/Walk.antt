-- Every call of the bulletin end is one of a few steps, or a refusal. What holds of each of these holds of every call.
use Rattle.std.specs.Prelude.{Option, Some, None, Result, Ok, Err}
use mathlib.Core.Path.{◌≡◌, refl}
use mathlib.Core.Bool.{Bool}
use mathlib.Core.Logic.{⊎_elim}
use mathlib.Core.List.Memᴰ
use mathlib.Core.List.{List, [], ◌∷◌, Memᴰ}
use Prim.Native.Nat.{ℕ}
use Rattle.lists.proofs.Lengths.{chosen}
use Rattle.codes.specs.Answers.{Guard, guarded}
use Rattle.codes.specs.Telnet.{DR, DS}
use Rattle.codes.specs.Dispositions.{disposition_numbered}
use Rattle.codes.specs.declared.Disposition.{Disposition}
use Rattle.codes.specs.declared.Note.{Note}
use Rattle.codes.specs.declared.Note.TheVariants.{Clear, Unreadable, OtherOption, Stray}
use Rattle.codes.specs.declared.Verb.{Verb}
use Rattle.codes.specs.declared.Whose.{Whose}
use Rattle.codes.proofs.Entries.{found_cases}
use Rattle.codes.proofs.Guards.{NoneHolds}
use Rattle.keys.specs.declared.Key.{Key}
use Rattle.codes.specs.declared.Code.{Code}
use Rattle.negotiation.specs.declared.Move.{Move}
use Rattle.negotiation.specs.declared.End.{End}
use Rattle.negotiation.specs.declared.OptionState.{OptionState}
use Rattle.negotiation.specs.declared.Reply.{Reply}
use Rattle.negotiation.specs.declared.Side.{Side}
use Rattle.negotiation.specs.Carried.{moved, reply_bytes, heard_by, asked_side, asked_whose, asked_enable, asking_of, asked_by}
use Rattle.negotiation.specs.Apart.{Reached}
use Rattle.negotiation.specs.Apart.Reached.{hears, asks}
use Rattle.reader.specs.declared.Item.{Item}
use Rattle.reader.specs.declared.Item.TheVariants.{Nothing, Data, Negotiated, BodyEnd, StrayCommand}
use Rattle.reader.specs.Reading.{ReaderState, idle, read}
use Rattle.bodies.specs.declared.MacroReply.{MacroReply}
use Rattle.bodies.specs.MacroBodies.{reply_body}
use Rattle.bodies.specs.ValueBodies.{value_body}
use Rattle.sent_macros.specs.Sending.{define_bytes}
use Rattle.issues.specs.Issues.{with_present}
use Rattle.disposition.specs.declared.Values.{Values}
use Rattle.disposition.specs.ByOption.{with_ds, values_of}
use Rattle.disposition.specs.Handled.{suggestion}
use Rattle.subnegotiation.specs.Checks.{Checked, checked}
use Rattle.subnegotiation.specs.declared.Subject.{Subject}
use Rattle.bulletin.specs.State.{BulletinState, with_reader, with_values, with_definition, with_issues, Effect, sends, nothing, notes, CallEffect, done, refused}
use Rattle.bulletin.specs.Network.{data_read, side_moved, negotiation_read, macro_replied, reply_read, value_read, body_handled, body_read, item_read, network_read}
use Rattle.bulletin.specs.Calls.{network_call, ask_of, ask_call, suggest_call, order_bytes, order_call, define_guards, define_call, use_call, item_sent, text_call, issue_call}
use Rattle.bulletin.specs.Session.{Call, network, ask, suggest, order, define, use_macro, text, issue, called, answers_from}

-- the steps, each from the state before it; a side moves by a negotiation received or an ask, and a byte moves the reader first
pub record EachStep (R : BulletinState → Effect → Type 0) : Type 0 where
  pub stays : (s : BulletinState) (n : Note) → R s (notes n s)
  pub reads : {s : BulletinState} {r : ReaderState} {e : Effect} → R (with_reader s r) e → R s e
  pub gives : (s : BulletinState) (b : ℕ) → R s (data_read s b)
  pub moves : (s : BulletinState) (side : Side) (q : OptionState) (whose : Whose) (r : Reply) (option : ℕ)
      → (Reached End.Bulletin s.sides → Reached End.Bulletin (moved s.sides side q)) → R s (side_moved s side q (reply_bytes whose r option))
  pub values : (s : BulletinState) (d : Disposition) (v : Values) → R s (nothing (with_values s d v))
  pub replies : (s : BulletinState) (r : MacroReply) → R s (macro_replied s r)
  pub suggests : (s : BulletinState) (d : Disposition) (v : ℕ) → R s (sends (suggestion d DS v) (with_values s d (with_ds (values_of s.values d) v)))
  pub orders : (s : BulletinState) (cmd breaks sent : ℕ) → R s (sends (order_bytes cmd breaks sent) s)
  pub defines : (s : BulletinState) (x : ℕ) (t : List ℕ) (w : ℕ) → NoneHolds (define_guards s x t w) → R s (sends (define_bytes x t) (with_definition s x t))
  pub uses : (s : BulletinState) (x : ℕ) → R s (sends (x ∷ []) s)
  pub items : (s : BulletinState) (k : Key) → R s (item_sent s k)
  pub issues : (s : BulletinState) (n : ℕ) → R s (nothing (with_issues s (with_present s.issues n)))

module _ {R : BulletinState → Effect → Type 0} (k : EachStep R) where
  module _ (s : BulletinState) where
    heard_holds : (v : Verb) (option : ℕ) → R s (negotiation_read s v option)
    unfolding negotiation_read
    heard_holds v option =
        let t = heard_by End.Bulletin s.sides v option in
        k.moves s t.side t.next t.whose t.reply option (λ r. hears r v option)

    reply_holds : (r : Option MacroReply) → R s (reply_read s r)
    reply_holds None = k.stays s Unreadable
    reply_holds (Some r) = k.replies s r

    value_holds : (d : Disposition) (v : Option ℕ) → R s (value_read s d v)
    value_holds d None = k.stays s Unreadable
    value_holds d (Some v) = k.values s d _

    handled_holds : (body : List ℕ) (c : Checked) → R s (body_handled s body c)
    handled_holds body (Err n) = k.stays s n
    handled_holds body (Ok Subject.Rcte) = k.stays s OtherOption
    handled_holds body (Ok (Subject.Disposes d)) = value_holds d (value_body d DR body)
    handled_holds body (Ok Subject.Macro) = reply_holds (reply_body body)

    body_holds : (marred : Bool) (body : List ℕ) → R s (body_read s marred body)
    unfolding body_read
    body_holds marred body = handled_holds body (checked End.Bulletin s.sides marred body)

    asked_holds : (option way : ℕ) → R s (ask_of s option (asked_whose way) (asked_side End.Bulletin option way) (asked_enable way)).effect
    asked_holds option way = go (asking_of s.sides side (asked_enable way)) refl
      where
        side : Side
        side = asked_side End.Bulletin option way

        go : (a : Result Move Code) → asking_of s.sides side (asked_enable way) ≡ a
            → R s (asked_by (refused s) (λ q r. done (side_moved s side q (reply_bytes (asked_whose way) r option))) a).effect
        go (Err c) e = k.stays s Clear
        go (Ok m) e = k.moves s side m.next _ m.reply option (λ reached. asks reached option way m.next m.reply e)

    -- a refusal does nothing
    guarded_holds : (gs : List Guard) (a : CallEffect) → (NoneHolds gs → R s a.effect) → R s (guarded gs (refused s) a).effect
    unfolding guarded
    guarded_holds [] a f = f tt
    guarded_holds (g ∷ gs) a f =
        chosen (λ (a : CallEffect). R s a.effect) g.holds (λ e. k.stays s Clear) (λ e. guarded_holds gs a (λ n. f (e, n)))

  item_holds : (s : BulletinState) (i : Item) → R s (item_read s i)
  item_holds s Nothing = k.stays s Clear
  item_holds s (Data b) = k.gives s b
  item_holds s (Negotiated v option) = heard_holds s v option
  item_holds s BodyEnd = k.reads (body_holds (with_reader s idle) s.reader.marred s.reader.body)
  item_holds s StrayCommand = k.stays s Stray

  pub network_holds : (s : BulletinState) (b : ℕ) → R s (network_read s b)
  unfolding network_read
  network_holds s b = let r = read s.reader b in k.reads (item_holds (with_reader s r.reader) r.item)

  pub call_holds : (s : BulletinState) (c : Call) → R s (called s c).effect
  unfolding called network_call ask_call suggest_call order_call define_call use_call text_call issue_call
  call_holds s (network b a w) = guarded_holds s _ _ (λ n. network_holds s b)
  call_holds s (ask o y w) = guarded_holds s _ _ (λ n. asked_holds s o y)
  call_holds s (suggest o v w) =
      guarded_holds s _ _
      (λ n. found_cases (λ (a : CallEffect). R s a.effect) (k.stays s Clear) (λ d. guarded_holds s _ _ (λ m. k.suggests s d v)) (disposition_numbered o))
  call_holds s (order c bc tc w) = guarded_holds s _ _ (λ n. k.orders s c bc tc)
  call_holds s (define x t w) = guarded_holds s _ _ (λ n. k.defines s x t w n)
  call_holds s (use_macro x w) = guarded_holds s _ _ (λ n. k.uses s x)
  call_holds s (text i w) = guarded_holds s _ _ (λ n. k.items s i)
  call_holds s (issue n w) = guarded_holds s _ _ (λ m. k.issues s n)

-- what each call keeps of a state, every answer to a list of calls leaves
pub answers_leave : (P : BulletinState → Type 0) → ((s : BulletinState) (c : Call) → P s → P (called s c).effect.state)
    → (s : BulletinState) (cs : List Call) → P s → (a : CallEffect) → Memᴰ a (answers_from s cs) → P a.effect.state
unfolding answers_from
answers_leave P keeps s [] h a m = absurd (Memᴰ.not-nil m)
answers_leave P keeps s (c ∷ cs) h a m =
    let next = keeps s c h in
    ⊎_elim
    (λ (e : a ≡ called s c). rw e next)
    (λ (r : Memᴰ a (answers_from (called s c).effect.state cs)). answers_leave P keeps (called s c).effect.state cs next a r)
    (Memᴰ.cases_cons m)
