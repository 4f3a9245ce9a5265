-- The ends after a definition, by computation.
use mathlib.Core.Path.{◌≡◌, refl, sym, ◌∙◌}
use mathlib.Core.Bool.{true, false, false≢true}
use mathlib.Core.List.{List, [], ◌∷◌, ◌++◌}
use Prim.Native.Nat.{ℕ}
use lib.ListN.{set}
use lib.Dec.{lit<, lit≤}
use Rattle.lists.proofs.Uniform.{get_d_uniform}
use Rattle.reader.specs.declared.Phase.TheVariants.{Between}
use Rattle.received_macros.specs.Texts.{plain, text, no_macros}
use Rattle.sent_macros.specs.Sending.{accepted, no_definitions, stored}
use Rattle.printer.specs.State as P
use Rattle.bulletin.specs.State as B
use Rattle.read_back.specs.Ends.{printer_paper, printer_wire, printer_after, reached, NetworkCalls, none, byte}
use Rattle.read_back.specs.Defined as D
use Rattle.read_back.proofs.Opened.{both_rules}
use Rattle.read_back.proofs.Sessions.{iac_stays_free}
use Rattle.read_back.proofs.Tables.{same_text, no_text, free_alone}
use Rattle.read_back.proofs.ReadBack.{all_read_back, demanded_agree}

abbrev after : P.PrinterState
after = printer_after P.fresh D.read

wire_is : printer_wire D.read ≡ D.agrees ++ D.accepts
unfolding both_rules
wire_is = refl

paper_is : printer_paper D.read ≡ []
unfolding both_rules
paper_is = refl

here_on : B.bm_in_force (reached D.calls) ≡ true
unfolding both_rules
here_on = refl

there_on : P.bm_in_force after ≡ true
unfolding both_rules
there_on = refl

between_there : after.reader.phase ≡ Between
unfolding both_rules
between_there = refl

here_is : (reached D.calls).table ≡ set no_definitions 128 (accepted D.macro_text)
unfolding both_rules
here_is = refl

there_is : after.table ≡ set no_macros 128 (text (stored D.macro_text))
unfolding both_rules
there_is = refl

stored_as : (t : List ℕ) → accepted D.macro_text ≡ accepted t → text (stored D.macro_text) ≡ text (stored t)
stored_as t h = let e : D.macro_text ≡ t = cc in rw e

pub defined_agree : D.DefinedAgree
defined_agree = record {
  in_force = here_on;
  is_accepted = rw here_is;
  wire = wire_is;
  paper = paper_is;
  demanded = record {
    macros = here_on ∙ sym there_on;
    between_commands = between_there;
    same = rw (here_is, there_is) (same_text 128 (lit< tt) (accepted D.macro_text) (text (stored D.macro_text)) stored_as);
    none = rw (here_is, there_is) (no_text 128 (lit< tt) (accepted D.macro_text) (text (stored D.macro_text)) (λ h. absurd (free_alone D.macro_text (sym h))));
  };
}

-- the least buffers are enough
pub with_least : (bytes : List ℕ) → NetworkCalls bytes (D.to_printer bytes)
with_least [] = none
with_least (x ∷ bytes) = byte (lit≤ tt) (lit≤ tt) (with_least bytes)

pub defined_read_back : D.DefinedReadBack
unfolding both_rules
defined_read_back = record {
  defining = refl;
  wire = refl;
  data_sent = refl;
  paper = refl;
  back =
      all_read_back (reached D.calls) after (iac_stays_free D.calls) (demanded_agree (reached D.calls) after defined_agree.demanded)
      D.sendings (D.to_printer D.sent_wire) (with_least D.sent_wire);
}

abbrev asked : P.PrinterState
asked = printer_after P.fresh (D.first_reads (D.wire_of D.asks))

not_yet : B.bm_in_force (reached D.asks) ≡ false
unfolding both_rules
not_yet = refl

asked_on : P.bm_in_force asked ≡ true
unfolding both_rules
asked_on = refl

asked_between : asked.reader.phase ≡ Between
unfolding both_rules
asked_between = refl

asked_empty : asked.table ≡ no_macros
unfolding both_rules
asked_empty = refl

pub asked_agree : D.AskedAgree
asked_agree = record {
  not_yet = not_yet;
  in_force = asked_on;
  agreed = record {
    macros = λ on. asked_on;
    between = asked_between;
    same = λ on. absurd (false≢true (sym not_yet ∙ on));
    none = λ on x h. rw asked_empty (get_d_uniform 256 x plain);
  };
}
