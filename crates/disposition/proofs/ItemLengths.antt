-- How long an item's data is.
use mathlib.Core.List.{List}
use Prim.Native.Nat.{ℕ, ◌≤◌}
use native.Mathlib.Omega.{arith}
use borrow.Author.Tests.{leb-true}
use lib.Dec.{leb, lit≤}
use lib.ListN.{length, length-append, length-replicate}
use Rattle.lists.specs.Choice.{between}
use Rattle.lists.proofs.Lengths.{chosen, either}
use Rattle.lists.proofs.Tables.{both_right}
use Rattle.codes.specs.declared.Disposition.{Disposition}
use Rattle.codes.specs.declared.Disposition.TheVariants.{Naocrd, Naolfd, Naoffd, Naohtd}
use Rattle.codes.proofs.Entries.{found_cases}
use Rattle.keys.specs.declared.Key.TheVariants.{Char, Line, Command}
use Rattle.disposition.specs.declared.Handling.{Handling}
use Rattle.disposition.specs.declared.Handling.TheVariants.{Sender, Receiver}
use Rattle.disposition.specs.ByOption.{handling_of}
use Rattle.disposition.specs.Handled.{handled_by}
use Rattle.disposition.specs.ItemData.{drops, replaces, most_nuls, disposition_of, character_bytes, replacement, nul_count, character_data, line_data, item_data, ItemDataFits, item_room}

pub count_most : (h : Handling) → nul_count h ≤ most_nuls
count_most (Sender n) =
    chosen (λ m. m ≤ most_nuls) (between 1 most_nuls n) (λ e. leb-true n most_nuls (both_right (leb 1 n) (leb n most_nuls) e)) (λ e. lit≤ tt)
count_most (Receiver n) = lit≤ tt

abbrev Short : List ℕ → Type 0
Short bytes = length bytes ≤ 2

pub bytes_short : (d : Disposition) → Short (character_bytes d)
bytes_short Naocrd = lit≤ tt
bytes_short Naolfd = lit≤ tt
bytes_short Naoffd = lit≤ tt
bytes_short Naohtd = lit≤ tt

replacement_short : (d : Disposition) → Short (replacement d)
replacement_short Naocrd = lit≤ tt
replacement_short Naolfd = lit≤ tt
replacement_short Naoffd = lit≤ tt
replacement_short Naohtd = lit≤ tt

abbrev Within : List ℕ → Type 0
Within bytes = length bytes ≤ item_room

character_long : (d : Disposition) (h : Handling) → Within (character_data d h)
unfolding character_data
character_long d h =
    either Within (handled_by drops h) (lit≤ tt)
    (either Within (handled_by replaces h) (omega (arith, replacement_short d))
    (simp (length-append, length-replicate) (omega (arith, bytes_short d, count_most h))))

line_long : (returns feeds : Handling) → Within (line_data returns feeds)
unfolding line_data
line_long returns feeds =
    either Within (handled_by drops returns) (character_long Naolfd feeds)
    (either Within (handled_by drops feeds) (character_long Naocrd returns)
    (simp (length-append, length-replicate) (omega (arith, count_most returns, count_most feeds))))

pub item_data_fits : ItemDataFits
unfolding item_data
item_data_fits h (Char b) = found_cases Within (lit≤ tt) (λ d. character_long d (handling_of h d)) (disposition_of b)
item_data_fits h Line = line_long h.naocrd h.naolfd
item_data_fits h (Command c) = lit≤ tt
