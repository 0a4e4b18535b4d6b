-- The slices that the code takes out of the words of a file are the file's parts. Assumes nothing.
use Prim.Native.Nat.{ℕ, ◌+◌, ◌-◌, ◌*◌, ◌≤◌}
use native.Mathlib.Omega.{arith}
use mathlib.Core.Path.{◌≡◌, refl, ◌∙◌}
use mathlib.Core.List.{List, ◌++◌}
use lib.ListN.{length, take, drop}
use Rattle.basics.specs.Written.{written}
use Rattle.file.specs.Words.{file_words}
use Rattle.file.specs.Layout.{begins}
use Rattle.file.proofs.FileWords.{half_as_many}
use Rattle.file.proofs.Parts.{part_joined, slice}
use Rattle.file.proofs.LayoutLaws.{part_within, slice_part, slice_within}
use Rattle.table.specs.Tests.{SizedTable}
use Rattle.exchange.specs.Layout.{exchange_layout, formulas, first_count, second_count, step_count, heads, seconds, first_list, second_list, steps}
use Rattle.exchange.specs.Proofs.{Sized}
use Rattle.exchange.proofs.LayoutIs.{sized}
use Rattle.exchange.proofs.Lengths.{sized_table_lem}

-- By the sizes that the code read: from one place to another, the last of them within the words. The two lists stand
-- one after the other.
pub record Slices (file words : List ℕ) (F S1 S2 N : ℕ) : Type 0 where
  pub end_within : 4 + F + F + S1 + S2 + N ≤ length words
  pub heads_slice : take (4 + F - 4) (drop 4 words) ≡ heads file
  pub seconds_slice : take (4 + F + F - (4 + F)) (drop (4 + F) words) ≡ seconds file
  pub lists_slice : take (4 + F + F + S1 + S2 - (4 + F + F)) (drop (4 + F + F) words) ≡ first_list file ++ second_list file
  pub first_slice : take (4 + F + F + S1 - (4 + F + F)) (drop (4 + F + F) words) ≡ first_list file
  pub second_slice : take (4 + F + F + S1 + S2 - (4 + F + F + S1)) (drop (4 + F + F + S1) words) ≡ second_list file
  pub steps_slice : take (4 + F + F + S1 + S2 + N - (4 + F + F + S1 + S2)) (drop (4 + F + F + S1 + S2) words) ≡ steps file

-- The code reads the words into a list that has room for them.
pub slices :
    (file : List ℕ) → Sized file → (old : List ℕ) {words : List ℕ} {F S1 S2 N : ℕ} → length file ≤ 2 * length old → words ≡ written old (file_words file)
    → F ≡ formulas file → S1 ≡ first_count file → S2 ≡ second_count file → N ≡ step_count file → Slices file words F S1 S2 N
slices file s old {F = F} {S1} {S2} {N} room read f g h k =
    let fits = (sized file).1 s in
    let at = slice_part exchange_layout file fits old read room in
    let first-from : ℕ = begins exchange_layout file 2 in
    let has_room : length (file_words file) ≤ length old = omega (arith, half_as_many file) in
    record {
      end_within = omega (arith, slice_within exchange_layout file fits old read room 4);
      heads_slice = at 0 4 (4 + F) refl (omega arith);
      seconds_slice = at 1 (4 + F) (4 + F + F) (omega arith) (omega arith);
      lists_slice =
          slice file old read (4 + F + F) (4 + F + F + S1 + S2) first-from (first_count file + second_count file)
          (omega arith) (omega arith) (omega (arith, part_within exchange_layout file fits 3))
          (omega (arith, has_room, part_within exchange_layout file fits 3))
          ∙ part_joined file first-from (first_count file) (second_count file);
      first_slice = at 2 (4 + F + F) (4 + F + F + S1) (omega arith) (omega arith);
      second_slice = at 3 (4 + F + F + S1) (4 + F + F + S1 + S2) (omega arith) (omega arith);
      steps_slice = at 4 (4 + F + F + S1 + S2) (4 + F + F + S1 + S2 + N) (omega arith) (omega arith);
    }
