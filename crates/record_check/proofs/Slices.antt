-- The slices that the code takes out of the words of a file are the file's parts. Assumes nothing.
use Prim.Native.Nat.{ℕ, ◌+◌, ◌-◌, ◌*◌, ◌≤◌}
use native.Mathlib.Omega.{arith}
use mathlib.Core.Path.{◌≡◌, refl}
use mathlib.Core.List.{List}
use lib.ListN.{length, take, drop}
use Rattle.basics.specs.Written.{written}
use Rattle.file.specs.Words.{file_words}
use Rattle.file.proofs.LayoutLaws.{slice_part, slice_within}
use Rattle.record.specs.Layout.{record_layout, formulas, statement_count, step_count, heads, seconds, statements, steps}
use Rattle.record.specs.Proof.{Sized}
use Rattle.record.proofs.LayoutIs.{sized}

-- By the sizes that the code read: from one place to the next, the last of them within the words.
pub record Slices (file words : List ℕ) (F S N : ℕ) : Type 0 where
  pub end_within : 4 + F + F + S + N ≤ length words
  pub heads_slice : take (4 + F - 4) (drop 4 words) ≡ heads file
  pub seconds_slice : take (4 + F + F - (4 + F)) (drop (4 + F) words) ≡ seconds file
  pub statements_slice : take (4 + F + F + S - (4 + F + F)) (drop (4 + F + F) words) ≡ statements file
  pub steps_slice : take (4 + F + F + S + N - (4 + F + F + S)) (drop (4 + F + F + S) words) ≡ steps file

-- The code reads the words into a list that has room for them.
pub slices :
    (file : List ℕ) → Sized file → (old : List ℕ) {words : List ℕ} {F S N : ℕ} → length file ≤ 2 * length old → words ≡ written old (file_words file)
    → F ≡ formulas file → S ≡ statement_count file → N ≡ step_count file → Slices file words F S N
slices file s old {F = F} {S} {N} room read f g h =
    let fits = (sized file).1 s in
    let at = slice_part record_layout file fits old read room in
    record {
      end_within = omega (arith, slice_within record_layout file fits old read room 3);
      heads_slice = at 0 4 (4 + F) refl (omega arith);
      seconds_slice = at 1 (4 + F) (4 + F + F) (omega arith) (omega arith);
      statements_slice = at 2 (4 + F + F) (4 + F + F + S) (omega arith) (omega arith);
      steps_slice = at 3 (4 + F + F + S) (4 + F + F + S + N) (omega arith) (omega arith);
    }
