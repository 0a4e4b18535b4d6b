-- The slices that the code takes out of the words before the steps are the file's parts. Assumes nothing.
use Prim.Native.Nat.{ℕ, ◌+◌, ◌-◌, ◌≤◌}
use native.Mathlib.Omega.{arith}
use mathlib.Core.Path.{◌≡◌, refl, sym, ap}
use mathlib.Core.List.{List}
use lib.ListN.{length, take, drop, replicate, length-replicate}
use lib.Seq.{length-take-le}
use Rattle.basics.specs.Written.{written}
use Rattle.basics.proofs.Written.{written_length}
use Rattle.file.specs.Words.{file_words, part}
use Rattle.file.proofs.Parts.{slice}
use Rattle.file.proofs.LayoutLaws.{part_within}
use Rattle.record.specs.Layout.{record_layout, formulas, statement_count, heads, seconds, statements}
use Rattle.record.specs.Proof.{Sized}
use Rattle.record.proofs.LayoutIs.{sized}

-- By the sizes that the code read: from one place to the next, the last of them within the words.
pub record Slices (file words : List ℕ) (F S : ℕ) : Type 0 where
  pub end_within : 4 + F + F + S ≤ length words
  pub heads_slice : take (4 + F - 4) (drop 4 words) ≡ heads file
  pub seconds_slice : take (4 + F + F - (4 + F)) (drop (4 + F) words) ≡ seconds file
  pub statements_slice : take (4 + F + F + S - (4 + F + F)) (drop (4 + F + F) words) ≡ statements file

-- The code reads into a list that has room for the words before the steps, and no more.
module _ (file : List ℕ) (s : Sized file) (old : List ℕ) {words : List ℕ} (read : words ≡ written old (file_words file))
    (room : length old ≡ 4 + formulas file + formulas file + statement_count file)
  where
    within : length old ≤ length (file_words file)
    within = omega (arith, part_within record_layout file ((sized file).1 s) 2)

    -- a part that ends where the room does, or before
    taken : (from to at count : ℕ) → from ≡ at → to ≡ at + count → at + count ≤ length old
        → take (to - from) (drop from words) ≡ part file at count
    taken from to at count e f l = slice file old read from to at count e f (omega (arith, within)) l

    pub slices : {F S : ℕ} → F ≡ formulas file → S ≡ statement_count file → Slices file words F S
    slices {F} {S} f g = record {
      end_within = omega (arith, ap length read, written_length old (file_words file));
      heads_slice = taken 4 (4 + F) 4 (formulas file) refl (omega arith) (omega arith);
      seconds_slice =
          taken (4 + F) (4 + F + F) (4 + formulas file) (formulas file) (omega arith) (omega arith) (omega arith);
      statements_slice =
          taken (4 + F + F) (4 + F + F + S) (4 + formulas file + formulas file) (statement_count file) (omega arith)
          (omega arith) (omega arith);
    }

-- A part from the start of a room has its length.
pub room_long : (room x n : ℕ) → n ≤ room → n ≡ length (take n (replicate room x))
room_long room x n l = sym (length-take-le n (replicate room x) (rw (length-replicate room x) l))
