-- Parts of a file's words (specs/Words.antt, `part`): how long they are, two that join, and those that code takes out
-- of the words that it has read. Assumes nothing.
use Prim.Native.Nat.{ℕ, ◌+◌, ◌-◌, ◌≤◌}
use native.Mathlib.Omega.{arith}
use mathlib.Core.Path.{◌≡◌, ap, ◌∙◌}
use mathlib.Core.List.{List, ◌++◌}
use lib.ListN.{length, take, drop, length-take, length-drop}
use lib.Seq.{length-take-le, take-add, drop-drop}
use Rattle.basics.specs.Written.{written}
use Rattle.basics.proofs.Written.{part_written}
use Rattle.file.specs.Words.{file_words, part}

module _ (file : List ℕ) where
  -- A part is at most as long as it is asked for,
  pub part_at_most : (from count : ℕ) → length (part file from count) ≤ count
  part_at_most from count = omega (arith, length-take count (drop from (file_words file)))

  -- and as long where there are so many words.
  pub part_whole : (from count : ℕ) → from + count ≤ length (file_words file) → length (part file from count) ≡ count
  part_whole from count l = length-take-le count (drop from (file_words file)) (omega (arith, length-drop from (file_words file)))

  -- A part, and the part that begins where it ends.
  pub part_joined : (from m n : ℕ) → part file from (m + n) ≡ part file from m ++ part file (from + m) n
  part_joined from m n =
      take-add m n (drop from (file_words file)) ∙ ap (λ (r : List ℕ). part file from m ++ take n r) (drop-drop m from (file_words file))

-- The code reads the words into a list. What it takes from one place to another is that part of the file, where the
-- file has so many words and the list has room for them.
module _ (file old : List ℕ) {words : List ℕ} (read : words ≡ written old (file_words file)) where
  pub slice : (from to at count : ℕ) → from ≡ at → to ≡ at + count → at + count ≤ length (file_words file)
      → at + count ≤ length old → take (to - from) (drop from words) ≡ part file at count
  slice from to at count e f l room =
      let many : to - from ≡ count = omega arith in
      (λ i. take (many i) (drop (e i) (read i))) ∙ part_written old (file_words file) at count l room
