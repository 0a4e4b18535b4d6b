-- What a loop has written that reads a file's words one after the other. Assumes nothing.
use Prim.Native.Nat.{ℕ, ◌+◌, ◌*◌, ◌/◌, ◌<◌, ◌≤◌}
use native.Mathlib.Numerals.{add-one}
use native.Mathlib.Omega.{arith}
use mathlib.Core.Path.{◌≡◌, sym, ap, ◌∙◌}
use mathlib.Core.List.{List, [], ◌∷◌, ◌++◌}
use lib.ListN.{length, get_or, take, drop, set, take-append-drop}
use lib.Seq.{length-take-le, take_all, take-suc}
use mathlib.Core.Logic.{inl, inr}
use Rattle.std.specs.Prelude.{min}
use Rattle.std.proofs.lemmas.Bool.{cases_lt}
use Rattle.basics.specs.Written.{written}
use Rattle.basics.proofs.Written.{written_length, written_more, written_full}
use Rattle.file.specs.Words.{file_words, word_at}
use Rattle.file.proofs.FileWords.{half_as_many, word_here}

-- the first i words of the file, written
abbrev pub read : List ℕ → List ℕ → ℕ → List ℕ
read file old i = written old (take i (file_words file))

-- Where the file has i words, the first i are i.
read_count : (file : List ℕ) (i : ℕ) → i ≤ length file / 2 → length (take i (file_words file)) ≡ i
read_count file i l = length-take-le i (file_words file) (omega (arith, half_as_many file))

module _ (file old words : List ℕ) (i : ℕ) (so_far : words ≡ read file old i) where
  pub read_length : length words ≡ length old
  read_length = ap length so_far ∙ written_length old (take i (file_words file))

  -- The next word is a store of its two bytes' word.
  pub read_more :
      (w : ℕ) → i < length file / 2 → i < length words → w ≡ get_or file (2 * i) 0 + 256 * get_or file (2 * i + 1) 0
      → set words i w ≡ read file old (i + 1)
  read_more w more room e =
      let new : List ℕ = take i (file_words file) in
      let n : length new ≡ i = read_count file i (omega arith) in
      let here : w ≡ word_at file i = e ∙ sym (word_here file i more) in
      let next : take (i + 1) (file_words file) ≡ new ++ (word_at file i ∷ []) =
      rw add-one (take-suc (file_words file) i 0 (omega (arith, half_as_many file))) in
      cc (written_more old new (word_at file i) (omega (arith, read_length)))

  -- All are written where the file has no more, or there is no more room.
  pub read_all : i ≡ min (length words) (length file / 2) → words ≡ written old (file_words file)
  read_all end = elim (cases_lt i (length file / 2)) [
    | inr more ↦ so_far ∙ ap (λ (r : List ℕ). written old r) (take_all i (file_words file) (omega (arith, half_as_many file)))
    | inl less ↦
        let new : List ℕ = take i (file_words file) in
        so_far
        ∙ sym (written_full old new (drop i (file_words file)) (omega (arith, end, less, read_length, read_count file i (omega (arith, end)))))
        ∙ ap (λ (r : List ℕ). written old r) (take-append-drop i (file_words file))
  ]
