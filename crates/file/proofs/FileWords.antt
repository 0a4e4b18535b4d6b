-- Laws of a file's words (specs/Words.antt), and the word at a position by its two bytes. Assumes nothing.
use Prim.Native.Nat.{ℕ, zero, suc, ◌+◌, ◌*◌, ◌/◌, ◌%◌, ◌<◌, ◌≤◌}
use native.Mathlib.Nat.{mod-add-div}
use native.Mathlib.Omega.{arith, min_cases}
use mathlib.Core.Path.{◌≡◌, refl, sym, ap, ap₂, ◌∙◌}
use mathlib.Core.List.Memᴰ
use mathlib.Core.List.{List, [], ◌∷◌}
use lib.ListN.{length, get_or, take, drop, length-take, get_or-eq_default}
use lib.Seq.{get_or-take, get_or-drop, take_all}
use Rattle.file.specs.Words.{file_words, word_at, file_of, LowByteFirst, PartAt, WordsOfFile, FileOfWords, HalfAsMany}

pub low_byte_first : LowByteFirst
unfolding file_words
low_byte_first = refl

pub words_of_file : WordsOfFile
unfolding file_words file_of
words_of_file [] = refl
words_of_file (w ∷ ws) = cc (mod-add-div w 256, words_of_file ws)

pub file_of_words : FileOfWords
unfolding file_words file_of
file_of_words [] bytes even = refl
file_of_words (low ∷ []) bytes even = absurd (omega arith)
file_of_words (low ∷ high ∷ file) bytes even =
    let small : low < 256 = bytes low (Memᴰ.head refl) in
    let l : (low + 256 * high) % 256 ≡ low = omega arith in
    let h : (low + 256 * high) / 256 ≡ high = omega arith in
    cc (file_of_words file (λ b m. bytes b (Memᴰ.tail (Memᴰ.tail m))) (omega arith))

pub half_as_many : HalfAsMany
unfolding file_words
half_as_many [] = refl
half_as_many (low ∷ []) = refl
half_as_many (low ∷ high ∷ file) = omega (arith, half_as_many file)

pub part_at : PartAt
part_at file from count i within = get_or-take count (drop from (file_words file)) i 0 within ∙ get_or-drop from (file_words file) i 0

-- The word at a position has the bytes at twice that position, low byte first;
pub word_here : (file : List ℕ) (i : ℕ) → i < length file / 2 → word_at file i ≡ get_or file (2 * i) 0 + 256 * get_or file (2 * i + 1) 0
unfolding file_words
word_here [] i l = absurd (omega arith)
word_here (low ∷ []) i l = absurd (omega arith)
word_here (low ∷ high ∷ file) zero l = refl
word_here (low ∷ high ∷ file) (suc i) l =
    let two : 2 * suc i ≡ suc (suc (2 * i)) = omega arith in
    let three : 2 * suc i + 1 ≡ suc (suc (2 * i + 1)) = omega arith in
    word_here file i (omega arith)
    ∙ ap₂ (λ (a b : ℕ). get_or (low ∷ high ∷ file) a 0 + 256 * get_or (low ∷ high ∷ file) b 0) (sym two) (sym three)

-- past the last it is 0.
pub word_past : (file : List ℕ) (i : ℕ) → length file / 2 ≤ i → word_at file i ≡ 0
word_past file i l = get_or-eq_default (file_words file) 0 (omega (arith, half_as_many file))

-- A file's first bytes have its first words.
pub word_at_prefix : (n : ℕ) (file : List ℕ) (i : ℕ) → 2 * i + 1 < n → word_at (take n file) i ≡ word_at file i
word_at_prefix n file i l =
    min_cases n (length file) (word_at (take n file) i ≡ word_at file i)
    (λ within m.
    word_here (take n file) i (omega (arith, length-take n file))
    ∙ ap₂ (λ (a b : ℕ). a + 256 * b) (get_or-take n file (2 * i) 0 (omega arith)) (get_or-take n file (2 * i + 1) 0 l)
    ∙ sym (word_here file i (omega arith)))
    (λ all m. ap (λ (f : List ℕ). word_at f i) (take_all n file all))
