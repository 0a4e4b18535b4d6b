-- "A file of 16-bit words, low byte first" (01). Proved in proofs/FileWords.antt. Assumes nothing.
use Rattle.std.specs.Prelude.{ℕ, ◌+◌, ◌*◌, ◌/◌, ◌%◌, ◌<◌, ◌≡◌, List, [], ◌∷◌, length, get_or, take, drop}
use Rattle.basics.specs.Membership.{◌∈◌}

-- the words of a file's bytes; a last byte that stands alone is no word
unfoldable pub file_words : List ℕ → List ℕ
file_words [] = []
file_words (low ∷ []) = []
file_words (low ∷ high ∷ bytes) = (low + 256 * high) ∷ file_words bytes

-- Principal 7's head, 20,487, and 01's formula number 1 as bytes.
abbrev pub LowByteFirst : Type 0
LowByteFirst = file_words (7 ∷ 80 ∷ 1 ∷ 0 ∷ []) ≡ 20487 ∷ 1 ∷ []

-- the word at a position, 0 past the end
abbrev pub word_at : List ℕ → ℕ → ℕ
word_at file i = get_or (file_words file) i 0

-- count words from a position on, as far as there are words
abbrev pub part : List ℕ → ℕ → ℕ → List ℕ
part file from count = take count (drop from (file_words file))

-- What stands in a part, position by position.
abbrev pub PartAt : Type 0
PartAt = (file : List ℕ) (from count i : ℕ) → i < count → get_or (part file from count) i 0 ≡ word_at file (from + i)

-- the bytes of words
unfoldable pub file_of : List ℕ → List ℕ
file_of [] = []
file_of (w ∷ ws) = w % 256 ∷ w / 256 ∷ file_of ws

-- The words of a file that is written from 16-bit words are these words,
abbrev pub WordsOfFile : Type 0
WordsOfFile = (ws : List ℕ) → file_words (file_of ws) ≡ ws

-- and two files of bytes with an even length and the same words are the same file.
abbrev pub FileOfWords : Type 0
FileOfWords =
    (file : List ℕ) → ((b : ℕ) → b ∈ file → b < 256) → length file % 2 ≡ 0
    → file_of (file_words file) ≡ file

-- There are half as many words as bytes.
abbrev pub HalfAsMany : Type 0
HalfAsMany = (file : List ℕ) → length (file_words file) ≡ length file / 2
