-- "The samples marked m form one table, proved as a whole" (01): A to H, and K. A row has the words of a file and the
-- line that the program prints. Proved in proofs/Samples.antt, by computation. Assumes nothing.
use Rattle.std.specs.Prelude.{ℕ, ◌≡◌, List, [], ◌∷◌, map}
use Prim.Native.String.{String}
use Rattle.text.specs.Ascii.{ascii}
use Rattle.file.specs.Words.{file_of}
use Rattle.record.specs.Samples.{over_t}
use Rattle.exchange.specs.Figure1.{exchange_answer}
use Rattle.exchange.specs.Samples.{K}
use Rattle.line.specs.ExchangeLine.{exchange_line}
use Rattle.line.specs.Figure1.{printed_line}

-- a sample by its words, and its line
pub data File : Type 0 where
  a_record : List ℕ → File
  an_exchange : List ℕ → File

abbrev pub line_of : File → List ℕ
line_of (a_record words) = printed_line (file_of words)
line_of (an_exchange words) = exchange_line (exchange_answer (file_of words))

pub record Sample : Type 0 where
  pub file : File
  pub line : String

abbrev pub ◌prints◌ : File → String → Sample
◌prints◌ file line = record { file = file; line = line }

infix 75 ◌prints◌
-- | | statements | goal | steps | answer |, over table T; record A as 01 writes it out; and K, whose words are in exchange/specs/Samples.antt.
abbrev pub marked : List Sample
marked =
    a_record (2 ∷ 1 ∷ 4 ∷ 1 ∷ 0 ∷ 20487 ∷ 0 ∷ 0 ∷ 1 ∷ 40960 ∷ 45057 ∷ 4096 ∷ 0 ∷ []) prints "granted 1 7\n"
    ∷ a_record (over_t (0 ∷ []) 1 (40960 ∷ 4096 ∷ 0 ∷ [])) prints "granted 0\n"
    ∷ a_record (over_t (1 ∷ []) 0 (45057 ∷ [])) prints "refused 14 place 0\n"
    ∷ a_record (over_t (2 ∷ []) 1 (40960 ∷ 45058 ∷ [])) prints "refused 14 place 1\n"
    ∷ a_record (over_t (0 ∷ []) 1 (0 ∷ [])) prints "refused 13 place 0\n"
    ∷ a_record (over_t [] 0 (0 ∷ [])) prints "refused 12 place 0\n"
    ∷ a_record (over_t (0 ∷ []) 1 (40960 ∷ 4096 ∷ [])) prints "refused 9 place 2\n"
    ∷ a_record (over_t (0 ∷ []) 1 (40960 ∷ 4096 ∷ 0 ∷ 0 ∷ [])) prints "refused 15 place 3\n"
    ∷ an_exchange K prints "equal\n"
    ∷ []

abbrev pub MarkedSamples : Type 0
MarkedSamples = map (λ r. line_of r.file) marked ≡ map (λ r. ascii r.line) marked
