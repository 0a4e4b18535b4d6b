-- Samples of lines: those of 01, "Record A prints `granted 1 7`, sample C prints `refused 14 place 0`, sample K prints
-- `equal`", and a few more. Proved in proofs/Samples.antt, by computation. Assumes nothing.
use Rattle.std.specs.Prelude.{ℕ, ◌≡◌, List, [], ◌∷◌, map}
use Prim.Native.String.{String}
use Rattle.text.specs.Ascii.{ascii}
use Rattle.file.specs.Words.{file_of}
use Rattle.record.specs.Verdict.{RecordVerdict, Granted, Refused}
use Rattle.record.specs.Figure1.{record_answer}
use Rattle.record.specs.Samples.{over_t}
use Rattle.exchange.specs.Verdict.{ExchangeVerdict, Equal, Refused as ExchangeRefused}
use Rattle.exchange.specs.Figure1.{exchange_answer}
use Rattle.exchange.specs.Samples.{K}
use Rattle.independence.specs.Verdict.{IndependenceVerdict, Independent, NotIndependent, Refused as IndependenceRefused}
use Rattle.independence.specs.Figure1.{independence_answer}
use Rattle.line.specs.RecordLine.{record_line}
use Rattle.line.specs.ExchangeLine.{exchange_line}
use Rattle.line.specs.IndependenceLine.{independence_line}

-- a row: the bytes by the definitions, and the line in quotes
pub record Sample : Type 0 where
  pub bytes : List ℕ
  pub line : String

-- the row of a record's answer and the lent list, of an exchange's answer, and of an answer about a principal
abbrev pub row : RecordVerdict → List ℕ → String → Sample
row answer signers line = record { bytes = record_line answer signers; line = line }

abbrev pub exchange_row : ExchangeVerdict → String → Sample
exchange_row answer line = record { bytes = exchange_line answer; line = line }

abbrev pub independence_row : IndependenceVerdict → String → Sample
independence_row answer line = record { bytes = independence_line answer; line = line }

-- the answer for a record of these words, with a list of 256 words lent, as the program does
abbrev pub answer_of : List ℕ → RecordVerdict
answer_of words = record_answer (file_of words) 256

-- Of the lent list only the signers are printed, and no blank stands after the last of them, nor after a count of 0.
abbrev pub rows : List Sample
rows =
    row (Granted 1) (7 ∷ 0 ∷ []) "granted 1 7\n"
    ∷ row (Granted 0) (5 ∷ []) "granted 0\n"
    ∷ row (Granted 2) (8 ∷ 4095 ∷ 0 ∷ []) "granted 2 8 4095\n"
    ∷ row (Refused 14 0) [] "refused 14 place 0\n"
    ∷ row (Refused 9 16384) (7 ∷ []) "refused 9 place 16384\n"
    ∷ row (answer_of (2 ∷ 1 ∷ 4 ∷ 1 ∷ 0 ∷ 20487 ∷ 0 ∷ 0 ∷ 1 ∷ 40960 ∷ 45057 ∷ 4096 ∷ 0 ∷ [])) (7 ∷ []) "granted 1 7\n"
    ∷ row (answer_of (over_t (1 ∷ []) 0 (45057 ∷ []))) [] "refused 14 place 0\n"
    ∷ exchange_row Equal "equal\n"
    ∷ exchange_row (ExchangeRefused 12 0) "refused 12 place 0\n"
    ∷ exchange_row (ExchangeRefused 9 16384) "refused 9 place 16384\n"
    ∷ exchange_row (exchange_answer (file_of K)) "equal\n"
    ∷ independence_row Independent "independent\n"
    ∷ independence_row NotIndependent "not independent\n"
    ∷ independence_row (IndependenceRefused 17 0) "refused 17 place 0\n"
    ∷ independence_row (independence_answer (file_of (over_t (1 ∷ []) 1 (0 ∷ []))) 7) "not independent\n"
    ∷ []

abbrev pub Samples : Type 0
Samples = map (λ r. r.bytes) rows ≡ map (λ r. ascii r.line) rows
