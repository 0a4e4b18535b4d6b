-- The samples of document 01 that are marked m, A to H, as whole files: one table, proved in proofs/Samples.antt by
-- computation. Each lends a list of 256 words, as the program does. Assumes nothing.
use Rattle.std.specs.Prelude.{ℕ, ◌≡◌, List, [], ◌∷◌, ◌++◌, map, length, Err}
use Rattle.file.specs.Words.{file_of}
use Rattle.record.specs.Verdict.{RecordVerdict, Granted, Refused}
use Rattle.record.specs.Layout.{signers}
use Rattle.record.specs.ListAfter.{list_after}
use Rattle.record.specs.Figure1.{record_answer}

-- a row: the words of the file, the length of the lent list, the answer, and whom a grant names
pub record Sample : Type 0 where
  pub words : List ℕ
  pub room : ℕ
  pub answer : RecordVerdict
  pub names : List ℕ

abbrev pub grants : List ℕ → ℕ → List ℕ → Sample
grants words room names = record { words = words; room = room; answer = Granted (length names); names = names }

abbrev pub refuses : List ℕ → ℕ → ℕ → ℕ → Sample
refuses words room number place = record { words = words; room = room; answer = Refused number place; names = [] }

-- the signers where there is a grant
abbrev pub granted : RecordVerdict → List ℕ → List ℕ
granted (Granted count) names = names
granted (Err refusal) names = []

-- "Table T: 0 atom 0; 1 principal 7 says it; 2 principal 8 says it: heads 0, 20487, 20488, seconds 0, 0, 0."
abbrev pub over_t : List ℕ → ℕ → List ℕ → List ℕ
over_t statements goal steps =
    3 ∷ length statements ∷ length steps ∷ goal
    ∷ 0 ∷ 20487 ∷ 20488
    ∷ 0 ∷ 0 ∷ 0
    ∷ statements ++ steps

-- | | statements | goal | steps | answer |. Record A is as 01 gives it, "entries 0 and 1 only".
abbrev pub rows : List Sample
rows =
    grants (2 ∷ 1 ∷ 4 ∷ 1 ∷ 0 ∷ 20487 ∷ 0 ∷ 0 ∷ 1 ∷ 40960 ∷ 45057 ∷ 4096 ∷ 0 ∷ []) 256 (7 ∷ [])
    ∷ grants (over_t (0 ∷ []) 1 (40960 ∷ 4096 ∷ 0 ∷ [])) 256 []
    ∷ refuses (over_t (1 ∷ []) 0 (45057 ∷ [])) 256 14 0
    ∷ refuses (over_t (2 ∷ []) 1 (40960 ∷ 45058 ∷ [])) 256 14 1
    ∷ refuses (over_t (0 ∷ []) 1 (0 ∷ [])) 256 13 0
    ∷ refuses (over_t [] 0 (0 ∷ [])) 256 12 0
    ∷ refuses (over_t (0 ∷ []) 1 (40960 ∷ 4096 ∷ [])) 256 9 2
    ∷ refuses (over_t (0 ∷ []) 1 (40960 ∷ 4096 ∷ 0 ∷ 0 ∷ [])) 256 15 3
    ∷ []

-- each row has its answer, and a grant its signers
abbrev pub answer_to : Sample → RecordVerdict
answer_to r = record_answer (file_of r.words) r.room

abbrev pub Hold : List Sample → Type 0
Hold samples =
    (map answer_to samples ≡ map (λ r. r.answer) samples)
    × (map (λ r. granted (answer_to r) (signers (file_of r.words))) samples ≡ map (λ r. r.names) samples)

abbrev pub Samples : Type 0
Samples = Hold rows

-- "Refused, in checking order": each of 1 to 8, and where two apply the first counts. In order: no byte at all; F is 0,
-- and the length is wrong; a word too many; N and M, as records; a repeated entry at 1 and a wrong one at 2; the goal
-- and a statement of F or more; a statement of F or more at 1; A's statement, goal and steps with no room for the
-- signer, with a wrong step, and with a step too many, both of which stand before 8; and B with no room, which it needs
-- none of. Then the limits of F, S and N, and one past each: within them the length is wrong. And a goal of 65,535,
-- which 2 doesn't look at.
abbrev pub order : List Sample
order =
    refuses [] 256 1 0
    ∷ refuses (0 ∷ 0 ∷ 1 ∷ 0 ∷ []) 256 2 0
    ∷ refuses (1 ∷ 0 ∷ 1 ∷ 0 ∷ 0 ∷ 0 ∷ 0 ∷ 0 ∷ []) 256 3 0
    ∷ refuses (1 ∷ 0 ∷ 1 ∷ 0 ∷ 20487 ∷ 0 ∷ 0 ∷ []) 256 4 0
    ∷ refuses (2 ∷ 0 ∷ 1 ∷ 0 ∷ 0 ∷ 0 ∷ 0 ∷ 0 ∷ 0 ∷ []) 256 5 1
    ∷ refuses (3 ∷ 0 ∷ 1 ∷ 0 ∷ 0 ∷ 0 ∷ 20487 ∷ 0 ∷ 0 ∷ 2 ∷ 0 ∷ []) 256 4 2
    ∷ refuses (over_t (3 ∷ []) 3 (0 ∷ [])) 256 6 0
    ∷ refuses (over_t (0 ∷ 3 ∷ []) 0 (0 ∷ [])) 256 7 1
    ∷ refuses (over_t (1 ∷ []) 1 (40960 ∷ 45057 ∷ 4096 ∷ 0 ∷ [])) 0 8 0
    ∷ refuses (over_t (1 ∷ []) 1 (49152 ∷ [])) 0 11 0
    ∷ refuses (over_t (1 ∷ []) 1 (40960 ∷ 45057 ∷ 4096 ∷ 0 ∷ 0 ∷ [])) 0 15 4
    ∷ grants (over_t (0 ∷ []) 1 (40960 ∷ 4096 ∷ 0 ∷ [])) 0 []
    ∷ refuses (1 ∷ 0 ∷ 1 ∷ 0 ∷ []) 256 3 0
    ∷ refuses (4096 ∷ 256 ∷ 16384 ∷ 0 ∷ []) 256 3 0
    ∷ refuses (4097 ∷ 0 ∷ 1 ∷ 0 ∷ []) 256 2 0
    ∷ refuses (1 ∷ 257 ∷ 1 ∷ 0 ∷ []) 256 2 0
    ∷ refuses (1 ∷ 0 ∷ 0 ∷ 0 ∷ []) 256 2 0
    ∷ refuses (1 ∷ 0 ∷ 16385 ∷ 0 ∷ []) 256 2 0
    ∷ refuses (over_t [] 65535 (0 ∷ [])) 256 6 0
    ∷ []

abbrev pub Order : Type 0
Order = Hold order

-- The same of files given as bytes, "low byte first" (01), and not by their words: record A, and its first 1 and 7
-- bytes, too few.
abbrev pub bytes_of_a : List ℕ
bytes_of_a =
    2 ∷ 0 ∷ 1 ∷ 0 ∷ 4 ∷ 0 ∷ 1 ∷ 0
    ∷ 0 ∷ 0 ∷ 7 ∷ 80
    ∷ 0 ∷ 0 ∷ 0 ∷ 0
    ∷ 1 ∷ 0
    ∷ 0 ∷ 160 ∷ 1 ∷ 176 ∷ 0 ∷ 16 ∷ 0 ∷ 0
    ∷ []

abbrev pub Bytes : Type 0
Bytes =
    map (λ file. record_answer file 256) (bytes_of_a ∷ (2 ∷ []) ∷ (2 ∷ 0 ∷ 1 ∷ 0 ∷ 4 ∷ 0 ∷ 1 ∷ []) ∷ [])
    ≡ Granted 1 ∷ Refused 1 0 ∷ Refused 1 0 ∷ []

-- The table T, and 3 is 1 and 2: from these statements what 7 and 8 both say, by opening both papers.
abbrev pub for_both : List ℕ → List ℕ
for_both statements =
    4 ∷ length statements ∷ 9 ∷ 3
    ∷ 0 ∷ 20487 ∷ 20488 ∷ 12289
    ∷ 0 ∷ 0 ∷ 0 ∷ 2
    ∷ statements ++ (20480 ∷ 40960 ∷ 45057 ∷ 4096 ∷ 0 ∷ 40960 ∷ 45058 ∷ 4096 ∷ 0 ∷ [])

abbrev pub both_opened : List ℕ
both_opened = for_both (2 ∷ 1 ∷ [])

-- What a call leaves of three words that are lent: A's signer stands first and the others are as they were, also where
-- a paper of 8 lies unused; two signers stand in the first two; and C, refused, changes nothing.
abbrev pub Lists : Type 0
Lists =
    map (λ words. list_after (file_of words) (record_answer (file_of words) 3) (9 ∷ 5 ∷ 6 ∷ []))
    (over_t (1 ∷ []) 1 (40960 ∷ 45057 ∷ 4096 ∷ 0 ∷ [])
    ∷ over_t (2 ∷ 1 ∷ []) 1 (40960 ∷ 45057 ∷ 4096 ∷ 0 ∷ [])
    ∷ both_opened
    ∷ over_t (1 ∷ []) 0 (45057 ∷ [])
    ∷ [])
    ≡ (7 ∷ 5 ∷ 6 ∷ []) ∷ (7 ∷ 5 ∷ 6 ∷ []) ∷ (7 ∷ 8 ∷ 6 ∷ []) ∷ (9 ∷ 5 ∷ 6 ∷ []) ∷ []
