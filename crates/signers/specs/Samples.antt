-- "The signers of a record are the principals K of its statements of the form K says A, each once" (01), "in rising
-- principal number" (02, job 1), of a statement "that some says-left step names" (02, job 3). Samples, with the first
-- and the last principal's number. Proved in proofs/Samples.antt, by computation. Assumes nothing.
use Rattle.std.specs.Prelude.{◌≡◌, List, [], ◌∷◌, map}
use Rattle.table.specs.declared.entry.Entry.{Entry}
use Rattle.table.specs.Tests.{entries}
use Rattle.signers.specs.Signers.{signers}

-- the entries 0 atom 0; 1 principal 8 says 0; 2 principal 7 says 1; 3 is 1 implies 0; 4 principal 0 says 0; 5 principal
-- 4,095 says 0; 6 principal 10 says 0; 7 principal 9 says 0; 8 principal 7 says 0
abbrev pub table : List Entry
table =
    entries (0 ∷ 20488 ∷ 20487 ∷ 8193 ∷ 20480 ∷ 24575 ∷ 20490 ∷ 20489 ∷ 20487 ∷ [])
    (0 ∷ 0 ∷ 1 ∷ 0 ∷ 0 ∷ 0 ∷ 0 ∷ 0 ∷ 0 ∷ [])

-- Where every formula is named. Principal 7's statement stands twice and names 7 once; principal 8 says something only
-- inside other formulas and is no signer. Papers of 8 and then 7; of 4,095, 10, 9 and 0; of 8, with 7's between. Then
-- no statements.
abbrev pub Samples : Type 0
Samples =
    map (λ statements. signers table statements (0 ∷ 1 ∷ 2 ∷ 3 ∷ 4 ∷ 5 ∷ 6 ∷ 7 ∷ []))
    ((5 ∷ 2 ∷ 3 ∷ 4 ∷ 2 ∷ 0 ∷ []) ∷ (1 ∷ 2 ∷ []) ∷ (5 ∷ 6 ∷ 7 ∷ 4 ∷ []) ∷ (1 ∷ 2 ∷ 1 ∷ []) ∷ [] ∷ [])
    ≡ (0 ∷ 7 ∷ 4095 ∷ []) ∷ (7 ∷ 8 ∷ []) ∷ (0 ∷ 9 ∷ 10 ∷ 4095 ∷ []) ∷ (7 ∷ 8 ∷ []) ∷ [] ∷ []

-- The statements are papers of 8, 7 and 10, and 7's once more. Named are: none; 7's and 10's, 7's twice; 9's, which is
-- no statement, and the atom; 8's, and what it says; and another word of 7's.
abbrev pub UsedSamples : Type 0
UsedSamples =
    map (signers table (1 ∷ 2 ∷ 6 ∷ 2 ∷ [])) ([] ∷ (2 ∷ 6 ∷ 2 ∷ []) ∷ (7 ∷ 0 ∷ []) ∷ (0 ∷ 1 ∷ []) ∷ (8 ∷ []) ∷ [])
    ≡ [] ∷ (7 ∷ 10 ∷ []) ∷ [] ∷ (8 ∷ []) ∷ [] ∷ []
