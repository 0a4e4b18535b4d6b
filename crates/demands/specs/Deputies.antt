-- The demands with deputies: "a deputy's paper should count for the foreman" (02, job 14). No code lends pairs yet;
-- this shows that `speaks` and R are what that request changes. Proved in proofs/Deputies.antt. Assumes nothing.
use Rattle.std.specs.Prelude.{ℕ, ◌≡◌, List, [], ◌∷◌, map}
use Rattle.file.specs.Words.{file_of}
use Rattle.deputies.specs.SpeaksFor.{Pair, ◌for◌, SpeaksFor, speaks}
use Rattle.record.specs.Verdict.{Granted, Refused}
use Rattle.record.specs.Answer.{record_answer}
use Rattle.record.specs.Samples.{over_t}
use Rattle.demands.specs.Demands.{Demands}

-- "shown for every such list": the three demands hold for derivations in which K says A serves an affirmation by any L
-- that K speaks for, and the answer that tests that.
abbrev pub DemandsWithDeputies : Type 0
DemandsWithDeputies = (pairs : List Pair) → Demands (speaks pairs) (SpeaksFor pairs)

-- A's steps over table T, with 8's word as the goal and a paper of 7: where 7 is deputy of 8, and where 8 is deputy of
-- 7; by way of 9; and with no pairs, 01's case.
abbrev pub DeputySamples : Type 0
DeputySamples =
    let file : List ℕ = file_of (over_t (1 ∷ []) 2 (40960 ∷ 45057 ∷ 4096 ∷ 0 ∷ [])) in
    map (λ (pairs : List Pair). record_answer (speaks pairs) file 1)
    ((7 for 8 ∷ []) ∷ (8 for 7 ∷ []) ∷ (9 for 8 ∷ 7 for 9 ∷ []) ∷ [] ∷ [])
    ≡ Granted 1 ∷ Refused 14 1 ∷ Granted 1 ∷ Refused 14 1 ∷ []
