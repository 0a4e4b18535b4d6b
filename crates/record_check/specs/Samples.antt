-- Samples of the parts: what `judge_parts`, `judge_steps` and `judge_room` answer, also for arrays that no file has.
-- Proved in proofs/Samples.antt, by computation. Assumes nothing.
use Rattle.std.specs.Prelude.{◌≡◌, [], ◌∷◌, map, replicate}
use Rattle.basics.specs.Tested.{Passed, Refused}
use Rattle.basics.specs.Refusals.{first_refusal}
use Rattle.record_check.specs.Parts.{part_tests, room_test, step_test}

-- 256 statements; 257, and no entry for them nor for the goal; arrays of unlike length, the first entry of them wrong;
-- no table; a goal and then a statement without an entry
abbrev pub Parts : Type 0
Parts =
    map first_refusal
    (part_tests (0 ∷ []) (0 ∷ []) (replicate 256 0) 0
    ∷ part_tests (0 ∷ []) (0 ∷ []) (replicate 257 9) 9
    ∷ part_tests (20487 ∷ 0 ∷ []) (0 ∷ []) [] 9
    ∷ part_tests [] [] (9 ∷ []) 9
    ∷ part_tests (0 ∷ []) (0 ∷ []) (0 ∷ 9 ∷ []) 9
    ∷ part_tests (0 ∷ []) (0 ∷ []) (0 ∷ 9 ∷ []) 0
    ∷ [])
    ≡ Passed ∷ Refused 2 0 ∷ Refused 2 0 ∷ Refused 2 0 ∷ Refused 6 0 ∷ Refused 7 1 ∷ []

-- no step; the right one; one more
abbrev pub Steps : Type 0
Steps =
    map (λ steps. first_refusal (step_test (0 ∷ []) (0 ∷ []) (0 ∷ []) 0 steps ∷ [])) ([] ∷ (0 ∷ []) ∷ (0 ∷ 0 ∷ []) ∷ [])
    ≡ Refused 9 0 ∷ Passed ∷ Refused 15 1 ∷ []

-- Principals 7, 8 and 9 say atom 0, and all but 9 have a paper, 7 twice. Says lefts name what 7, 8 and 9 say: room for
-- two, and for one. They name 7's word alone, and another code names 8's: room for one, and for none. The seconds are
-- an array too long, which adds no entry.
abbrev pub Room : Type 0
Room =
    map
    (λ (steps, room).
    first_refusal
    (room_test (0 ∷ 20487 ∷ 20488 ∷ 20489 ∷ []) (0 ∷ 0 ∷ 0 ∷ 0 ∷ 0 ∷ []) (1 ∷ 2 ∷ 1 ∷ []) steps room ∷ []))
    ((45057 ∷ 45058 ∷ 45059 ∷ [], 2)
    ∷ (45057 ∷ 45058 ∷ 45059 ∷ [], 1)
    ∷ (24578 ∷ 45057 ∷ [], 1)
    ∷ (24578 ∷ 45057 ∷ [], 0)
    ∷ [])
    ≡ Passed ∷ Refused 8 0 ∷ Passed ∷ Refused 8 0 ∷ []
