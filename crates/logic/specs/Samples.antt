-- 01's samples, as far as they are about propositions: what their statements prove and do not prove, by any steps at
-- all. As files they come with the checks. Proved in proofs/Samples.antt. Assumes nothing.
use Rattle.std.specs.Prelude.{◌≡◌, [], ◌∷◌}
use Rattle.logic.specs.Proposition.{atom, ◌implies◌, ◌and◌, ◌says◌}
use Rattle.logic.specs.Judgment.{◌affirms◌}
use Rattle.logic.specs.Depth.{step_depths}
use Rattle.logic.specs.Named.{says_left_names}
use Rattle.logic.specs.Figure1.{Derivation, HasProof, EqualInForce}

-- A, and the depths of its four steps: says right, says left, affirm, init. It opens its paper.
abbrev pub SampleA : Type 0
SampleA =
    (D : HasProof (7 says atom 0 ∷ []) (7 says atom 0))
    × (step_depths 1 D ≡ 1 ∷ 2 ∷ 3 ∷ 4 ∷ [])
    × (says_left_names D ≡ 7 says atom 0 ∷ [])

-- B, in three steps: says right, affirm, init. Principal 7 affirms, and no paper is opened.
abbrev pub SampleB : Type 0
SampleB =
    (D : HasProof (atom 0 ∷ []) (7 says atom 0)) × (step_depths 1 D ≡ 1 ∷ 2 ∷ 3 ∷ []) × (says_left_names D ≡ [])

abbrev pub SampleC : Type 0
SampleC = ¬ HasProof (7 says atom 0 ∷ []) (atom 0)

abbrev pub SampleD : Type 0
SampleD = ¬ HasProof (8 says atom 0 ∷ []) (7 says atom 0)

abbrev pub SampleF : Type 0
SampleF = ¬ HasProof [] (atom 0)

abbrev pub SampleK : Type 0
SampleK = EqualInForce (atom 0 and atom 1 ∷ []) (atom 0 ∷ atom 1 ∷ [])

-- No sample of 01: implies left on an affirmation, whose first premise is a truth. Implies left; init; affirm, init.
abbrev pub FirstPremiseIsTruth : Type 0
FirstPremiseIsTruth =
    (D : Derivation (atom 0 implies atom 1 ∷ atom 0 ∷ []) (7 affirms atom 1)) × (step_depths 1 D ≡ 1 ∷ 2 ∷ 2 ∷ 3 ∷ [])

-- No sample of 01: a paper is opened in each premise of and right.
abbrev pub OpenedInBoth : Type 0
OpenedInBoth =
    (D : HasProof (8 says atom 0 ∷ 7 says atom 0 ∷ []) (7 says atom 0 and 8 says atom 0))
    × (step_depths 1 D ≡ 1 ∷ 2 ∷ 3 ∷ 4 ∷ 5 ∷ 2 ∷ 3 ∷ 4 ∷ 5 ∷ [])
    × (says_left_names D ≡ 7 says atom 0 ∷ 8 says atom 0 ∷ [])

-- No sample of 01: a step with two premises, the first of them deeper. And right; says right, affirm, init; init.
abbrev pub FirstPremiseFirst : Type 0
FirstPremiseFirst = (D : HasProof (atom 0 ∷ []) (7 says atom 0 and atom 0)) × (step_depths 1 D ≡ 1 ∷ 2 ∷ 3 ∷ 4 ∷ 2 ∷ [])
