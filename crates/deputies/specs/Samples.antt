-- Samples of who speaks for whom. Proved in proofs/Samples.antt, by computation. Assumes nothing.
use Rattle.std.specs.Prelude.{Bool, true, false, ◌≡◌, List, [], ◌∷◌, map}
use Rattle.logic.specs.Proposition.{Principal}
use Rattle.deputies.specs.SpeaksFor.{Pair, ◌for◌, speaks}

-- for each of these principals, in order, whether he speaks for each of them
abbrev pub asked : List Pair → List Principal → List (List Bool)
asked pairs principals = map (λ (K : Principal). map (speaks pairs K) principals) principals

-- 3 is deputy of 7, and 7 of 9: by one pair, by both, and not the other way round; the same with the pairs in the other
-- order, or one of them twice; a circle of three, and 5, who stands outside; and no pairs.
abbrev pub Samples : Type 0
Samples =
    let answers : List (List Bool) =
    (true ∷ true ∷ true ∷ []) ∷ (false ∷ true ∷ true ∷ []) ∷ (false ∷ false ∷ true ∷ []) ∷ [] in
    (asked (3 for 7 ∷ 7 for 9 ∷ []) (3 ∷ 7 ∷ 9 ∷ []) ≡ answers)
    × (asked (7 for 9 ∷ 3 for 7 ∷ []) (3 ∷ 7 ∷ 9 ∷ []) ≡ answers)
    × (asked (3 for 7 ∷ 7 for 9 ∷ 3 for 7 ∷ []) (3 ∷ 7 ∷ 9 ∷ []) ≡ answers)
    × (asked (1 for 2 ∷ 2 for 3 ∷ 3 for 1 ∷ []) (1 ∷ 2 ∷ 3 ∷ 5 ∷ [])
    ≡ (true ∷ true ∷ true ∷ false ∷ [])
    ∷ (true ∷ true ∷ true ∷ false ∷ [])
    ∷ (true ∷ true ∷ true ∷ false ∷ [])
    ∷ (false ∷ false ∷ false ∷ true ∷ [])
    ∷ [])
    × (asked [] (4 ∷ 5 ∷ []) ≡ (true ∷ false ∷ []) ∷ (false ∷ true ∷ []) ∷ [])
