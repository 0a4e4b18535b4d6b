-- What is promised of deputies. Proved in proofs/Speaks.antt. Assumes nothing.
use Rattle.std.specs.Prelude.{◌≡◌, ◌↔◌, List, []}
use Rattle.basics.specs.Membership.{◌∈◌}
use Rattle.logic.specs.Principals.{Relation, Reflexive, Transitive, Lawful}
use Rattle.logic.specs.Proposition.{Principal}
use Rattle.deputies.specs.SpeaksFor.{Pair, SpeaksFor, speaks}

-- The test decides the relation, which is reflexive and transitive, whatever pairs are lent: so what is promised for
-- every such test and relation holds with deputies.
abbrev pub SpeaksLawful : Type 0
SpeaksLawful = (pairs : List Pair) → Lawful (speaks pairs) (SpeaksFor pairs)

-- "the empty one is 01's case": the same K
abbrev pub NoPairs : Type 0
NoPairs = (K L : Principal) → SpeaksFor [] K L ↔ K ≡ L

-- It is the least such relation: whatever is reflexive, transitive and holds for each pair holds where K speaks for L.
-- So nobody speaks for another but by the pairs.
abbrev pub OnlyByPairs : Type 1
OnlyByPairs =
    (pairs : List Pair) (R : Relation) → Reflexive R → Transitive R
    → ((pair : Pair) → pair ∈ pairs → R pair.deputy pair.principal)
    → (K L : Principal) → SpeaksFor pairs K L → R K L

-- Each deputy speaks for his principal.
abbrev pub DeputySpeaks : Type 0
DeputySpeaks = (pairs : List Pair) (pair : Pair) → pair ∈ pairs → SpeaksFor pairs pair.deputy pair.principal
