-- Relations on principals, where R K L says that K's word may serve an affirmation by L; and tests that decide them.
-- Figure 1 takes equality (Figure1.antt); 02, job 14, will take "K speaks for L" (the crate `deputies`). Assumes
-- nothing.
use Rattle.std.specs.Prelude.{Bool, true, ◌≡◌, ◌↔◌}
use Rattle.logic.specs.Proposition.{Principal}

abbrev pub Relation : Type 1
Relation = Principal → Principal → Type 0

abbrev pub Reflexive : Relation → Type 0
Reflexive R = (K : Principal) → R K K

abbrev pub Transitive : Relation → Type 0
Transitive R = (K L M : Principal) → R K L → R L M → R K M

-- The test says true exactly where the relation holds.
abbrev pub Decides : (Principal → Principal → Bool) → Relation → Type 0
Decides speaks R = (K L : Principal) → speaks K L ≡ true ↔ R K L

-- The most that anything asks of a test and a relation. "The same K" (01, code 11) and equality are one such pair.
pub record Lawful (speaks : Principal → Principal → Bool) (R : Relation) : Type 0 where
  pub decides : Decides speaks R
  pub reflexive : Reflexive R
  pub transitive : Transitive R
