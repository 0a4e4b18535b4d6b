-- Every test decides a relation: where it says true. So what is proved of a test and the relation that it decides, and
-- doesn't speak of the relation, holds for every test. Assumes nothing.
use mathlib.Core.Bool.{Bool, true}
use mathlib.Core.Path.{◌≡◌}
use Rattle.logic.specs.Proposition.{Principal}
use Rattle.logic.specs.Principals.{Relation, Decides}

abbrev pub Decided : (Principal → Principal → Bool) → Relation
Decided speaks K L = speaks K L ≡ true

pub decided : (speaks : Principal → Principal → Bool) → Decides speaks (Decided speaks)
decided speaks K L = (λ e. e, λ e. e)
