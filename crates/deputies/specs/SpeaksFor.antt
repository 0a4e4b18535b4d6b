-- "Lend a list of .. pairs, deputy and principal ..; K speaks for L if K is L or a chain of pairs leads there, and
-- circles are allowed." (02, job 14) Assumes nothing.
use Rattle.std.specs.Prelude.{Bool, true, ◌≡◌, List, [], ◌∷◌, eqb}
use Rattle.basics.specs.Choice.{pick, both}
use Rattle.basics.specs.Membership.{◌∈◌}
use Rattle.logic.specs.Proposition.{Principal}

pub record Pair : Type 0 where
  pub deputy : Principal
  pub principal : Principal

abbrev pub ◌for◌ : Principal → Principal → Pair
◌for◌ K L = record { deputy = K; principal = L }

infix 75 ◌for◌
-- A chain: K is L, or K is the deputy of a pair and a chain leads on from its principal.
pub data SpeaksFor (pairs : List Pair) : Principal → Principal → Type 0 where
  itself : {K : Principal} → SpeaksFor pairs K K
  by_pair :
      {K L : Principal} (pair : Pair) → pair ∈ pairs → K ≡ pair.deputy → SpeaksFor pairs pair.principal L
      → SpeaksFor pairs K L

-- The same as a test. With one pair more: by the others alone, or by them to its deputy and from its principal on. A
-- chain that uses the pair again can be cut short, so circles need no more.
unfoldable pub speaks : List Pair → Principal → Principal → Bool
speaks [] K L = eqb K L
speaks (pair ∷ pairs) K L =
    pick (speaks pairs K L) true (both (speaks pairs K pair.deputy) (speaks pairs pair.principal L))
