-- "For a principal K the test says independent exactly when no says-formula of K stands on the proving side of the goal
-- or of any statement, leaving out statements that are themselves K says something." (02, job 5) The test on
-- propositions; `speaks` compares principals: for Figure 1 it is "the same K" (Figure1.antt). Sides and independence
-- without a test are in logic/specs/Sides.antt. Assumes nothing.
use Rattle.std.specs.Prelude.{ℕ, Bool, false, not, ◌||◌, List, [], ◌∷◌, eqb}
use Rattle.basics.specs.Choice.{both}
use Rattle.logic.specs.Proposition.{Proposition, Principal, atom, false as falsum, ◌implies◌, ◌and◌, ◌or◌, ◌says◌}
use Rattle.logic.specs.Sides.{Side, proving, given, other}

-- whether A is itself K says something
abbrev pub is_own : Principal → Proposition → Bool
is_own K (atom a) = false
is_own K falsum = false
is_own K (A implies B) = false
is_own K (A and B) = false
is_own K (A or B) = false
is_own K (L says A) = eqb L K

module _ (speaks : ℕ → ℕ → Bool) (K : Principal) where
  -- whether what L says counts where it stands on a side: on the proving side, where K speaks for L
  abbrev pub counts : Side → Principal → Bool
  counts proving L = speaks K L
  counts given L = false

  -- whether a says-formula that counts stands in A, where A itself stands on side s: "operands keep the side, but the
  -- left of an implies takes the other"
  unfoldable pub proving_says : Side → Proposition → Bool
  proving_says s (atom a) = false
  proving_says s falsum = false
  proving_says s (A implies B) = proving_says (other s) A || proving_says s B
  proving_says s (A and B) = proving_says s A || proving_says s B
  proving_says s (A or B) = proving_says s A || proving_says s B
  proving_says s (L says A) = counts s L || proving_says s A

  -- whether one stands in a statement, K's own left out; and in some statement of a list
  abbrev pub in_statement : Proposition → Bool
  in_statement A = both (not (is_own K A)) (proving_says given A)

  unfoldable pub in_statements : List Proposition → Bool
  in_statements [] = false
  in_statements (A ∷ Γ) = in_statement A || in_statements Γ

  -- "a goal stands on the proving side, a statement on the given side"
  abbrev pub is_independent : List Proposition → Proposition → Bool
  is_independent Γ C = not (proving_says proving C || in_statements Γ)
