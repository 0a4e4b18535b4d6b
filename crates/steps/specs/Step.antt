-- One step: tests 10 to 14 in this order. "A step word is code × 4,096 + the named formula's number; where the rule
-- names none that part is 0." (01) The answer is a refusal's number, or the premises. Assumes nothing.
use Rattle.std.specs.Prelude.{ℕ, Bool, List, [], ◌∷◌, length, get_or, eqb, ltb, leb}
use Rattle.basics.specs.Choice.{pick, both}
use Rattle.basics.specs.Membership.{holds}
use Rattle.basics.specs.Word.{upper, lower}
use Rattle.table.specs.declared.entry.Entry.{Entry}
use Rattle.steps.specs.declared.goal.Goal.{Goal}
use Rattle.steps.specs.declared.opened.Opened.{Opened}
use Rattle.steps.specs.declared.opened.Opened.TheVariants.{Refused}
use Rattle.steps.specs.Obligation.{Obligation}
use Rattle.steps.specs.Rules.{init, affirm, implies_right, implies_left, false_left, and_right, and_left, or_right_first, or_right_second, or_left, says_right, says_left}

-- A rule names a hypothesis, or it names nothing; a code of 12 or more is no rule.
pub data Rule : Type 0 where
  names : (ℕ → Goal → Opened) → Rule
  plain : (Goal → Opened) → Rule
  unknown : Rule

module _ (speaks : ℕ → ℕ → Bool) (es : List Entry) where
  -- the twelve rules, in the order of their codes
  abbrev pub rules : List Rule
  rules =
      names (init speaks es)
      ∷ plain (affirm speaks es)
      ∷ plain (implies_right speaks es)
      ∷ names (implies_left speaks es)
      ∷ names (false_left speaks es)
      ∷ plain (and_right speaks es)
      ∷ names (and_left speaks es)
      ∷ plain (or_right_first speaks es)
      ∷ plain (or_right_second speaks es)
      ∷ names (or_left speaks es)
      ∷ plain (says_right speaks es)
      ∷ names (says_left speaks es)
      ∷ []

  -- "11. The code is 12 or more, or a rule that names nothing has a part other than 0."
  -- "12. The named formula isn't a hypothesis here; a number of F or more never is." (`holds`: "a statement that stands
  -- twice is one hypothesis")
  abbrev pub applied : Rule → List ℕ → ℕ → Goal → Opened
  applied (names rule) hypotheses n g = pick (both (ltb n (length es)) (holds hypotheses n)) (rule n g) (Refused 12)
  applied (plain rule) hypotheses n g = pick (eqb n 0) (rule g) (Refused 11)
  applied unknown hypotheses n g = Refused 11

  -- tests 11 to 14
  unfoldable pub opens : ℕ → Obligation → Opened
  opens w o = applied (get_or rules (upper w) unknown) o.hypotheses (lower w) o.goal

  -- "10. The step's depth is above 512": above the limit given
  unfoldable pub step : ℕ → ℕ → Obligation → Opened
  step limit w o = pick (leb o.depth limit) (opens w o) (Refused 10)
