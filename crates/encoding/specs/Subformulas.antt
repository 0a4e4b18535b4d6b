-- The formulas of a table: the given propositions and all that they are made of, each once, operands first. Proved in
-- proofs/Subformulas.antt and proofs/Counted.antt. Assumes nothing.
use Rattle.std.specs.Prelude.{ℕ, ◌<◌, ◌≡◌, ◌↔◌, List, [], ◌∷◌, ◌++◌, length, ltb}
use Rattle.basics.specs.Choice.{pick}
use Rattle.basics.specs.Membership.{◌∈◌, ◌⊆◌}
use Rattle.logic.specs.Proposition.{Proposition, atom, false, ◌implies◌, ◌and◌, ◌or◌, ◌says◌}
use Rattle.table.specs.Spelled.{among}
use Rattle.table.specs.Number.{position}
use Rattle.encoding.specs.Bounds.{NumberFits, operands, HasOperands, FewEntries, FewFormulas}

-- A at the end, unless the list has it already
abbrev pub put : Proposition → List Proposition → List Proposition
put A made = pick (ltb (position made A) (length made)) made (made ++ A ∷ [])

-- A after all that it is made of
unfoldable pub enter : Proposition → List Proposition → List Proposition
enter (atom a) made = put (atom a) made
enter false made = put false made
enter (A implies B) made = put (A implies B) (enter B (enter A made))
enter (A and B) made = put (A and B) (enter B (enter A made))
enter (A or B) made = put (A or B) (enter B (enter A made))
enter (K says A) made = put (K says A) (enter A made)

unfoldable pub enter_all : List Proposition → List Proposition → List Proposition
enter_all [] made = made
enter_all (A ∷ As) made = enter_all As (enter A made)

abbrev pub subformulas : List Proposition → List Proposition
subformulas As = enter_all As []

-- "An operand that is a formula has a lower number than the entry that uses it" (01), and no proposition stands twice.
pub record TableOrder (formulas : List Proposition) : Type 0 where
  pub none_twice : (i j : ℕ) → i < j → j < length formulas → ¬ (among formulas i ≡ among formulas j)
  pub operands_first :
      (i : ℕ) → i < length formulas → (C : Proposition) → C ∈ operands (among formulas i) → position formulas C < i

-- The list has this order, holds the given propositions, and is no more than is needed: each list that holds them and
-- all that they are made of has all of it.
pub record Subformulas (As formulas : List Proposition) : Type 0 where
  pub in_order : TableOrder formulas
  pub holds : As ⊆ formulas
  pub needed : (others : List Proposition) → As ⊆ others → HasOperands others → formulas ⊆ others

abbrev pub SubformulasAre : Type 0
SubformulasAre = (As : List Proposition) → Subformulas As (subformulas As)

-- So `FewFormulas` is a matter of counting: few different subformulas, and every number in them fits.
abbrev pub CountedFormulas : Type 0
CountedFormulas =
    (As : List Proposition)
    → FewFormulas As
    ↔ (FewEntries (length (subformulas As)) × ((B : Proposition) → B ∈ subformulas As → NumberFits B))
