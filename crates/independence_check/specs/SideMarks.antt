-- The marks of a table's formulas for the two sides: what `mark_sides` leaves, and `marks_of` finds for one entry.
-- Assumes nothing.
use Rattle.std.specs.Prelude.{ℕ, Bool, ◌≡◌, List, map, length, take}
use Rattle.logic.specs.Proposition.{Proposition}
use Rattle.logic.specs.Sides as Sides
use Rattle.logic.specs.Sides.{Side}
use Rattle.table.specs.declared.entry.Entry.{Entry}
use Rattle.table.specs.Tests.{entries}
use Rattle.table.specs.Spelled.{proposition, spelled}
use Rattle.steps.specs.Figure1.{same}
use Rattle.independence.specs.Test.{proving_says}

-- The first marks are the test's answers for the table's formulas, each standing on this side.
abbrev pub MarkedFor : Side → ℕ → List ℕ → List ℕ → List Bool → Type 0
MarkedFor s K heads seconds marks =
    take (length (entries heads seconds)) marks ≡ map (proving_says same K s) (spelled (entries heads seconds))

-- Where the marks for both sides are those of the formulas made so far, what is found for each side is what holds of
-- the entry's own formula.
abbrev pub MarksOf : ℕ → List Bool → List Bool → Entry → Bool → Bool → Type 0
MarksOf K proving given entry on-proving on-given =
    (made : List Proposition) → proving ≡ map (proving_says same K Sides.proving) made
    → given ≡ map (proving_says same K Sides.given) made
    → (on-proving ≡ proving_says same K Sides.proving (proposition made entry))
    × (on-given ≡ proving_says same K Sides.given (proposition made entry))
