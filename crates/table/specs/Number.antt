-- The number of a proposition in a table: the first position at which the table spells it, or F. Assumes nothing.
use Rattle.std.specs.Prelude.{ℕ, zero, suc, List, [], ◌∷◌, ◌≡◌}
use Rattle.std.proofs.Math.Decide.{ℕ_discrete}
use Rattle.logic.specs.Proposition.{Proposition, Proposition-discrete}
use Rattle.table.specs.declared.entry.Entry.{Entry}
use Rattle.table.specs.Spelled.{spelled}

-- 0 where the two are equal, else one more
abbrev pub unless_equal : {A B : Proposition} → Dec (A ≡ B) → ℕ → ℕ
unless_equal (yes e) n = zero
unless_equal (no d) n = suc n

-- the first position of A, or the length
unfoldable pub position : List Proposition → Proposition → ℕ
position [] A = zero
position (B ∷ Bs) A = unless_equal (Proposition-discrete ℕ_discrete A B) (position Bs A)

unfoldable pub number : List Entry → Proposition → ℕ
number es A = position (spelled es) A
