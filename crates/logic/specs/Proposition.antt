-- Propositions, which 01 calls formulas: finite trees of its six kinds, in its order and under its names.
-- "Outside a table its atoms and principals may have any number." Assumes nothing.
use Rattle.std.specs.Prelude.{ℕ}

-- says binds more tightly than the other connectives, as in 003.
infixr 80 ◌says◌
infixr 78 ◌and◌
infixr 76 ◌or◌
infixr 74 ◌implies◌
abbrev pub Atom : Type 0
Atom = ℕ

abbrev pub Principal : Type 0
Principal = ℕ

pub data Proposition : Type 0 where
  atom : Atom → Proposition
  false : Proposition
  ◌implies◌ : Proposition → Proposition → Proposition
  ◌and◌ : Proposition → Proposition → Proposition
  ◌or◌ : Proposition → Proposition → Proposition
  ◌says◌ : Principal → Proposition → Proposition
  deriving Discrete as Proposition-discrete
