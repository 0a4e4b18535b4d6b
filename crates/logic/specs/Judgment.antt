-- Judgments: what is derived. "A goal is a truth of one formula or an affirmation of one formula by one principal."
-- (01) 003 writes A true and K affirms A, and γ for either. Assumes nothing.
use Rattle.logic.specs.Proposition.{Proposition, Principal}

infixr 72 ◌affirms◌
pub data Judgment : Type 0 where
  truth : Proposition → Judgment
  ◌affirms◌ : Principal → Proposition → Judgment
