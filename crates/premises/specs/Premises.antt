-- The shapes of premises, in the machine's words: what each opens for a goal; and the first and the last premise of
-- what is opened. Assumes nothing.
use Rattle.steps.specs.declared.goal.Goal.{Goal}
use Rattle.steps.specs.declared.goal.Goal.TheVariants.{True, Affirms}
use Rattle.steps.specs.declared.opened.Premise.{Premise}
use Rattle.steps.specs.declared.opened.Opened.{Opened}
use Rattle.steps.specs.declared.opened.Opened.TheVariants as Opening
use Rattle.steps.specs.Obligation.{alone, adding, adding_both}
use Rattle.premises.specs.declared.premises.Premises.{Premises}
use Rattle.premises.specs.declared.premises.Premises.TheVariants.{Refused, Closed, Truth, TruthWith, With, WithBoth, TruthThenWith, BothTruths, WithEither, Affirmation}

abbrev pub opened : Goal → Premises → Opened
opened g (Refused n) = Opening.Refused n
opened g Closed = Opening.Closed
opened g (Truth a) = Opening.One (alone (True a))
opened g (TruthWith b a) = Opening.One (adding (True b) a)
opened g (With a) = Opening.One (adding g a)
opened g (WithBoth a b) = Opening.One (adding_both g a b)
opened g (TruthThenWith a b) = Opening.Two (alone (True a)) (adding g b)
opened g (BothTruths a b) = Opening.Two (alone (True a)) (alone (True b))
opened g (WithEither a b) = Opening.Two (adding g a) (adding g b)
opened g (Affirmation k a) = Opening.One (alone (Affirms k a))

-- the first premise of a goal, and the last; where there is none, the goal alone
abbrev pub first_of : Goal → Opened → Premise
first_of g (Opening.Refused n) = alone g
first_of g Opening.Closed = alone g
first_of g (Opening.One p) = p
first_of g (Opening.Two p q) = p

abbrev pub last_of : Goal → Opened → Premise
last_of g (Opening.Refused n) = alone g
last_of g Opening.Closed = alone g
last_of g (Opening.One p) = p
last_of g (Opening.Two p q) = q
