-- The six formulas of 003, section 2.2. Assumes nothing.
use mathlib.Core.Path.{refl}
use Rattle.basics.proofs.Membership.{first, second}
use Rattle.logic.specs.Derivation.{affirm, implies_right, implies_left, says_right, says_left}
use Rattle.logic.specs.Figure1.{Same}
use Rattle.logic.specs.Says.{TruthIsSaid, SaysDistributes, SaysTwiceIsSays, SaidIsNotTrue, SaidFalseIsNotFalse, SaidIsNotSaidByAnother}
use Rattle.logic.specs.Signed.{Anybody, OtherThan}
use Rattle.logic.proofs.FromSigned.{none_signed, from_signed}
use Rattle.logic.proofs.Figure1.{figure1}

pub truth_is_said : TruthIsSaid
truth_is_said K A = implies_right (says_right (affirm (figure1.identity _ A first)))

pub says_distributes : SaysDistributes
says_distributes K A B =
    let A-true = figure1.identity _ A first in
    let B-true = figure1.identity _ B first in
    implies_right (implies_right (says_right (says_left second refl (says_left second refl (affirm (implies_left second A-true B-true))))))

pub says_twice_is_says : SaysTwiceIsSays
says_twice_is_says K A = implies_right (says_right (says_left first refl (says_left first refl (affirm (figure1.identity _ A first)))))

pub said_is_not_true : SaidIsNotTrue
said_is_not_true K a D = from_signed Same Anybody ⊥ D (none_signed Anybody) (tt, tt)

pub said_false_is_not_false : SaidFalseIsNotFalse
said_false_is_not_false K D = from_signed Same Anybody ⊥ D (none_signed Anybody) (tt, tt)

pub said_is_not_said_by_another : SaidIsNotSaidByAnother
said_is_not_said_by_another K L other a D = from_signed Same (OtherThan L) ⊥ D (none_signed (OtherThan L)) (other, ((λ M differs. differs), tt))
