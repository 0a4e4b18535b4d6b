-- 01's samples over propositions. The derivations are those of its step words. Assumes nothing.
use native.Mathlib.Omega.{arith}
use mathlib.Core.Path.{refl}
use Rattle.basics.proofs.Membership.{first, second}
use Rattle.logic.specs.Derivation.{init, affirm, implies_left, and_right, and_left, says_right, says_left}
use Rattle.logic.specs.Figure1.{Same}
use Rattle.logic.specs.Samples.{FirstPremiseIsTruth, SampleA, SampleB, SampleC, SampleD, SampleF, SampleK, FirstPremiseFirst, OpenedInBoth}
use Rattle.logic.specs.Signed.{Anybody, OtherThan}
use Rattle.logic.proofs.FromSigned.{none_signed, one_signed, from_signed}
use Rattle.logic.proofs.Force.{each_nil, each_cons}
use Rattle.logic.proofs.Figure1.{figure1}
use Rattle.logic.proofs.Misreadings.{signed_give_no_atom, says_gives_no_atom}

pub sample_a : SampleA
sample_a = (says_right (says_left first refl (affirm (init first))), refl, refl)

pub sample_b : SampleB
sample_b = (says_right (affirm (init first)), refl, refl)

pub sample_c : SampleC
sample_c = says_gives_no_atom 7 0

pub sample_d : SampleD
sample_d D = from_signed Same (OtherThan 7) ⊥ D (one_signed (OtherThan 7) _ (omega arith)) ((λ M differs. differs), tt)

pub sample_f : SampleF
sample_f = signed_give_no_atom _ (none_signed Anybody) 0

pub sample_k : SampleK
sample_k =
    (figure1.force_by_statements _ _).1 (
      each_cons _ (and_right (init first) (init second)) (each_nil _),
      each_cons _ (and_left first (init first)) (each_cons _ (and_left first (init second)) (each_nil _)),
    )

pub first_premise_first : FirstPremiseFirst
first_premise_first = (and_right (says_right (affirm (init first))) (init first), refl)

pub first_premise_is_truth : FirstPremiseIsTruth
first_premise_is_truth = (implies_left first (init second) (affirm (init first)), refl)

pub opened_in_both : OpenedInBoth
opened_in_both = (
  and_right
      (says_right (says_left second refl (affirm (init first))))
      (says_right (says_left first refl (affirm (init first)))),
  refl,
  refl,
)
