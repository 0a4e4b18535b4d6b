-- What says left allows: K's word on an atom serves an affirmation by L exactly when K speaks for L. Assumes nothing.
use mathlib.Core.Path.{◌≡◌, refl, subst}
use Rattle.basics.proofs.Membership.{first}
use Rattle.logic.specs.Proposition.{Principal}
use Rattle.logic.specs.Principals.{Relation}
use Rattle.logic.specs.Derivation.{init, affirm, says_left}
use Rattle.logic.specs.SaysLeft.{SaysServes}
use Rattle.logic.proofs.FromSigned.{one_signed, from_signed}

module _ {R : Relation} where
  pub says_serves : SaysServes R
  says_serves K L a =
      let ByK : Principal → Type 0 = λ M. M ≡ K in (
        λ D. from_signed R ByK (R K L) D (one_signed ByK _ refl) ((λ M e r. subst (λ N. R N L) e r), tt),
        λ r. says_left first r (affirm (init first)),
      )
