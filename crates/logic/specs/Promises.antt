-- All that is promised of derivations, for every relation on principals that is reflexive and transitive: one theorem,
-- proved in proofs/Promises.antt. (Most of it holds for more relations: the proofs say for which.) Assumes nothing.
use Rattle.logic.specs.Principals.{Relation, Reflexive, Transitive}
use Rattle.logic.specs.Depth.{DepthOfSteps}
use Rattle.logic.specs.Structural.{Weakening, OneSet, TwiceIsOnce}
use Rattle.logic.specs.OneStep.{OneStep}
use Rattle.logic.specs.SaysLeft.{SaysServes}
use Rattle.logic.specs.Cut.{Identity, Cut, AffirmationCut}
use Rattle.logic.specs.Force.{ForceByStatements, ForceJoined, ReleaseKept, AnyReleaseKept}
use Rattle.logic.specs.Parts.{ForceInParts}
use Rattle.logic.specs.Substitution.{Substitution, ForceSubstituted}
use Rattle.logic.specs.SignedAlone.{SignedAlone}
use Rattle.logic.specs.Countermodels.{NoProof}

pub record Promises (R : Relation) : Type 0 where
  pub depth_of_steps : DepthOfSteps R
  pub weakening : Weakening R
  pub one_set : OneSet R
  pub twice_is_once : TwiceIsOnce R
  pub one_step : OneStep R
  pub says_serves : SaysServes R
  pub identity : Identity R
  pub cut : Cut R
  pub affirmation_cut : AffirmationCut R
  pub force_by_statements : ForceByStatements R
  pub force_joined : ForceJoined R
  pub release_kept : ReleaseKept R
  pub any_release_kept : AnyReleaseKept R
  pub force_in_parts : ForceInParts R
  pub substitution : Substitution R R
  pub force_substituted : ForceSubstituted R R
  pub signed_alone : SignedAlone R
  pub no_proof : NoProof R

abbrev pub ForEveryRelation : Type 1
ForEveryRelation = (R : Relation) → Reflexive R → Transitive R → Promises R
