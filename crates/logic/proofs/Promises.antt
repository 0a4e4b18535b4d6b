-- All promises together. Each is cited with the laws of the relation that it needs. Assumes nothing.
use Rattle.logic.specs.Promises.{ForEveryRelation}
use Rattle.logic.proofs.Depth.{depth_of_steps}
use Rattle.logic.proofs.Structural.{weakening, one_set, twice_is_once}
use Rattle.logic.proofs.OneStep.{one_step}
use Rattle.logic.proofs.SaysLeft.{says_serves}
use Rattle.logic.proofs.Identity.{identity}
use Rattle.logic.proofs.Cut.{cut, affirmation_cut}
use Rattle.logic.proofs.Force.{force_by_statements, force_joined, release_kept, any_release_kept}
use Rattle.logic.proofs.Parts.{force_in_parts}
use Rattle.logic.proofs.Substitution.{substitution, force_substituted}
use Rattle.logic.proofs.SignedAlone.{signed_alone}
use Rattle.logic.proofs.Countermodels.{no_proof}

pub for_every_relation : ForEveryRelation
for_every_relation R reflexive transitive = record {
  depth_of_steps = depth_of_steps;
  weakening = weakening;
  one_set = one_set;
  twice_is_once = twice_is_once;
  one_step = one_step;
  says_serves = says_serves;
  identity = identity reflexive;
  cut = cut transitive;
  affirmation_cut = affirmation_cut transitive reflexive;
  force_by_statements = force_by_statements reflexive transitive;
  force_joined = force_joined reflexive transitive;
  release_kept = release_kept reflexive transitive;
  any_release_kept = any_release_kept reflexive transitive;
  force_in_parts = force_in_parts reflexive transitive;
  substitution = substitution reflexive;
  force_substituted = force_substituted reflexive transitive reflexive transitive;
  signed_alone = signed_alone R;
  no_proof = no_proof R;
}
