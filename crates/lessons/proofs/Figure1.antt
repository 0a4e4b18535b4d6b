-- The lessons hold (specs/Figure1.antt). Assumes nothing.
use mathlib.Core.Path.{ap}
use Rattle.logic.specs.Figure1.{Same}
use Rattle.logic.proofs.Figure1 as Figure1
use Rattle.steps.specs.Figure1.{same}
use Rattle.steps.proofs.Figure1.{same_lawful}
use Rattle.independence.proofs.Unmentioned.{unmentioned_adds_nothing, mentioned_matters}
use Rattle.lessons.specs.Figure1.{EqualForEveryReel, EqualForAllReels, Taught}
use Rattle.lessons.proofs.NoSteps.{rows_are, models_refute, one_world_wont_do, no_steps_at_all}
use Rattle.lessons.proofs.NotEqual.{lists_are, stands_there, models_refute_lists, never_in_force}
use Rattle.lessons.proofs.Folding as Folding
use Rattle.lessons.proofs.Lessons.{for_every_relation}

equal_for_every_reel : EqualForEveryReel
equal_for_every_reel exchange equal r =
    Folding.equal_for_every_reel same Same same_lawful exchange equal r (λ K L e. ap r.principals e)

equal_for_all_reels : EqualForAllReels
equal_for_all_reels exchange equal reels =
    Folding.equal_for_all_reels same Same same_lawful exchange equal reels (λ r i K L e. ap r.principals e)

pub taught : Taught
taught = record {
  lessons = for_every_relation same Same same_lawful;
  no_proof = Figure1.no_proof;
  substitution = Figure1.substitution;
  force_substituted = Figure1.force_substituted;
  equal_for_every_reel = equal_for_every_reel;
  equal_for_all_reels = equal_for_all_reels;
  rows_are = rows_are;
  models_refute = models_refute;
  one_world_wont_do = one_world_wont_do;
  no_steps_at_all = no_steps_at_all;
  lists_are = lists_are;
  stands_there = stands_there;
  models_refute_lists = models_refute_lists;
  never_in_force = never_in_force;
  unmentioned_adds_nothing = unmentioned_adds_nothing;
  mentioned_matters = mentioned_matters;
  orders_that_sign_lem = Folding.orders_that_sign_lem;
}
