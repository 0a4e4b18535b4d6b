-- The lessons as classes and planners have them: derivations in Figure 1, where a principal's word serves that same
-- principal. Proved in proofs/Figure1.antt. Assumes nothing.
use Rattle.std.specs.Prelude.{ℕ, ◌≡◌, List, ◌++◌, map}
use Rattle.basics.specs.Membership.{◌∈◌}
use Rattle.logic.specs.Parts.{joined_first, joined_second}
use Rattle.logic.specs.Figure1 as Figure1
use Rattle.logic.specs.Figure1.{Same, EqualInForce}
use Rattle.steps.specs.Figure1.{same}
use Rattle.independence.specs.Unmentioned.{UnmentionedAddsNothing, MentionedMatters}
use Rattle.exchange.specs.Verdict.{Equal}
use Rattle.exchange.specs.Figure1.{exchange_answer}
use Rattle.lessons.specs.NoSteps.{RowsAre, ModelsRefute, OneWorldWontDo, NoStepsAtAll}
use Rattle.lessons.specs.NotEqual.{ListsAre, StandsThere, ModelsRefuteLists, NeverInForce}
use Rattle.lessons.specs.Folding.{both_lists, OrdersThatSign, Reel, of_reel, for_reel}
use Rattle.lessons.specs.Lessons.{Lessons}

-- Whichever principals are put for others.
abbrev pub EqualForEveryReel : Type 0
EqualForEveryReel =
    (exchange : List ℕ) → exchange_answer exchange ≡ Equal → (r : Reel)
    → EqualInForce (of_reel r (both_lists exchange).first) (of_reel r (both_lists exchange).second)

abbrev pub EqualForAllReels : Type 0
EqualForAllReels =
    (exchange : List ℕ) → exchange_answer exchange ≡ Equal → (reels : List Reel)
    → EqualInForce (joined_first (map (for_reel (both_lists exchange)) reels))
    (joined_second (map (for_reel (both_lists exchange)) reels))

pub record Taught : Type 1 where
  pub lessons : Lessons same Same
  -- Whoever says everything; and whoever is put for whom.
  pub no_proof : Figure1.NoProof
  pub substitution : Figure1.Substitution
  pub force_substituted : Figure1.ForceSubstituted
  pub equal_for_every_reel : EqualForEveryReel
  pub equal_for_all_reels : EqualForAllReels
  -- Two tables: refused samples for which no steps at all are a proof, each with its countermodel; one record needs
  -- more than one world.
  pub rows_are : RowsAre
  pub models_refute : ModelsRefute
  pub one_world_wont_do : OneWorldWontDo
  pub no_steps_at_all : NoStepsAtAll
  pub lists_are : ListsAre
  pub stands_there : StandsThere
  pub models_refute_lists : ModelsRefuteLists
  pub never_in_force : NeverInForce
  -- Whoever is not mentioned adds nothing, and if he says false: beside standing orders as well.
  pub unmentioned_adds_nothing : UnmentionedAddsNothing
  pub mentioned_matters : MentionedMatters
  -- The hazard of a new order that is what somebody says.
  pub orders_that_sign_lem : OrdersThatSign
