-- What classes and planners may rely on beyond what 00 and 02 ask for, as one promise, for a test `speaks` on
-- principals and a relation R. For Figure 1, and with what is about Figure 1 alone, it is `Taught` (Figure1.antt).
-- Proved in proofs/Lessons.antt. Assumes nothing.
use Rattle.std.specs.Prelude.{ℕ, Bool}
use Rattle.logic.specs.Principals.{Relation, Lawful}
use Rattle.logic.specs.Parts.{ForceInParts, PartsAre}
use Rattle.logic.specs.Substitution.{Substitution, ForceSubstituted, PutThemselves, PutSamples}
use Rattle.logic.specs.SignedAlone.{OrInAPaper}
use Rattle.logic.specs.Models.{Sound, HoldsOn, SaysAll}
use Rattle.logic.specs.Countermodels.{TrueThere, NoProof, TruthsAre, PassesOneWay}
use Rattle.independence.specs.Unmentioned.{FirstNonInterference, MentionedAre, SpeaksOneWay}
use Rattle.lessons.specs.Folding.{ListsOfK, ExchangedInParts, OwnPapersByForce, OnlyOrdersAre, PapersKept, NobodyNewSigns, EqualForEveryReel, EqualForAllReels, KeptForEveryReel, OrdersStay, OrdersNeedNotStay}

pub record Lessons (speaks : ℕ → ℕ → Bool) (R : Relation) : Type 1 where
  -- What does not follow: a goal that fails in a model where the statements hold has no proof, of any size. With one
  -- world that computes. An or in a paper takes more worlds.
  pub sound : Sound R
  pub holds_on : HoldsOn R
  pub says_all : SaysAll R
  pub no_proof : NoProof R
  pub true_there : TrueThere R
  pub truths_are : TruthsAre
  pub passes_one_way : PassesOneWay
  pub or_in_a_paper_lem : OrInAPaper R
  -- Who is not mentioned adds nothing, whatever he says.
  pub first_non_interference : FirstNonInterference R
  pub mentioned_are : MentionedAre
  pub speaks_one_way : SpeaksOneWay
  -- Propositions for atoms, and principals for principals.
  pub substitution : Substitution R R
  pub force_substituted : ForceSubstituted R R
  pub put_themselves : PutThemselves
  pub put_samples : PutSamples
  -- Folding in parts; one exchange file for every reel, and for many at once.
  pub force_in_parts : ForceInParts R
  pub parts_are : PartsAre
  pub exchanged_in_parts : ExchangedInParts speaks R
  pub lists_of_k : ListsOfK
  pub equal_for_every_reel : EqualForEveryReel speaks R
  pub equal_for_all_reels : EqualForAllReels speaks R
  -- What becomes of old releases, with their own papers.
  pub own_papers_by_force : OwnPapersByForce R
  pub kept_for_every_reel : KeptForEveryReel speaks R
  -- Who can become a signer, where no new order is what somebody says.
  pub papers_kept : PapersKept
  pub nobody_new_signs : NobodyNewSigns R
  pub only_orders_are : OnlyOrdersAre
  pub orders_stay : OrdersStay
  pub orders_need_not_stay : OrdersNeedNotStay

-- For every test that decides a reflexive and transitive relation.
abbrev pub ForEveryRelation : Type 1
ForEveryRelation = (speaks : ℕ → ℕ → Bool) (R : Relation) → Lawful speaks R → Lessons speaks R
