-- 003's first non-interference property (specs/Unmentioned.antt): who isn't mentioned has no says-formula on any side,
-- so the goal is independent of him (SameProofs.antt). Assumes nothing.
use Prim.Native.Nat.{ℕ}
use native.Mathlib.Omega.{arith}
use mathlib.Core.Path.{◌≡◌, refl, sym, subst, ◌∙◌}
use mathlib.Core.Logic.{inl, inr, ⊎_elim}
use mathlib.Core.List.Memᴰ
use mathlib.Core.List.{List, [], ◌∷◌, ◌++◌}
use Rattle.basics.specs.Membership.{◌∈◌, holds}
use Rattle.basics.proofs.Membership.{first, second, added, ⊆_left, ⊆_right}
use Rattle.logic.specs.Proposition.{Proposition, Principal, atom, ◌implies◌, ◌says◌}
use Rattle.logic.specs.Judgment.{Judgment, truth, ◌affirms◌}
use Rattle.logic.specs.Principals.{Relation}
use Rattle.logic.specs.Derivation.{init, implies_left, false_left, says_right, says_left}
use Rattle.logic.specs.Signed.{AllSignedBy, Himself}
use Rattle.logic.specs.Sides.{Side, Stands, itself, left_of_implies, right_of_implies, first_of_and, second_of_and, first_of_or, second_of_or, said}
use Rattle.logic.specs.Countermodels.{suppose}
use Rattle.logic.specs.Figure1.{Same}
use Rattle.logic.proofs.FromSigned.{one_signed}
use Rattle.logic.proofs.Structural.{weaken}
use Rattle.logic.proofs.Figure1.{no_proof}
use Rattle.independence.specs.Unmentioned.{mentioned, mentioned_in, SpeaksForNone, FirstNonInterference, UnmentionedAddsNothing, MentionedAre, SpeaksOneWay, MentionedMatters}
use Rattle.independence.proofs.SameProofs.{NoneIn, Clear, AllKept, moved}

-- Whose says-formula stands in a proposition, he is mentioned there.
stands_mentioned : {L : Principal} {B : Proposition} {t : Side} {A : Proposition} {s : Side} → Stands (L says B) t A s → L ∈ mentioned A
stands_mentioned itself = first
stands_mentioned (left_of_implies {C = C} i) = ⊆_left (mentioned C) _ (stands_mentioned i)
stands_mentioned (right_of_implies {A = A} i) = ⊆_right (mentioned A) _ (stands_mentioned i)
stands_mentioned (first_of_and {C = C} i) = ⊆_left (mentioned C) _ (stands_mentioned i)
stands_mentioned (second_of_and {A = A} i) = ⊆_right (mentioned A) _ (stands_mentioned i)
stands_mentioned (first_of_or {C = C} i) = ⊆_left (mentioned C) _ (stands_mentioned i)
stands_mentioned (second_of_or {A = A} i) = ⊆_right (mentioned A) _ (stands_mentioned i)
stands_mentioned (said i) = Memᴰ.tail (stands_mentioned i)

module _ (R : Relation) (K : Principal) where
  none_of : {s : Side} (A : Proposition) → SpeaksForNone R K (mentioned A) → NoneIn R K s A
  none_of A none L B r stands = none L (stands_mentioned stands) r

  clear : (γ : Judgment) → SpeaksForNone R K (mentioned_in γ) → Clear R K γ
  clear (truth A) none = none_of A none
  clear (L affirms A) none = (none L first, none_of A (λ M i. none M (added L M i)))

  -- The papers are K's own, and the others are kept.
  others_kept : (papers Γ : List Proposition) → AllSignedBy (Himself K) papers
      → ((A : Proposition) → A ∈ Γ → SpeaksForNone R K (mentioned A)) → AllKept R K (papers ++ Γ) Γ
  others_kept papers Γ own none A m =
      ⊎_elim (λ i. inl (own A i)) (λ i. inr (none_of A (none A i), i)) (Memᴰ.append_cases papers m)

pub first_non_interference : (R : Relation) → FirstNonInterference R
first_non_interference R K papers Γ γ own in_statements_lem in_goal = (
  λ D. (moved R K D (clear R K γ in_goal) (others_kept R K papers Γ own in_statements_lem)).derivation,
  weaken (⊆_right papers),
)

-- K speaks for none of them, since he is none of them.
himself_alone : (K : Principal) (Ls : List Principal) → ¬ (K ∈ Ls) → SpeaksForNone Same K Ls
himself_alone K Ls none L i e = none (subst (λ M. M ∈ Ls) (sym e) i)

pub unmentioned_adds_nothing : UnmentionedAddsNothing
unmentioned_adds_nothing K B Γ C in_statements_lem in_goal =
    first_non_interference Same K (K says B ∷ []) Γ (truth C) (one_signed (Himself K) B refl)
    (λ A i. himself_alone K (mentioned A) (in_statements_lem A i)) (himself_alone K (mentioned C) in_goal)

pub mentioned_are : MentionedAre
mentioned_are = (refl, refl, refl)

pub speaks_one_way : SpeaksOneWay
speaks_one_way = (
  λ L i r. ⊎_elim (λ e. not_seven (e ∙ Memᴰ.eq_of_singleton i)) (λ (e, f). not_seven e) r,
  λ none. none 8 first (inr (refl, refl)),
)
  where
    not_seven : ¬ (◌≡◌ {A = ℕ} 8 7)
    not_seven e = omega arith

pub mentioned_matters : MentionedMatters
unfolding holds
mentioned_matters = record {
  in_an_order =
      implies_left second (says_right (says_left first refl (false_left first))) (init first);
  not_alone = no_proof (suppose [] []) _ (atom 1) refl;
  in_the_goal = says_right (says_left first refl (false_left first));
  not_from_nothing = no_proof (suppose [] []) _ (7 says atom 0) refl;
}
