-- Models with one world (specs/Countermodels.antt): what is computed is what holds there, and derivations are sound.
-- Assumes nothing.
use Prim.Native.Nat.{ℕ}
use native.Mathlib.Omega.{arith}
use mathlib.Core.Bool.{Bool, true, false, not, ◌||◌, false≢true}
use mathlib.Core.Path.{◌≡◌, refl, subst}
use mathlib.Core.Logic.{◌↔◌, inl, inr, ⊎_elim}
use mathlib.Core.List.Memᴰ
use mathlib.Core.List.{List, [], ◌∷◌}
use Rattle.basics.specs.Membership.{◌∈◌, holds}
use Rattle.basics.proofs.Choice.{both_true, either_true}
use Rattle.basics.proofs.Membership.{first, each_of_none, each_of_more, holds_member}
use Rattle.logic.specs.Proposition as P
use Rattle.logic.specs.Proposition.{Proposition, atom, ◌implies◌, ◌and◌, ◌or◌, ◌says◌}
use Rattle.logic.specs.Judgment.{truth}
use Rattle.logic.specs.Principals.{Relation}
use Rattle.logic.specs.Force.{HasProof}
use Rattle.logic.specs.Countermodels.{Supposition, is_true, all_true, PassesOn, one_world, TrueThere, NoProof, TruthsAre, suppose, SevenForEight, PassesOneWay}
use Rattle.logic.proofs.Models.{sound}

pub truths_are : TruthsAre
unfolding holds
truths_are = refl

if_then : (a b : Bool) → (not a || b) ≡ true ↔ (a ≡ true → b ≡ true)
if_then true b = (λ e h. e, λ f. f refl)
if_then false b = (λ e h. absurd (false≢true h), λ f. refl)

pub true_there : (R : Relation) → TrueThere R
true_there R m passes (atom a) = holds_member m.atoms a
true_there R m passes P.false = (false≢true, λ none. absurd none)
true_there R m passes (A implies B) =
    let (to, from) = if_then (is_true m A) (is_true m B) in
    let (a, a') = true_there R m passes A in
    let (b, b') = true_there R m passes B in
    (λ e w s h. b (to e (a' h)), λ f. from (λ e. b' (f tt tt (a e))))
true_there R m passes (A and B) =
    let (to, from) = both_true (is_true m A) (is_true m B) in
    let (a, a') = true_there R m passes A in
    let (b, b') = true_there R m passes B in
    (λ e. let (d, c) = to e in (a d, b c), λ (h, k). from (a' h, b' k))
true_there R m passes (A or B) =
    let (to, from) = either_true (is_true m A) (is_true m B) in
    let (a, a') = true_there R m passes A in
    let (b, b') = true_there R m passes B in
    (λ e. ⊎_elim (λ d. inl (a d)) (λ c. inr (b c)) (to e), ⊎_elim (λ h. from (inl (a' h))) (λ k. from (inr (b' k))))
true_there R m passes (K says A) =
    let (to, from) = either_true (holds m.principals K) (is_true m A) in
    let (every, every') = holds_member m.principals K in
    let (a, a') = true_there R m passes A in (
      λ e w s. ⊎_elim (λ d. inl (every d)) (λ c. inr (a c)) (to e),
      λ f. ⊎_elim (λ h. from (inl (every' h))) (λ k. from (inr (a' k))) (f tt tt),
    )

-- Where all are true, each is.
each_true : (m : Supposition) (Γ : List Proposition) → all_true m Γ ≡ true → (A : Proposition) → A ∈ Γ → is_true m A ≡ true
each_true m [] e = each_of_none (λ A. is_true m A ≡ true)
each_true m (B ∷ Γ) e =
    let (here, there) = (both_true (is_true m B) (all_true m Γ)).0 e in
    each_of_more (λ A. is_true m A ≡ true) here (each_true m Γ there)

-- What has a proof from statements that are all true is true.
proved_true : {R : Relation} (m : Supposition) → PassesOn R m → {Γ : List Proposition} (A : Proposition)
    → all_true m Γ ≡ true → HasProof R Γ A → is_true m A ≡ true
proved_true {R} m passes {Γ} A all D =
    (true_there R m passes A).1
    (sound R (one_world R m passes) tt Γ (truth A) D
    (λ B i. (true_there R m passes B).0 (each_true m Γ all B i)))

-- So what is false where they are has none.
pub no_proof : (R : Relation) → NoProof R
no_proof R m passes Γ A e D =
    let (all, fails) = (both_true (all_true m Γ) (not (is_true m A))).0 e in
    false≢true (subst (λ b. not b ≡ true) (proved_true m passes A all D) fails)

-- ---- where 7 speaks for 8

eight_alone : PassesOn SevenForEight (suppose [] (8 ∷ []))
eight_alone K L (inl e) i = subst (λ N. N ∈ 8 ∷ []) e i
eight_alone K L (inr (e, f)) i = Memᴰ.head f

pub passes_one_way : PassesOneWay
unfolding holds
passes_one_way = (
  eight_alone,
  λ passes. eight_not_seven (Memᴰ.eq_of_singleton (passes 7 8 (inr (refl, refl)) first)),
  no_proof SevenForEight (suppose [] (8 ∷ [])) eight_alone (8 says atom 0 ∷ []) (7 says atom 0) refl,
)
  where
    eight_not_seven : ¬ (◌≡◌ {A = ℕ} 8 7)
    eight_not_seven e = omega arith
