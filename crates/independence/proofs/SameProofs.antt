-- Each derivation of an independent goal is one from every list that has the others' statements, step by step, and
-- opens nothing that K says (specs/SameProofs.antt): by induction on the derivation. No premise has a goal with a
-- says-formula of K on the proving side, so a says left of his would serve nobody; and no formula that a premise adds
-- has one. Assumes nothing.
use Prim.Native.Nat.{ℕ, suc}
use native.Mathlib.Decide.{ℕ_discrete}
use mathlib.Core.Path.{◌≡◌, refl, sym, subst, ap, ap₂}
use mathlib.Core.Logic.{◌⊎◌, inl, inr, ⊎_elim}
use mathlib.Core.List.Memᴰ
use mathlib.Core.List.{List, ◌∷◌, ◌++◌}
use Rattle.basics.specs.Membership.{◌∈◌}
use Rattle.logic.specs.Proposition.{Proposition, Principal, atom, false, ◌implies◌, ◌and◌, ◌or◌, ◌says◌}
use Rattle.logic.specs.Judgment.{Judgment, truth, ◌affirms◌}
use Rattle.logic.specs.Principals.{Relation}
use Rattle.logic.specs.Derivation.{Derivation, init, affirm, implies_right, implies_left, false_left, and_right, and_left, or_right_first, or_right_second, or_left, says_right, says_left}
use Rattle.logic.specs.Depth.{step_depths}
use Rattle.logic.specs.Named.{says_left_names}
use Rattle.logic.specs.Signed.{SignedBy, Himself}
use Rattle.logic.specs.Sides as S
use Rattle.logic.specs.Sides.{Side, proving, given, Stands, ProvingSays, Independent}
use Rattle.steps.specs.Trace.{lines}
use Rattle.independence.specs.SameProofs.{HasOthers, SameProofs, BothOrNeither, NeverOpened}

-- Whether a statement is itself K says something.
pub own_or_not : (K : Principal) (A : Proposition) → SignedBy (Himself K) A ⊎ (¬ SignedBy (Himself K) A)
own_or_not K (atom a) = inr (λ s. s)
own_or_not K false = inr (λ s. s)
own_or_not K (A implies B) = inr (λ s. s)
own_or_not K (A and B) = inr (λ s. s)
own_or_not K (A or B) = inr (λ s. s)
own_or_not K (L says A) = by (ℕ_discrete L K)
  where
    by : Dec (L ≡ K) → (L ≡ K) ⊎ (¬ (L ≡ K))
    by (yes e) = inl e
    by (no d) = inr d

module _ (R : Relation) (K : Principal) where
  -- No says-formula of one for whom K speaks stands on the proving side of A, which itself stands on side s.
  abbrev pub NoneIn : Side → Proposition → Type 0
  NoneIn s A = (L : Principal) (B : Proposition) → R K L → ¬ Stands (L says B) proving A s

  none_in : {s : Side} {A : Proposition} → ¬ ProvingSays R K s A → NoneIn s A
  none_in none L B o stands = none (record { by = L; what = B; spoken_for = o; stands = stands })

  -- A goal that has none; an affirmation is by nobody for whom K speaks.
  abbrev pub Clear : Judgment → Type 0
  Clear (truth A) = NoneIn proving A
  Clear (L affirms A) = (¬ R K L) × NoneIn proving A

  -- A hypothesis that is K's own, or one that has none and that Δ has too.
  abbrev pub Kept : List Proposition → Proposition → Type 0
  Kept Δ A = SignedBy (Himself K) A ⊎ (NoneIn given A × (A ∈ Δ))

  abbrev pub AllKept : List Proposition → List Proposition → Type 0
  AllKept Γ Δ = (A : Proposition) → A ∈ Γ → Kept Δ A

  -- What a premise adds is added to both.
  kept_more : {Γ Δ : List Proposition} (B : Proposition) → NoneIn given B → AllKept Γ Δ
      → AllKept (B ∷ Γ) (B ∷ Δ)
  kept_more {Γ} {Δ} B clear kept A m =
      ⊎_elim new (λ n. ⊎_elim inl (λ (c, d). inr (c, Memᴰ.tail d)) (kept A n)) (Memᴰ.cases_cons m)
    where
      new : A ≡ B → Kept (B ∷ Δ) A
      new e = inr (subst (NoneIn given) (sym e) clear, Memᴰ.head e)

  -- ---- the same steps, at every depth, and nothing opened that K says

  pub record Moved {Γ : List Proposition} {γ : Judgment} (Δ : List Proposition) (D : Derivation R Γ γ) : Type 0 where
    pub derivation : Derivation R Δ γ
    pub same_lines : lines derivation ≡ lines D
    pub same_depths : (d : ℕ) → step_depths d derivation ≡ step_depths d D
    -- no says left names what K says
    pub unopened : (X : Proposition) → ¬ ((K says X) ∈ says_left_names D)

  by_step : {Γ Δ : List Proposition} {γ : Judgment} (D : Derivation R Γ γ) (E : Derivation R Δ γ) → lines E ≡ lines D
      → ((d : ℕ) → step_depths d E ≡ step_depths d D) → ((X : Proposition) → ¬ ((K says X) ∈ says_left_names D)) → Moved Δ D
  by_step D E same deep shut = record { derivation = E; same_lines = same; same_depths = deep; unopened = shut }

  -- The says lefts of two premises name what those of either name.
  neither : {A : Proposition} (xs ys : List Proposition) → ¬ (A ∈ xs) → ¬ (A ∈ ys) → ¬ (A ∈ xs ++ ys)
  neither xs ys in_first in_second m = ⊎_elim in_first in_second (Memᴰ.append_cases xs m)

  same_speaker : {L : Principal} {X A : Proposition} → (K says X) ≡ (L says A) → K ≡ L
  same_speaker e = cc

  pub moved : {Γ Δ : List Proposition} {γ : Judgment} (D : Derivation R Γ γ) → Clear γ → AllKept Γ Δ → Moved Δ D
  moved (init {a = a} m) c k =
      ⊎_elim (λ s. absurd s)
      (λ (_, n). by_step (init m) (init n) refl (λ d. refl) (λ X. Memᴰ.not-nil)) (k (atom a) m)
  moved (affirm D) c k =
      let r = moved D c.1 k in
      by_step (affirm D) (affirm r.derivation) (rw r.same_lines) (λ d. ap (◌∷◌ d) (r.same_depths (suc d)))
      r.unopened
  moved (implies_right {A = A} D) c k =
      let r = moved D (λ L X o s. c L X o (S.right_of_implies s))
      (kept_more A (λ L X o s. c L X o (S.left_of_implies s)) k) in
      by_step (implies_right D) (implies_right r.derivation) (rw r.same_lines)
      (λ d. ap (◌∷◌ d) (r.same_depths (suc d))) r.unopened
  moved (implies_left {A = A} {B = B} m D E) c k =
      ⊎_elim (λ s. absurd s)
      (λ (clear, n).
      let r = moved D (λ L X o s. clear L X o (S.left_of_implies s)) k in
      let q = moved E c (kept_more B (λ L X o s. clear L X o (S.right_of_implies s)) k) in
      by_step (implies_left m D E) (implies_left n r.derivation q.derivation) (rw (r.same_lines, q.same_lines))
      (λ d. ap (◌∷◌ d) (ap₂ ◌++◌ (r.same_depths (suc d)) (q.same_depths (suc d))))
      (λ X. neither (says_left_names D) (says_left_names E) (r.unopened X) (q.unopened X)))
      (k (A implies B) m)
  moved (false_left m) c k =
      ⊎_elim (λ s. absurd s)
      (λ (_, n). by_step (false_left m) (false_left n) refl (λ d. refl) (λ X. Memᴰ.not-nil)) (k false m)
  moved (and_right D E) c k =
      let r = moved D (λ L X o s. c L X o (S.first_of_and s)) k in
      let q = moved E (λ L X o s. c L X o (S.second_of_and s)) k in
      by_step (and_right D E) (and_right r.derivation q.derivation) (rw (r.same_lines, q.same_lines))
      (λ d. ap (◌∷◌ d) (ap₂ ◌++◌ (r.same_depths (suc d)) (q.same_depths (suc d))))
      (λ X. neither (says_left_names D) (says_left_names E) (r.unopened X) (q.unopened X))
  moved (and_left {A = A} {B = B} m D) c k =
      ⊎_elim (λ s. absurd s)
      (λ (clear, n).
      let r = moved D c (kept_more A (λ L X o s. clear L X o (S.first_of_and s))
      (kept_more B (λ L X o s. clear L X o (S.second_of_and s)) k)) in
      by_step (and_left m D) (and_left n r.derivation) (rw r.same_lines)
      (λ d. ap (◌∷◌ d) (r.same_depths (suc d))) r.unopened)
      (k (A and B) m)
  moved (or_right_first D) c k =
      let r = moved D (λ L X o s. c L X o (S.first_of_or s)) k in
      by_step (or_right_first D) (or_right_first r.derivation) (rw r.same_lines)
      (λ d. ap (◌∷◌ d) (r.same_depths (suc d))) r.unopened
  moved (or_right_second D) c k =
      let r = moved D (λ L X o s. c L X o (S.second_of_or s)) k in
      by_step (or_right_second D) (or_right_second r.derivation) (rw r.same_lines)
      (λ d. ap (◌∷◌ d) (r.same_depths (suc d))) r.unopened
  moved (or_left {A = A} {B = B} m D E) c k =
      ⊎_elim (λ s. absurd s)
      (λ (clear, n).
      let r = moved D c (kept_more A (λ L X o s. clear L X o (S.first_of_or s)) k) in
      let q = moved E c (kept_more B (λ L X o s. clear L X o (S.second_of_or s)) k) in
      by_step (or_left m D E) (or_left n r.derivation q.derivation) (rw (r.same_lines, q.same_lines))
      (λ d. ap (◌∷◌ d) (ap₂ ◌++◌ (r.same_depths (suc d)) (q.same_depths (suc d))))
      (λ X. neither (says_left_names D) (says_left_names E) (r.unopened X) (q.unopened X)))
      (k (A or B) m)
  moved (says_right {K = L} {A = A} D) c k =
      let r = moved D (λ o. c L A o S.itself, λ M X o s. c M X o (S.said s)) k in
      by_step (says_right D) (says_right r.derivation) (rw r.same_lines)
      (λ d. ap (◌∷◌ d) (r.same_depths (suc d))) r.unopened
  -- Here K is not the one who says it: he speaks for nobody whose affirmation is the goal.
  moved (says_left {K = L} {L = M} {A = A} m o D) c k =
      ⊎_elim (λ e. absurd (c.0 (subst (λ x. R x M) e o)))
      (λ (clear, n).
      let r = moved D c (kept_more A (λ N X p s. clear N X p (S.said s)) k) in
      by_step (says_left m o D) (says_left n o r.derivation) (rw r.same_lines)
      (λ d. ap (◌∷◌ d) (r.same_depths (suc d)))
      (λ X named.
      ⊎_elim (λ e. c.0 (subst (λ x. R x M) (sym (same_speaker e)) o)) (r.unopened X) (Memᴰ.cases_cons named)))
      (k (L says A) m)

  -- ---- the promises

  -- At first the statements of Γ are kept.
  kept_first : {Γ Δ : List Proposition} {C : Proposition} → Independent R K Γ C → HasOthers K Γ Δ → AllKept Γ Δ
  kept_first i has A m =
      ⊎_elim inl (λ other. inr (none_in (i.of_statements A m other), has A m other)) (own_or_not K A)

pub same_proofs : (R : Relation) → SameProofs R
same_proofs R K Γ Δ C i has D =
    let r = moved R K D (none_in R K i.of_goal) (kept_first R K i has) in
    record { derivation = r.derivation; same_lines = r.same_lines; same_depths = r.same_depths 1 }

-- The goal is independent of K beside every list of the same others.
pub independent_of_others :
    (R : Relation) (K : Principal) {Γ Δ : List Proposition} {C : Proposition}
    → Independent R K Γ C → HasOthers K Δ Γ → Independent R K Δ C
independent_of_others R K i has = record {
  of_goal = i.of_goal;
  of_statements = λ A m other. i.of_statements A (has A m other) other;
}

pub both_or_neither : (R : Relation) → BothOrNeither R
both_or_neither R K Γ Δ C i has back = (
  λ D. (same_proofs R K Γ Δ C i has D).derivation,
  λ D. (same_proofs R K Δ Γ C (independent_of_others R K i back) back D).derivation,
)

pub never_opened : (R : Relation) → NeverOpened R
never_opened R K Γ C i D = (moved R K D (none_in R K i.of_goal) (kept_first R K i (λ A m other. m))).unopened
