-- The test decides independence (specs/Test.antt, logic/specs/Sides.antt): it says true of a side exactly where a
-- says-formula that counts stands on the proving side. Assumes nothing.
use Prim.Native.Nat.{ℕ}
use mathlib.Core.Bool.{Bool, true, false, not, ◌||◌, true≢false}
use mathlib.Core.Path.{◌≡◌, refl, sym, subst, ◌∙◌}
use mathlib.Core.Logic.Iff
use mathlib.Core.Logic.{◌↔◌, ◌⊎◌, inl, inr, ⊎_elim}
use mathlib.Core.List.Memᴰ
use mathlib.Core.List.{List, [], ◌∷◌}
use Rattle.basics.specs.Choice.{both}
use Rattle.basics.specs.Membership.{◌∈◌}
use Rattle.basics.proofs.Choice.{either_true}
use Rattle.basics.proofs.Asked.{equal, other as not_so, not_other}
use Rattle.logic.specs.Proposition.{Proposition, Principal, atom, false as falsum, ◌implies◌, ◌and◌, ◌or◌, ◌says◌}
use Rattle.logic.specs.Principals.{Relation, Decides}
use Rattle.logic.specs.Signed.{SignedBy, Himself}
use Rattle.logic.specs.Sides.{Side, proving, given, other, Stands, itself, left_of_implies, right_of_implies, first_of_and, second_of_and, first_of_or, second_of_or, said, ProvingSays, Independent, CouldTouch, by_goal, by_statement}
use Rattle.independence.specs.Test.{is_own, counts, proving_says, in_statement, in_statements, is_independent}

-- ---- K's own

own_is : (K : Principal) (A : Proposition) → is_own K A ≡ true ↔ SignedBy (Himself K) A
own_is K (atom a) = (λ e. absurd (true≢false (sym e)), λ s. absurd s)
own_is K falsum = (λ e. absurd (true≢false (sym e)), λ s. absurd s)
own_is K (A implies B) = (λ e. absurd (true≢false (sym e)), λ s. absurd s)
own_is K (A and B) = (λ e. absurd (true≢false (sym e)), λ s. absurd s)
own_is K (A or B) = (λ e. absurd (true≢false (sym e)), λ s. absurd s)
own_is K (L says A) = equal L K

module _ (speaks : ℕ → ℕ → Bool) (R : Relation) (decides : Decides speaks R) (K : Principal) where
  -- What stands in an operand stands in the formula.
  lift : {s t : Side} {A B : Proposition} → ((X : Proposition) → Stands X proving A s → Stands X proving B t)
      → ProvingSays R K s A → ProvingSays R K t B
  lift up c = record {
    by = c.by;
    what = c.what;
    spoken_for = c.spoken_for;
    stands = up (c.by says c.what) c.stands;
  }

  -- ---- found by the test

  found : (s : Side) (A : Proposition) → proving_says speaks K s A ≡ true → ProvingSays R K s A
  unfolding proving_says
  found s (atom a) e = absurd (true≢false (sym e))
  found s falsum e = absurd (true≢false (sym e))
  found s (A implies B) e =
      ⊎_elim (λ l. lift (λ X. left_of_implies) (found (other s) A l)) (λ r. lift (λ X. right_of_implies) (found s B r))
      ((either_true _ _).0 e)
  found s (A and B) e =
      ⊎_elim (λ l. lift (λ X. first_of_and) (found s A l)) (λ r. lift (λ X. second_of_and) (found s B r))
      ((either_true _ _).0 e)
  found s (A or B) e =
      ⊎_elim (λ l. lift (λ X. first_of_or) (found s A l)) (λ r. lift (λ X. second_of_or) (found s B r))
      ((either_true _ _).0 e)
  found s (L says A) e =
      ⊎_elim (here s) (λ r. lift (λ X. said) (found s A r)) ((either_true (counts speaks K s L) _).0 e)
    where
      here : (s : Side) → counts speaks K s L ≡ true → ProvingSays R K s (L says A)
      here proving t = record { by = L; what = A; spoken_for = (decides K L).0 t; stands = itself }
      here given t = absurd (true≢false (sym t))

  -- ---- seen by the test, where it stands

  seen : {L : Principal} {B A : Proposition} {s : Side} → R K L → Stands (L says B) proving A s
      → proving_says speaks K s A ≡ true
  unfolding proving_says
  seen {L} {B} o itself = (either_true (speaks K L) (proving_says speaks K proving B)).1 (inl ((decides K L).1 o))
  seen o (left_of_implies {C = C} {s = s} i) = (either_true _ (proving_says speaks K s C)).1 (inl (seen o i))
  seen o (right_of_implies {A = A} {s = s} i) = (either_true (proving_says speaks K (other s) A) _).1 (inr (seen o i))
  seen o (first_of_and {C = C} {s = s} i) = (either_true _ (proving_says speaks K s C)).1 (inl (seen o i))
  seen o (second_of_and {A = A} {s = s} i) = (either_true (proving_says speaks K s A) _).1 (inr (seen o i))
  seen o (first_of_or {C = C} {s = s} i) = (either_true _ (proving_says speaks K s C)).1 (inl (seen o i))
  seen o (second_of_or {A = A} {s = s} i) = (either_true (proving_says speaks K s A) _).1 (inr (seen o i))
  seen o (said {L = M} {s = s} i) = (either_true (counts speaks K s M) _).1 (inr (seen o i))

  -- ---- statements

  -- The test finds one in a list exactly where it finds one in a statement that isn't K's own.
  in_one : (Γ : List Proposition) → in_statements speaks K Γ ≡ true
      ↔ ((A : Proposition) × (A ∈ Γ) × (¬ SignedBy (Himself K) A) × (proving_says speaks K given A ≡ true))
  unfolding in_statements
  in_one [] = (λ e. absurd (true≢false (sym e)), λ (A, m, _, _). absurd (Memᴰ.not-nil m))
  in_one (B ∷ Γ) =
      let (to, from) = in_one Γ in
      let (of_two, to-two) = either_true (in_statement speaks K B) (in_statements speaks K Γ) in (
        λ e.
            ⊎_elim (λ t. let (not-his, c) = first (is_own K B) refl t in (B, Memᴰ.head refl, not-his, c))
            (λ t. let (A, m, not-his, c) = to t in (A, Memᴰ.tail m, not-his, c)) (of_two e),
        λ (A, m, not-his, c).
            to-two (⊎_elim (λ e. inl (second (is_own K A) A refl e not-his c)) (λ n. inr (from (A, n, not-his, c)))
            (Memᴰ.cases_cons m)),
      )
    where
      first : (own : Bool) → is_own K B ≡ own → both (not own) (proving_says speaks K given B) ≡ true
          → (¬ SignedBy (Himself K) B) × (proving_says speaks K given B ≡ true)
      first true e t = absurd (true≢false (sym t))
      first false e t = (λ s. true≢false (sym ((own_is K B).1 s) ∙ e), t)

      second : (own : Bool) (A : Proposition) → is_own K A ≡ own → A ≡ B → ¬ SignedBy (Himself K) A
          → proving_says speaks K given A ≡ true → in_statement speaks K B ≡ true
      second true A e same not-his c = absurd (not-his ((own_is K A).0 e))
      second false A e same not-his c =
          subst (λ (X : Proposition). in_statement speaks K X ≡ true) same (rw e c)

  -- ---- independence

  -- The test finds one exactly where there is one.
  found_is : (s : Side) (A : Proposition) → proving_says speaks K s A ≡ true ↔ ProvingSays R K s A
  found_is s A = (found s A, λ c. seen c.spoken_for c.stands)

  abbrev either : List Proposition → Proposition → Bool
  either Γ C = proving_says speaks K proving C || in_statements speaks K Γ

  could_touch_is : (Γ : List Proposition) (C : Proposition) → either Γ C ≡ true ↔ CouldTouch R K Γ C
  could_touch_is Γ C =
      let (of_two, to-two) = either_true (proving_says speaks K proving C) (in_statements speaks K Γ) in
      (λ e. ⊎_elim (λ t. by_goal (found proving C t)) (λ t. of_one ((in_one Γ).0 t)) (of_two e), λ c. to-two (back c))
    where
      of_one : (A : Proposition) × (A ∈ Γ) × (¬ SignedBy (Himself K) A) × (proving_says speaks K given A ≡ true)
          → CouldTouch R K Γ C
      of_one (A, m, not-his, t) = by_statement A m not-his (found given A t)

      back : CouldTouch R K Γ C → (proving_says speaks K proving C ≡ true) ⊎ (in_statements speaks K Γ ≡ true)
      back (by_goal c) = inl ((found_is proving C).1 c)
      back (by_statement A m not-his c) = inr ((in_one Γ).1 (A, m, not-his, (found_is given A).1 c))

  -- Independent is that there is none,
  none_is : (Γ : List Proposition) (C : Proposition) → (¬ CouldTouch R K Γ C) ↔ Independent R K Γ C
  none_is Γ C = (
    λ none. record {
      of_goal = λ c. none (by_goal c);
      of_statements = λ A m not-his c. none (by_statement A m not-his c);
    },
    λ i. λ touch. clear i touch,
  )
    where
      clear : Independent R K Γ C → CouldTouch R K Γ C → ⊥
      clear i (by_goal c) = i.of_goal c
      clear i (by_statement A m not-his c) = i.of_statements A m not-his c

  -- and the test decides which it is.
  pub independent_is : (Γ : List Proposition) (C : Proposition)
      → is_independent speaks K Γ C ≡ true ↔ Independent R K Γ C
  independent_is Γ C = Iff.trans (not_so (either Γ C) (could_touch_is Γ C)) (none_is Γ C)

  pub touching_is : (Γ : List Proposition) (C : Proposition)
      → is_independent speaks K Γ C ≡ false ↔ CouldTouch R K Γ C
  touching_is Γ C = not_other (either Γ C) (could_touch_is Γ C)
