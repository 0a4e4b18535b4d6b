-- Cut and affirmation cut (003, Theorem 2, parts 4 and 5), for every transitive relation on principals.
--
-- Cut goes by recursion on the proposition, and below that on the second derivation (`cut_in`). Its premises are freed
-- of the cut proposition first. Where its rule names the cut proposition itself, `bind` takes the first derivation to
-- its right rule, and what that rule was given is cut with the premises at the operands (`through_implies` and its
-- like).
-- Never compute with these: they are for existence. Assumes nothing.
use mathlib.Core.Path.{sym, subst}
use mathlib.Core.Logic.{⊎_elim}
use mathlib.Core.List.Memᴰ
use mathlib.Core.List.{List, ◌∷◌}
use Rattle.basics.specs.Membership.{◌∈◌, ◌⊆◌}
use Rattle.basics.proofs.Membership.{⊆_refl, ⊆_trans, added, extend, exchange}
use Rattle.logic.specs.Proposition.{Proposition, Principal, atom, false, ◌implies◌, ◌and◌, ◌or◌, ◌says◌}
use Rattle.logic.specs.Judgment.{Judgment, truth, ◌affirms◌}
use Rattle.logic.specs.Principals.{Relation, Reflexive, Transitive}
use Rattle.logic.specs.Derivation.{Derivation, init, affirm, implies_right, implies_left, false_left, and_right, and_left, or_right_first, or_right_second, or_left, says_right, says_left}
use Rattle.logic.specs.Cut.{CutAt, Cut, AffirmationCut}
use Rattle.logic.proofs.Structural.{weaken}
use Rattle.logic.proofs.Bind.{bind}

module _ (R : Relation) where
  -- cut at the operands of a proposition
  abbrev CutBelow : Proposition → Type 0
  CutBelow (atom a) = Unit
  CutBelow false = Unit
  CutBelow (A implies B) = CutAt R A × CutAt R B
  CutBelow (A and B) = CutAt R A × CutAt R B
  CutBelow (A or B) = CutAt R A × CutAt R B
  CutBelow (K says A) = CutAt R A

  -- what is known of the cut proposition; it moves along an equation as a whole
  abbrev Cuttable : List Proposition → Proposition → Type 0
  Cuttable Γ A = CutBelow A × Derivation R Γ (truth A)

module _ {R : Relation} (transitive : Transitive R) where
  -- One lemma for each left rule that names the cut proposition: the rule's conclusion, from its premises.
  module _ {Γ : List Proposition} {γ : Judgment} where
    through_implies : {A B : Proposition} → Cuttable R Γ (A implies B) → Derivation R Γ (truth A) → Derivation R (B ∷ Γ) γ → Derivation R Γ γ
    through_implies {A} {B} ((cut-A, cut-B), D) E F =
        bind transitive D tt (λ Δ i G. cut-B Δ γ (cut-A Δ (truth B) (weaken i E) G) (weaken (extend B i) F))

    through_false : Cuttable R Γ false → Derivation R Γ γ
    through_false (_, D) = bind transitive D tt (λ Δ i none. absurd none)

    through_and : {A B : Proposition} → Cuttable R Γ (A and B) → Derivation R (A ∷ B ∷ Γ) γ → Derivation R Γ γ
    through_and {A} {B} ((cut-A, cut-B), D) E =
        bind transitive D tt (λ Δ i (G, H). cut-B Δ γ H (cut-A (B ∷ Δ) γ (weaken (added B) G) (weaken (extend A (extend B i)) E)))

    through_or : {A B : Proposition} → Cuttable R Γ (A or B) → Derivation R (A ∷ Γ) γ → Derivation R (B ∷ Γ) γ → Derivation R Γ γ
    through_or {A} {B} ((cut-A, cut-B), D) E F =
        bind transitive D tt (λ Δ i. ⊎_elim (λ G. cut-A Δ γ G (weaken (extend A i) E)) (λ G. cut-B Δ γ G (weaken (extend B i) F)))

  through_says : {Γ : List Proposition} {K L : Principal} {A C : Proposition} → Cuttable R Γ (K says A) → R K L
      → Derivation R (A ∷ Γ) (L affirms C) → Derivation R Γ (L affirms C)
  through_says {L = L} {A = A} {C = C} (cut-A, D) r E =
      bind transitive D tt (λ Δ i G. bind transitive G r (λ Θ j H. cut-A Θ (L affirms C) H (weaken (extend A (⊆_trans i j)) E)))

  -- A hypothesis of A ∷ Γ is A itself, or one of Γ.
  hypothesis_cases : {Γ : List Proposition} {A B : Proposition} {T : Type 0} → Cuttable R Γ A → B ∈ A ∷ Γ → (Cuttable R Γ B → T) → (B ∈ Γ → T) → T
  hypothesis_cases {Γ} p m itself other = ⊎_elim (λ e. itself (subst (Cuttable R Γ) (sym e) p)) other (Memᴰ.cases_cons m)

  under : {Γ : List Proposition} {A : Proposition} (B : Proposition) → Cuttable R Γ A → Cuttable R (B ∷ Γ) A
  under B (c, D) = (c, weaken (added B) D)

  cut_in : {Γ Δ : List Proposition} {γ : Judgment} (A : Proposition) → Derivation R Δ γ → Δ ⊆ A ∷ Γ → Cuttable R Γ A → Derivation R Γ γ
  cut_in A (init m) s p = hypothesis_cases p (s _ m) (λ q. q.1) init
  cut_in A (affirm E) s p = affirm (cut_in A E s p)
  cut_in A (implies_right {A = B} E) s p = implies_right (cut_in A E (exchange A B s) (under B p))
  cut_in A (implies_left {B = C} m E F) s p =
      let E' = cut_in A E s p in
      let F' = cut_in A F (exchange A C s) (under C p) in
      hypothesis_cases p (s _ m) (λ q. through_implies q E' F') (λ n. implies_left n E' F')
  cut_in A (false_left m) s p = hypothesis_cases p (s _ m) through_false false_left
  cut_in A (and_right E F) s p = and_right (cut_in A E s p) (cut_in A F s p)
  cut_in A (and_left {A = B} {B = C} m E) s p =
      let E' = cut_in A E (exchange A B (exchange A C s)) (under B (under C p)) in
      hypothesis_cases p (s _ m) (λ q. through_and q E') (λ n. and_left n E')
  cut_in A (or_right_first E) s p = or_right_first (cut_in A E s p)
  cut_in A (or_right_second E) s p = or_right_second (cut_in A E s p)
  cut_in A (or_left {A = B} {B = C} m E F) s p =
      let E' = cut_in A E (exchange A B s) (under B p) in
      let F' = cut_in A F (exchange A C s) (under C p) in
      hypothesis_cases p (s _ m) (λ q. through_or q E' F') (λ n. or_left n E' F')
  cut_in A (says_right E) s p = says_right (cut_in A E s p)
  cut_in A (says_left {A = B} m r E) s p =
      let E' = cut_in A E (exchange A B s) (under B p) in
      hypothesis_cases p (s _ m) (λ q. through_says q r E') (λ n. says_left n r E')

  from_below : (A : Proposition) → CutBelow R A → CutAt R A
  from_below A c Γ γ D E = cut_in A E ⊆_refl (c, D)

  pub cut : Cut R
  cut (atom a) = from_below (atom a) tt
  cut false = from_below false tt
  cut (A implies B) = from_below (A implies B) (cut A, cut B)
  cut (A and B) = from_below (A and B) (cut A, cut B)
  cut (A or B) = from_below (A or B) (cut A, cut B)
  cut (K says A) = from_below (K says A) (cut A)

  pub affirmation_cut : Reflexive R → AffirmationCut R
  affirmation_cut reflexive Γ K A C D E = bind transitive D (reflexive K) (λ Δ i F. cut A Δ (K affirms C) F (weaken (extend A i) E))
