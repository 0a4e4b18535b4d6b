-- The lines of a derivation: each has a rule's code; the first has the derivation's own goal; and the rules with what
-- they name determine the goals of all the others. Assumes nothing.
use Prim.Native.Nat.{ℕ, ◌<◌}
use native.Mathlib.Omega.{arith}
use mathlib.Core.Path.{◌≡◌, refl, sym, ap, ap₂, ◌∙◌}
use mathlib.Core.Logic.{⊎_elim}
use mathlib.Core.Option.{Option, none, some}
use mathlib.Core.List.Memᴰ
use mathlib.Core.List.{List, [], ◌∷◌, ◌++◌, map, map-append, append_assoc, append-nil}
use lib.ListN.{get_or}
use Rattle.basics.specs.Membership.{◌∈◌}
use Rattle.logic.specs.Proposition.{Proposition, atom, false, ◌implies◌, ◌and◌, ◌or◌, ◌says◌}
use Rattle.logic.specs.Judgment.{Judgment, truth, ◌affirms◌}
use Rattle.logic.specs.Principals.{Relation}
use Rattle.logic.specs.Derivation.{Derivation, init, affirm, implies_right, implies_left, false_left, and_right, and_left, or_right_first, or_right_second, or_left, says_right, says_left}
use Rattle.steps.specs.Trace.{Line, line, lines}
use Rattle.sentences.specs.Told.{Known}
use Rattle.sentences.specs.Promises.{rule_applied}

-- ---- each line has a rule's code

known_none : Known []
known_none l m = absurd (Memᴰ.not-nil m)

known_cons : (c : ℕ) (n : Option Proposition) (γ : Judgment) (ls : List Line) → c < 12 → Known ls
    → Known (line c n γ ∷ ls)
known_cons c n γ ls low rest l m =
    ⊎_elim (λ e. let f = ap (λ (k : Line). k.code) e in omega (arith, f)) (rest l) (Memᴰ.cases_cons m)

known_joined : (ls ms : List Line) → Known ls → Known ms → Known (ls ++ ms)
known_joined ls ms first second l m = ⊎_elim (first l) (second l) (Memᴰ.append_cases ls m)

module _ {R : Relation} where
  pub known : {Γ : List Proposition} {γ : Judgment} (D : Derivation R Γ γ) → Known (lines D)
  known (init m) = known_cons 0 _ _ [] (omega arith) known_none
  known (affirm D) = known_cons 1 _ _ _ (omega arith) (known D)
  known (implies_right D) = known_cons 2 _ _ _ (omega arith) (known D)
  known (implies_left m D E) = known_cons 3 _ _ _ (omega arith) (known_joined (lines D) (lines E) (known D) (known E))
  known (false_left m) = known_cons 4 _ _ [] (omega arith) known_none
  known (and_right D E) = known_cons 5 _ _ _ (omega arith) (known_joined (lines D) (lines E) (known D) (known E))
  known (and_left m D) = known_cons 6 _ _ _ (omega arith) (known D)
  known (or_right_first D) = known_cons 7 _ _ _ (omega arith) (known D)
  known (or_right_second D) = known_cons 8 _ _ _ (omega arith) (known D)
  known (or_left m D E) = known_cons 9 _ _ _ (omega arith) (known_joined (lines D) (lines E) (known D) (known E))
  known (says_right D) = known_cons 10 _ _ _ (omega arith) (known D)
  known (says_left m r D) = known_cons 11 _ _ _ (omega arith) (known D)

-- ---- the first line's goal

abbrev pub goals : List Line → List Judgment
goals ls = map (λ (l : Line). l.goal) ls

abbrev pub first_or : Judgment → List Judgment → Judgment
first_or δ [] = δ
first_or δ (γ ∷ γs) = γ

module _ {R : Relation} where
  pub first_goal : {Γ : List Proposition} {γ : Judgment} (D : Derivation R Γ γ) (δ : Judgment)
      → first_or δ (goals (lines D)) ≡ γ
  first_goal (init m) δ = refl
  first_goal (affirm D) δ = refl
  first_goal (implies_right D) δ = refl
  first_goal (implies_left m D E) δ = refl
  first_goal (false_left m) δ = refl
  first_goal (and_right D E) δ = refl
  first_goal (and_left m D) δ = refl
  first_goal (or_right_first D) δ = refl
  first_goal (or_right_second D) δ = refl
  first_goal (or_left m D E) δ = refl
  first_goal (says_right D) δ = refl
  first_goal (says_left m r D) δ = refl

-- ---- the goals of the premises, from what a rule names and the goal below

abbrev left : Proposition → Proposition
left (atom a) = atom a
left false = false
left (A implies B) = A
left (A and B) = A
left (A or B) = A
left (K says A) = A

abbrev right : Proposition → Proposition
right (atom a) = atom a
right false = false
right (A implies B) = B
right (A and B) = B
right (A or B) = B
right (K says A) = A

abbrev affirmed : Proposition → Judgment
affirmed (atom a) = truth (atom a)
affirmed false = truth false
affirmed (A implies B) = truth (A implies B)
affirmed (A and B) = truth (A and B)
affirmed (A or B) = truth (A or B)
affirmed (K says A) = K affirms A

abbrev judged : Judgment → Proposition
judged (truth A) = A
judged (K affirms A) = A

abbrev named : Option Proposition → Proposition
named none = false
named (some A) = A

abbrev Above : Type 0
Above = Option Proposition → Judgment → List Judgment

-- 01's last column, in the order of the codes
abbrev above : List Above
above =
    (λ n γ. [])
    ∷ (λ n γ. truth (judged γ) ∷ [])
    ∷ (λ n γ. truth (right (judged γ)) ∷ [])
    ∷ (λ n γ. truth (left (named n)) ∷ γ ∷ [])
    ∷ (λ n γ. [])
    ∷ (λ n γ. truth (left (judged γ)) ∷ truth (right (judged γ)) ∷ [])
    ∷ (λ n γ. γ ∷ [])
    ∷ (λ n γ. truth (left (judged γ)) ∷ [])
    ∷ (λ n γ. truth (right (judged γ)) ∷ [])
    ∷ (λ n γ. γ ∷ γ ∷ [])
    ∷ (λ n γ. affirmed (judged γ) ∷ [])
    ∷ (λ n γ. γ ∷ [])
    ∷ []

-- the lines that rules give, from the goals that are open, the next first
lined : List (ℕ × Option Proposition) → List Judgment → List Line
lined [] γs = []
lined (r ∷ rs) [] = []
lined ((c, n) ∷ rs) (γ ∷ γs) = line c n γ ∷ lined rs (get_or above c (λ n γ. []) n γ ++ γs)

module _ {R : Relation} where
  abbrev applied : {Γ : List Proposition} {γ : Judgment} → Derivation R Γ γ → List (ℕ × Option Proposition)
  applied D = map rule_applied (lines D)

  abbrev Lined : {Γ : List Proposition} {γ : Judgment} → Derivation R Γ γ → Type 0
  Lined {γ = γ} D = (rs : List (ℕ × Option Proposition)) (γs : List Judgment) → lined (applied D ++ rs) (γ ∷ γs)
      ≡ lines D ++ lined rs γs

  -- two derivations, one after the other
  then : {Γ Δ : List Proposition} {γ δ : Judgment} (D : Derivation R Γ γ) (E : Derivation R Δ δ) → Lined D → Lined E
      → (rs : List (ℕ × Option Proposition)) (γs : List Judgment)
      → lined (map rule_applied (lines D ++ lines E) ++ rs) (γ ∷ δ ∷ γs) ≡ (lines D ++ lines E) ++ lined rs γs
  then {γ = γ} {δ = δ} D E first second rs γs =
      ap (λ (us : List (ℕ × Option Proposition)). lined (us ++ rs) (γ ∷ δ ∷ γs))
      (map-append rule_applied (lines D) (lines E))
      ∙ ap (λ (us : List (ℕ × Option Proposition)). lined us (γ ∷ δ ∷ γs)) (append_assoc (applied D) (applied E) rs)
      ∙ first (applied E ++ rs) (δ ∷ γs)
      ∙ ap (λ (ls : List Line). lines D ++ ls) (second rs γs)
      ∙ sym (append_assoc (lines D) (lines E) (lined rs γs))

  -- The rules of a derivation give its lines.
  lined_is : {Γ : List Proposition} {γ : Judgment} (D : Derivation R Γ γ) → Lined D
  unfolding lined
  lined_is (init m) rs γs = refl
  lined_is {γ = γ} (affirm D) rs γs = ap (λ (ls : List Line). line 1 none γ ∷ ls) (lined_is D rs γs)
  lined_is {γ = γ} (implies_right D) rs γs = ap (λ (ls : List Line). line 2 none γ ∷ ls) (lined_is D rs γs)
  lined_is {γ = γ} (implies_left {A = A} {B = B} m D E) rs γs =
      ap (λ (ls : List Line). line 3 (some (A implies B)) γ ∷ ls) (then D E (lined_is D) (lined_is E) rs γs)
  lined_is (false_left m) rs γs = refl
  lined_is {γ = γ} (and_right D E) rs γs =
      ap (λ (ls : List Line). line 5 none γ ∷ ls) (then D E (lined_is D) (lined_is E) rs γs)
  lined_is {γ = γ} (and_left {A = A} {B = B} m D) rs γs =
      ap (λ (ls : List Line). line 6 (some (A and B)) γ ∷ ls) (lined_is D rs γs)
  lined_is {γ = γ} (or_right_first D) rs γs = ap (λ (ls : List Line). line 7 none γ ∷ ls) (lined_is D rs γs)
  lined_is {γ = γ} (or_right_second D) rs γs = ap (λ (ls : List Line). line 8 none γ ∷ ls) (lined_is D rs γs)
  lined_is {γ = γ} (or_left {A = A} {B = B} m D E) rs γs =
      ap (λ (ls : List Line). line 9 (some (A or B)) γ ∷ ls) (then D E (lined_is D) (lined_is E) rs γs)
  lined_is {γ = γ} (says_right D) rs γs = ap (λ (ls : List Line). line 10 none γ ∷ ls) (lined_is D rs γs)
  lined_is {γ = γ} (says_left {K = K} {A = A} m r D) rs γs =
      ap (λ (ls : List Line). line 11 (some (K says A)) γ ∷ ls) (lined_is D rs γs)

  lined_whole : {Γ : List Proposition} {γ : Judgment} (D : Derivation R Γ γ) → lined (applied D) (γ ∷ []) ≡ lines D
  unfolding lined
  lined_whole {γ = γ} D =
      ap (λ (us : List (ℕ × Option Proposition)). lined us (γ ∷ [])) (sym (append-nil (applied D))) ∙ lined_is D [] []
      ∙ append-nil (lines D)

  -- So two derivations of one goal that apply the same rules to the same formulas have the same lines.
  pub determined : {Γ Δ : List Proposition} {γ δ : Judgment} (D : Derivation R Γ γ) (E : Derivation R Δ δ)
      → γ ≡ δ → applied D ≡ applied E → lines D ≡ lines E
  determined D E goal rules =
      sym (lined_whole D) ∙ ap₂ (λ us ε. lined us (ε ∷ [])) rules goal ∙ lined_whole E
