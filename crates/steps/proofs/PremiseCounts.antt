-- As many premises as 01's rows have (specs/PremiseCounts.antt). In order: the twelve rules; a step; a derivation.
-- Assumes nothing.
use Prim.Native.Nat.{ℕ}
use mathlib.Core.Bool.{Bool}
use mathlib.Core.Path.{◌≡◌, refl, sym, ap}
use mathlib.Core.Option.{some, none-ne-some}
use mathlib.Core.List.{List, [], ◌∷◌, ◌++◌, append-nil}
use lib.ListN.{length, get_or, get_elem?}
use lib.Dec.{eqb, ltb, leb}
use Rattle.basics.specs.Choice.{both}
use Rattle.basics.specs.Membership.{holds}
use Rattle.basics.specs.Word.{upper, lower}
use Rattle.basics.proofs.Choice.{pick_cases}
use Rattle.logic.specs.Principals.{Relation}
use Rattle.logic.specs.Derivation.{init, affirm, implies_right, implies_left, false_left, and_right, and_left, or_right_first, or_right_second, or_left, says_right, says_left}
use Rattle.table.specs.declared.entry.Entry.{Entry}
use Rattle.table.specs.Tests.{entry_at}
use Rattle.steps.specs.declared.goal.Goal.{Goal}
use Rattle.steps.specs.declared.opened.Premise.{Premise}
use Rattle.steps.specs.declared.opened.Opened.{Opened}
use Rattle.steps.specs.declared.opened.Opened.TheVariants.{Refused, Closed, One, Two}
use Rattle.steps.specs.Obligation.{Obligation, adding}
use Rattle.steps.specs.Step.{Rule, names, plain, unknown, rules, applied, opens, step}
use Rattle.steps.specs.Steps.{premises}
use Rattle.steps.specs.Trace.{Line, lines}
use Rattle.steps.specs.PremiseCounts.{premise_counts, CountPerRule, PremisesCounted, lines_of_all, PremisesOfDerivation}
use Rattle.steps.proofs.Cases.{OfPremises, truth_cases, affirmation_cases, served_cases, atom_cases, false_cases, implies_cases, and_cases, or_cases, says_cases, Each, ◌then◌, get_d_cases}

-- ---- the twelve rules

-- as many as the row of code c has
abbrev pub Counted : ℕ → List Premise → Type 0
Counted c ps = get_elem? premise_counts c ≡ some (length ps)

-- The rule opens so many, whatever it names; what is no rule opens none.
abbrev pub Opens : ℕ → Rule → Type 0
Opens c (names rule) = (n : ℕ) (g : Goal) → OfPremises (Counted c) (rule n g)
Opens c (plain rule) = (g : Goal) → OfPremises (Counted c) (rule g)
Opens c unknown = Unit

module _ (speaks : ℕ → ℕ → Bool) (es : List Entry) where
  -- in the order of their codes
  each_counts : Each Opens (rules speaks es)
  each_counts =
      (λ n. truth_cases (λ h m. Unit) (λ h. Counted 0) _
      (λ f. atom_cases (λ m. Unit) (Counted 0) (entry_at es f.0) _
      (λ a e. pick_cases (OfPremises (Counted 0)) (eqb n f.0) (λ t. refl) (λ t. tt)) (λ u. tt))
      (λ k f. tt))
      then affirmation_cases (λ h m. Unit) (λ h. Counted 1) _ (λ k a. refl) (λ f. tt)
      then truth_cases (λ h m. Unit) (λ h. Counted 2) _ (λ f. implies_cases (λ m. Unit) (Counted 2) (entry_at es f.0) _ (λ a b e. refl) (λ u. tt)) (λ k f. tt)
      then (λ n g. implies_cases (λ m. Unit) (Counted 3) (entry_at es n) _ (λ a b e. refl) (λ u. tt))
      then (λ n g. false_cases (λ m. Unit) (Counted 4) (entry_at es n) _ (λ e. refl) (λ u. tt))
      then truth_cases (λ h m. Unit) (λ h. Counted 5) _ (λ f. and_cases (λ m. Unit) (Counted 5) (entry_at es f.0) _ (λ a b e. refl) (λ u. tt)) (λ k f. tt)
      then (λ n g. and_cases (λ m. Unit) (Counted 6) (entry_at es n) _ (λ a b e. refl) (λ u. tt))
      then truth_cases (λ h m. Unit) (λ h. Counted 7) _ (λ f. or_cases (λ m. Unit) (Counted 7) (entry_at es f.0) _ (λ a b e. refl) (λ u. tt)) (λ k f. tt)
      then truth_cases (λ h m. Unit) (λ h. Counted 8) _ (λ f. or_cases (λ m. Unit) (Counted 8) (entry_at es f.0) _ (λ a b e. refl) (λ u. tt)) (λ k f. tt)
      then (λ n g. or_cases (λ m. Unit) (Counted 9) (entry_at es n) _ (λ a b e. refl) (λ u. tt))
      then truth_cases (λ h m. Unit) (λ h. Counted 10) _ (λ f. says_cases (λ m. Unit) (Counted 10) (entry_at es f.0) _ (λ k a e. refl) (λ u. tt)) (λ k f. tt)
      then (λ n g. says_cases (λ m. Unit) (Counted 11) (entry_at es n) _
      (λ k a e. served_cases (λ h m. Unit) (λ h. Counted 11) speaks k (λ h. One (adding h a)) (λ l f t. refl)
      (λ l f t. tt) (λ f. tt) g) (λ u. tt))
      then tt

  pub code_counts : (c : ℕ) → Opens c (get_or (rules speaks es) c unknown)
  code_counts = get_d_cases Opens (rules speaks es) unknown each_counts (λ c high. tt)

  -- ---- a step

  -- a rule that is applied, with tests 11 and 12
  applied_counts : (c : ℕ) (rule : Rule) → Opens c rule → (hs : List ℕ) (n : ℕ) (g : Goal)
      → OfPremises (Counted c) (applied speaks es rule hs n g)
  applied_counts c (names rule) h hs n g =
      pick_cases (OfPremises (Counted c)) (both (ltb n (length es)) (holds hs n)) (λ t. h n g) (λ t. tt)
  applied_counts c (plain rule) h hs n g = pick_cases (OfPremises (Counted c)) (eqb n 0) (λ t. h g) (λ t. tt)
  applied_counts c unknown h hs n g = tt

  pub step_counts : (limit w : ℕ) (o : Obligation) → OfPremises (Counted (upper w)) (step speaks es limit w o)
  unfolding step opens
  step_counts limit w o =
      pick_cases (OfPremises (Counted (upper w))) (leb o.depth limit)
      (λ t. applied_counts (upper w) (get_or (rules speaks es) (upper w) unknown) (code_counts (upper w)) o.hypotheses
      (lower w) o.goal)
      (λ t. tt)

-- of what is opened, the premises
of_these : (P : List Premise → Type 0) (x : Opened) → OfPremises P x → (ps : List Premise) → premises x ≡ some ps → P ps
of_these P (Refused m) h ps e = absurd (none-ne-some ps e)
of_these P Closed h ps e = let same : [] ≡ ps = cc in rw (← same) h
of_these P (One a) h ps e = let same : a ∷ [] ≡ ps = cc in rw (← same) h
of_these P (Two a b) h ps e = let same : a ∷ b ∷ [] ≡ ps = cc in rw (← same) h

pub count_per_rule : (speaks : ℕ → ℕ → Bool) → CountPerRule speaks
count_per_rule speaks es = refl

pub premises_counted : (speaks : ℕ → ℕ → Bool) → PremisesCounted speaks
premises_counted speaks limit es w o =
    of_these (Counted (upper w)) (step speaks es limit w o) (step_counts speaks es limit w o)

-- ---- a derivation

-- Nothing follows the last subderivation.
then_none : {l : Line} (ls : List Line) → l ∷ ls ≡ l ∷ (ls ++ [])
then_none {l} ls = ap (λ ms. l ∷ ms) (sym (append-nil ls))

then_both : {l : Line} (ls ms : List Line) → l ∷ (ls ++ ms) ≡ l ∷ (ls ++ (ms ++ []))
then_both {l} ls ms = ap (λ ns. l ∷ (ls ++ ns)) (sym (append-nil ms))

pub premises_of_derivation : (R : Relation) → PremisesOfDerivation R
unfolding lines_of_all
premises_of_derivation R Γ γ (init m) = (_, refl, refl)
premises_of_derivation R Γ γ (affirm D) = (_, then_none (lines D), refl)
premises_of_derivation R Γ γ (implies_right D) = (_, then_none (lines D), refl)
premises_of_derivation R Γ γ (implies_left m D E) = (_, then_both (lines D) (lines E), refl)
premises_of_derivation R Γ γ (false_left m) = (_, refl, refl)
premises_of_derivation R Γ γ (and_right D E) = (_, then_both (lines D) (lines E), refl)
premises_of_derivation R Γ γ (and_left m D) = (_, then_none (lines D), refl)
premises_of_derivation R Γ γ (or_right_first D) = (_, then_none (lines D), refl)
premises_of_derivation R Γ γ (or_right_second D) = (_, then_none (lines D), refl)
premises_of_derivation R Γ γ (or_left m D E) = (_, then_both (lines D) (lines E), refl)
premises_of_derivation R Γ γ (says_right D) = (_, then_none (lines D), refl)
premises_of_derivation R Γ γ (says_left m r D) = (_, then_none (lines D), refl)
