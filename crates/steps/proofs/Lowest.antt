-- What the tests of a step have passed leaves no lower reason (specs/Reasons.antt). In order: the rows of 01's table;
-- what each test asks for; the tests passed, one after the other. Assumes nothing.
use Prim.Native.Nat.{ℕ, ◌≤◌, ◌<◌}
use native.Mathlib.Omega.{arith}
use mathlib.Core.Bool.{Bool}
use mathlib.Core.Path.{◌≡◌, sym, ap, subst, ◌∙◌}
use mathlib.Core.Option.{Option, none, some, none-ne-some}
use mathlib.Core.List.{List, map}
use lib.ListN.{get_or-eq_default}
use Rattle.table.specs.declared.entry.Formula.{Formula}
use Rattle.table.specs.declared.entry.Principal.{Principal}
use Rattle.table.specs.declared.entry.Entry.{Entry}
use Rattle.table.specs.declared.entry.Entry.TheVariants.{Says}
use Rattle.table.specs.Tests.{entry_at}
use Rattle.steps.specs.declared.goal.Goal.{Goal}
use Rattle.steps.specs.declared.goal.Goal.TheVariants.{True}
use Rattle.steps.specs.Applies.{Named}
use Rattle.steps.specs.Reasons as Kind
use Rattle.steps.specs.Reasons.{kind_of, Row, rows, row_of, GoalFits, AffirmedBy, StepReason, too_deep, no_rule, needless_part, not_held, outside, other_goal, other_kind, other_atom, not_served}

-- ---- rows

-- a code that has a row is below 12
below_12 : (c : ℕ) {r : Row} → row_of c ≡ some r → ¬ (12 ≤ c)
below_12 c {r} is l = none-ne-some r (sym (get_or-eq_default (map some rows) none l) ∙ is)

-- one code has one row
one_row : (c : ℕ) {r r' : Row} → row_of c ≡ some r → row_of c ≡ some r' → r ≡ r'
one_row c {r} {r'} is is' = let e : some r ≡ some r' = sym is ∙ is' in cc

-- ---- what each of 11 to 14 asks for, of a code with this row

abbrev pub Ruled : ℕ → ℕ → Row → Type 0
Ruled c n r = (row_of c ≡ some r) × (r.named ≡ none → n ≡ 0)

abbrev pub IsHeld : List Entry → List ℕ → ℕ → Row → Type 0
IsHeld es hs n r = (k : Kind.Kind) → r.named ≡ some k → Named es hs n

pub record Fits (es : List Entry) (c n : ℕ) (g : Goal) (r : Row) : Type 0 where
  pub goal_fits : GoalFits es r.below g
  pub kind_fits : (k : Kind.Kind) → r.named ≡ some k → kind_of (entry_at es n) ≡ some k
  pub atom_fits : c ≡ 0 → (f : Formula) → g ≡ True f → n ≡ f.0

abbrev pub IsServed : (ℕ → ℕ → Bool) → List Entry → ℕ → ℕ → Goal → Type 0
IsServed speaks es c n g = c ≡ 11 → (k : Principal) (a : Formula) → entry_at es n ≡ Says k a → AffirmedBy speaks k g

module _ (speaks : ℕ → ℕ → Bool) (es : List Entry) (limit depth : ℕ) (hs : List ℕ) where
  -- a reason that applies, and no lower one does
  pub record Least (c n : ℕ) (g : Goal) (m : ℕ) : Type 0 where
    pub applies : StepReason speaks es limit depth hs c n g m
    pub lowest : (j : ℕ) → StepReason speaks es limit depth hs c n g j → m ≤ j

  -- the tests below b have passed
  pub record Past (b c n : ℕ) (g : Goal) (r : Row) : Type 0 where
    pub ten : 10 < b → depth ≤ limit
    pub eleven : 11 < b → Ruled c n r
    pub twelve : 12 < b → IsHeld es hs n r
    pub thirteen : 13 < b → Fits es c n g r
    pub fourteen : 14 < b → IsServed speaks es c n g

-- ---- what has passed leaves no lower reason

module _ {speaks : ℕ → ℕ → Bool} {es : List Entry} {limit depth : ℕ} {hs : List ℕ} where
  -- the reasons are 10 to 14
  pub in_range : {c n : ℕ} {g : Goal} (m : ℕ) → StepReason speaks es limit depth hs c n g m → (10 ≤ m) × (m ≤ 14)
  in_range m (too_deep e deep) = (omega arith, omega arith)
  in_range m (no_rule e high) = (omega arith, omega arith)
  in_range m (needless_part e is none' part) = (omega arith, omega arith)
  in_range m (not_held e is kind free) = (omega arith, omega arith)
  in_range m (outside e is kind high) = (omega arith, omega arith)
  in_range m (other_goal e is other) = (omega arith, omega arith)
  in_range m (other_kind e is kind other) = (omega arith, omega arith)
  in_range m (other_atom e is truth other) = (omega arith, omega arith)
  in_range m (not_served e is says unserved) = (omega arith, omega arith)

  passed : {b c n : ℕ} {g : Goal} {r : Row}
      → (10 < b → depth ≤ limit) → (11 < b → Ruled c n r) → (12 < b → IsHeld es hs n r) → (13 < b → Fits es c n g r)
      → (14 < b → IsServed speaks es c n g) → Past speaks es limit depth hs b c n g r
  passed p q s t u = record { ten = p; eleven = q; twelve = s; thirteen = t; fourteen = u }

  module _ {b c n : ℕ} {g : Goal} {r : Row} (past : Past speaks es limit depth hs b c n g r) (m : ℕ) where
    unless : (k : ℕ) → m ≡ k → ¬ (k < b) → b ≤ m
    unless k e passed = omega (arith, passed)

    -- what a row names, where it is this one
    names_it : {r' : Row} {k : Option Kind.Kind} → 11 < b → row_of c ≡ some r' → r'.named ≡ k → r.named ≡ k
    names_it l is names' = ap (λ r. r.named) (one_row c (past.eleven l).0 is) ∙ names'

    -- no reason is lower than b
    pub lowest_past : StepReason speaks es limit depth hs c n g m → b ≤ m
    lowest_past (too_deep e deep) = unless 10 e (λ l. let s = past.ten l in omega arith)
    lowest_past (no_rule e high) = unless 11 e (λ l. below_12 c (past.eleven l).0 high)
    lowest_past (needless_part e is none' part) = unless 11 e (λ l. part ((past.eleven l).1 (names_it l is none')))
    lowest_past (not_held e is kind free) = unless 12 e (λ l. free (past.twelve l _ (names_it (omega arith) is kind)).is_held)
    lowest_past (outside e is kind high) =
        unless 12 e (λ l. let i = (past.twelve l _ (names_it (omega arith) is kind)).in_table in omega arith)
    lowest_past (other_goal e is other) =
        unless 13 e
        (λ l. other (subst (λ r. GoalFits es r.below g) (one_row c (past.eleven (omega arith)).0 is) (past.thirteen l).goal_fits))
    lowest_past (other_kind e is kind other) = unless 13 e (λ l. other ((past.thirteen l).kind_fits _ (names_it (omega arith) is kind)))
    lowest_past (other_atom e is truth other) = unless 13 e (λ l. other ((past.thirteen l).atom_fits is _ truth))
    lowest_past (not_served e is says unserved) = unless 14 e (λ l. unserved (past.fourteen l is _ _ says))

  -- ---- the tests passed

  module _ (shallow : depth ≤ limit) where
    -- 10 has passed; and 11, 12, 13, 14, one after the other
    module _ {c n : ℕ} {g : Goal} {r : Row} where
      pub past_10 : Past speaks es limit depth hs 11 c n g r
      past_10 =
          passed (λ l. shallow) (λ l. absurd (omega arith)) (λ l. absurd (omega arith)) (λ l. absurd (omega arith))
          (λ l. absurd (omega arith))

      module _ (ruled : Ruled c n r) where
        pub past_11 : Past speaks es limit depth hs 12 c n g r
        past_11 =
            passed (λ l. shallow) (λ l. ruled) (λ l. absurd (omega arith)) (λ l. absurd (omega arith))
            (λ l. absurd (omega arith))

        module _ (held : IsHeld es hs n r) where
          pub past_12 : Past speaks es limit depth hs 13 c n g r
          past_12 = passed (λ l. shallow) (λ l. ruled) (λ l. held) (λ l. absurd (omega arith)) (λ l. absurd (omega arith))

          module _ (fits : Fits es c n g r) where
            pub past_13 : Past speaks es limit depth hs 14 c n g r
            past_13 = passed (λ l. shallow) (λ l. ruled) (λ l. held) (λ l. fits) (λ l. absurd (omega arith))

            pub past_14 : IsServed speaks es c n g → Past speaks es limit depth hs 15 c n g r
            past_14 served = passed (λ l. shallow) (λ l. ruled) (λ l. held) (λ l. fits) (λ l. served)
