-- How many premises there are says what is opened: where the step isn't refused and the count of its code is 0, 1, or
-- neither, it closes, has one premise, or two. Assumes nothing.
use Prim.Native.Nat.{ℕ, zero, suc}
use native.Mathlib.Omega.{arith}
use mathlib.Core.Path.{◌≡◌, refl}
use mathlib.Core.Option.{some, none-ne-some}
use mathlib.Core.List.{List, [], ◌∷◌}
use lib.ListN.{length, get_or, get_elem?}
use Rattle.steps.specs.declared.goal.Goal.{Goal}
use Rattle.steps.specs.declared.opened.Premise.{Premise}
use Rattle.steps.specs.declared.opened.Opened.{Opened}
use Rattle.steps.specs.declared.opened.Opened.TheVariants.{Refused, Closed, One, Two}
use Rattle.steps.specs.PremiseCounts.{premise_counts}
use Rattle.steps.proofs.Cases.{OfPremises}
use Rattle.steps.proofs.PremiseCounts.{Counted}
use Rattle.premises.specs.declared.premises.Premises.{Premises}
use Rattle.premises.specs.declared.premises.Premises.TheVariants as Shape
use Rattle.premises.specs.Premises.{opened, first_of, last_of}

-- not refused
abbrev pub Taken : Opened → Type 0
Taken (Refused n) = ⊥
Taken Closed = Unit
Taken (One a) = Unit
Taken (Two a b) = Unit

-- Every shape but one is taken.
pub shape_taken : (x : Premises) (g : Goal) → ((n : ℕ) → ¬ (x ≡ Shape.Refused n)) → Taken (opened g x)
shape_taken (Shape.Refused n) g other = absurd (other n refl)
shape_taken Shape.Closed g other = tt
shape_taken (Shape.Truth a) g other = tt
shape_taken (Shape.TruthWith b a) g other = tt
shape_taken (Shape.With a) g other = tt
shape_taken (Shape.WithBoth a b) g other = tt
shape_taken (Shape.TruthThenWith a b) g other = tt
shape_taken (Shape.BothTruths a b) g other = tt
shape_taken (Shape.WithEither a b) g other = tt
shape_taken (Shape.Affirmation k a) g other = tt

-- what stands at a place of a list
stands : {A : Type 0} (l : List A) (i : ℕ) (d a : A) → get_elem? l i ≡ some a → get_or l i d ≡ a
stands [] i d a e = absurd (none-ne-some a e)
stands (b ∷ l) zero d a e = cc
stands (b ∷ l) (suc i) d a e = stands l i d a e

module _ (code : ℕ) where
  -- the count of a code
  abbrev counted : ℕ
  counted = get_or premise_counts code 0

  count_is : (ps : List Premise) → Counted code ps → counted ≡ length ps
  count_is ps h = stands premise_counts code 0 (length ps) h

  -- The count says which it is.
  pub none_opened : (y : Opened) → OfPremises (Counted code) y → Taken y → counted ≡ 0 → y ≡ Closed
  none_opened (Refused n) h t c = absurd t
  none_opened Closed h t c = refl
  none_opened (One a) h t c = absurd (omega (arith, count_is (a ∷ []) h))
  none_opened (Two a b) h t c = absurd (omega (arith, count_is (a ∷ b ∷ []) h))

  pub one_opened : (g : Goal) (y : Opened) → OfPremises (Counted code) y → Taken y → counted ≡ 1 → y ≡ One (last_of g y)
  one_opened g (Refused n) h t c = absurd t
  one_opened g Closed h t c = absurd (omega (arith, count_is [] h))
  one_opened g (One a) h t c = refl
  one_opened g (Two a b) h t c = absurd (omega (arith, count_is (a ∷ b ∷ []) h))

  pub two_opened : (g : Goal) (y : Opened) → OfPremises (Counted code) y → Taken y → ¬ (counted ≡ 0) → ¬ (counted ≡ 1)
      → y ≡ Two (first_of g y) (last_of g y)
  two_opened g (Refused n) h t c d = absurd t
  two_opened g Closed h t c d = absurd (c (count_is [] h))
  two_opened g (One a) h t c d = absurd (d (count_is (a ∷ []) h))
  two_opened g (Two a b) h t c d = refl
