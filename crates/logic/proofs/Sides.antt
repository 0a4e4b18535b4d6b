-- The samples of sides hold (specs/Sides.antt). Assumes nothing.
use Prim.Native.Nat.{ℕ}
use native.Mathlib.Omega.{arith}
use mathlib.Core.Path.{◌≡◌, refl}
use mathlib.Core.Logic.{◌⊎◌, inl, inr}
use Rattle.logic.specs.Proposition.{Proposition, atom, false, ◌implies◌, ◌and◌, ◌or◌, ◌says◌}
use Rattle.logic.specs.Sides.{Side, proving, given, other, Stands, itself, left_of_implies, right_of_implies, first_of_and, second_of_and, first_of_or, second_of_or, said, seven, SidesAre}

-- Where what 7 says can stand in a formula, read off the formula: in a says-formula on its own side, or in an operand.
abbrev CanStand : Side → Proposition → Side → Type 0
CanStand t (atom a) s = ⊥
CanStand t false s = ⊥
CanStand t (A implies C) s = CanStand t A (other s) ⊎ CanStand t C s
CanStand t (A and C) s = CanStand t A s ⊎ CanStand t C s
CanStand t (A or C) s = CanStand t A s ⊎ CanStand t C s
CanStand t (L says A) s = (t ≡ s) ⊎ CanStand t A s

can_stand : {t s : Side} {A : Proposition} → Stands seven t A s → CanStand t A s
can_stand itself = inl refl
can_stand (left_of_implies i) = inl (can_stand i)
can_stand (right_of_implies i) = inr (can_stand i)
can_stand (first_of_and i) = inl (can_stand i)
can_stand (second_of_and i) = inr (can_stand i)
can_stand (first_of_or i) = inl (can_stand i)
can_stand (second_of_or i) = inr (can_stand i)
can_stand (said i) = inr (can_stand i)

-- The sides are two.
not_both : (s : Side) → ¬ (other s ≡ s)
not_both proving e = let z : ◌≡◌ {A = ℕ} 0 1 = cc in omega arith
not_both given e = let z : ◌≡◌ {A = ℕ} 0 1 = cc in omega arith

-- So what 7 says stands in itself on its own side alone.
here : (s : Side) → ¬ CanStand (other s) seven s
here s (inl e) = not_both s e
here s (inr none) = none

-- In a formula of two operands, where the other is an atom.
in_first : (s : Side) → ¬ (CanStand (other s) seven s ⊎ ⊥)
in_first s (inl i) = here s i
in_first s (inr none) = none

in_second : (s : Side) → ¬ (⊥ ⊎ CanStand (other s) seven s)
in_second s (inl none) = none
in_second s (inr i) = here s i

twice : ¬ CanStand given ((seven implies atom 1) implies atom 2) proving
twice (inl i) = in_first proving i
twice (inr none) = none

in_8 : (s : Side) → ¬ CanStand (other s) (8 says seven) s
in_8 s (inl e) = not_both s e
in_8 s (inr i) = here s i

pub sides_are : SidesAre
sides_are = record {
  goal = (itself, λ i. here proving (can_stand i));
  left_of_goal = (left_of_implies itself, λ i. in_first given (can_stand i));
  left_of_left = (left_of_implies (left_of_implies itself), λ i. twice (can_stand i));
  right_of_goal = (right_of_implies itself, λ i. in_second proving (can_stand i));
  inside_goal = (said itself, λ i. in_8 proving (can_stand i));
  statement = (itself, λ i. here given (can_stand i));
  left_of_statement = (left_of_implies itself, λ i. in_first proving (can_stand i));
  right_of_statement = (right_of_implies itself, λ i. in_second given (can_stand i));
  inside_statement = (said itself, λ i. in_8 given (can_stand i));
  first_conjunct = (first_of_and itself, λ i. in_first given (can_stand i));
  second_conjunct = (second_of_and itself, λ i. in_second given (can_stand i));
  first_disjunct = (first_of_or itself, λ i. in_first given (can_stand i));
  second_disjunct = (second_of_or itself, λ i. in_second given (can_stand i));
}
