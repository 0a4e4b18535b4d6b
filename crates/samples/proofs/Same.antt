-- What the library's test of two byte strings says. Assumes nothing.
use Prim.Native.Nat.{ℕ}
use mathlib.Core.Bool.{Bool, true, false, ◌&&◌}
use mathlib.Core.Path.{◌≡◌, refl, ap₂, ◌∙◌}
use mathlib.Core.List.{List, [], ◌∷◌}
use lib.Dec.{eqb}
use lib.Pointwise.{pointwise}
use Rattle.std.proofs.lemmas.Cmp.{nat_eq_equiv}
use Rattle.basics.specs.Choice.{both}
use Rattle.samples.specs.EndsWith.{same}

both_is : (a b : Bool) → (a && b) ≡ both a b
both_is true b = refl
both_is false b = refl

-- It is `same`, whichever of the two stands first.
pub pointwise_same : (xs ys : List ℕ) → pointwise eqb ys xs ≡ same xs ys
unfolding same
pointwise_same [] [] = refl
pointwise_same [] (y ∷ ys) = refl
pointwise_same (x ∷ xs) [] = refl
pointwise_same (x ∷ xs) (y ∷ ys) =
    both_is (eqb y x) (pointwise eqb ys xs) ∙ ap₂ both (nat_eq_equiv.symm y x) (pointwise_same xs ys)
