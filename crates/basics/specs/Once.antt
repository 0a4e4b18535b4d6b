-- "each once" (01): lists in which nothing stands twice. Proved in proofs/Once.antt. Assumes nothing.
use Rattle.std.specs.Prelude.{ℕ, ◌≤◌, List, [], ◌∷◌, length}
use Rattle.basics.specs.Membership.{◌∈◌, ◌⊆◌}

abbrev pub EachOnce : {A : Type 0} → List A → Type 0
EachOnce [] = Unit
EachOnce (a ∷ l) = (¬ (a ∈ l)) × EachOnce l

abbrev pub EachOnceIs : Type 0
EachOnceIs = EachOnce {A = ℕ} (8 ∷ 7 ∷ 9 ∷ []) × (¬ EachOnce {A = ℕ} (7 ∷ 8 ∷ 7 ∷ []))

-- Such a list is no longer than one that has all its members.
abbrev pub NoMore : Type 1
NoMore = (A : Type 0) (l m : List A) → EachOnce l → l ⊆ m → length l ≤ length m
