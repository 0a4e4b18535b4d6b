-- Membership in a list, inclusion of lists, and the test for membership. Assumes nothing.
use Rattle.std.specs.Prelude.{ℕ, Bool, true, false, ◌≡◌, ◌↔◌, eqb}
use mathlib.Core.List.{List, [], ◌∷◌, Memᴰ}
use Rattle.basics.specs.Choice.{pick}

infix 40 ◌∈◌ ◌⊆◌
-- a stands at some position of l
abbrev pub ◌∈◌ : {A : Type 0} → A → List A → Type 0
◌∈◌ a l = Memᴰ a l

-- what stands in l stands in m
abbrev pub ◌⊆◌ : {A : Type 0} → List A → List A → Type 0
◌⊆◌ {A = A} l m = (a : A) → a ∈ l → a ∈ m

-- whether n stands in a list of numbers
unfoldable pub holds : List ℕ → ℕ → Bool
holds [] n = false
holds (m ∷ ms) n = pick (eqb m n) true (holds ms n)

-- The test finds exactly the members. Proved in proofs/Membership.antt.
abbrev pub HoldsMember : Type 0
HoldsMember = (ms : List ℕ) (n : ℕ) → holds ms n ≡ true ↔ n ∈ ms
